-- Lookups in small trees, computed.
use Rattle.std.specs.Prelude.{◌≡◌, ℕ, List, [], ◌∷◌, Some, None, if◌then◌else◌, codes, refl}
use Rattle.pn_text.specs.Path.{Path, same_path, path_of}
use Rattle.pn_fs.specs.Tree.{Entry, folder, file, link, Tree}
use Rattle.pn_text.specs.Name.{name_path}
use Rattle.pn_node.specs.Find.{dirs, find}

abbrev pub tree_of : List (Path × Entry) → Tree
tree_of [] q = None
tree_of (e ∷ es) q = if same_path e.0 q then Some e.1 else tree_of es q

abbrev pub at : List ℕ → Entry → Path × Entry
at text e = (path_of text, e)

-- the lookup folders, by the example of the Modules page
pub of_home : dirs (path_of (codes "/home/ry/projects")) ≡ path_of (codes "/home/ry/projects/node_modules") ∷ path_of (codes "/home/ry/node_modules") ∷ path_of (codes "/home/node_modules") ∷ path_of (codes "/node_modules") ∷ []
of_home = refl

pub of_modules : dirs (path_of (codes "/w/node_modules/a")) ≡ path_of (codes "/w/node_modules/a/node_modules") ∷ path_of (codes "/w/node_modules") ∷ path_of (codes "/node_modules") ∷ []
of_modules = refl

-- The root depends on a, and a on b.
abbrev pub small : Tree
small = tree_of (at (codes "/") folder
    ∷ at (codes "/w") folder
    ∷ at (codes "/w/node_modules") folder
    ∷ at (codes "/w/node_modules/a") (link (codes ".pnpm/a@1.0.0/node_modules/a"))
    ∷ at (codes "/w/node_modules/.pnpm") folder
    ∷ at (codes "/w/node_modules/.pnpm/a@1.0.0") folder
    ∷ at (codes "/w/node_modules/.pnpm/a@1.0.0/node_modules") folder
    ∷ at (codes "/w/node_modules/.pnpm/a@1.0.0/node_modules/a") folder
    ∷ at (codes "/w/node_modules/.pnpm/a@1.0.0/node_modules/b") (link (codes "../../b@1.0.0/node_modules/b"))
    ∷ at (codes "/w/node_modules/.pnpm/b@1.0.0") folder
    ∷ at (codes "/w/node_modules/.pnpm/b@1.0.0/node_modules") folder
    ∷ at (codes "/w/node_modules/.pnpm/b@1.0.0/node_modules/b") folder
    ∷ [])

abbrev pub a_home : Path
a_home = path_of (codes "/w/node_modules/.pnpm/a@1.0.0/node_modules/a")

abbrev pub b_home : Path
b_home = path_of (codes "/w/node_modules/.pnpm/b@1.0.0/node_modules/b")

-- a finds itself, and b by its own link
pub a_from_a : find small a_home (name_path (codes "a")) ≡ Some a_home
a_from_a = refl

pub b_from_a : find small a_home (name_path (codes "b")) ≡ Some b_home
b_from_a = refl

-- b finds a by the root's link, and the root doesn't find b
pub a_from_b : find small b_home (name_path (codes "a")) ≡ Some a_home
a_from_b = refl

pub b_from_root : find small (path_of (codes "/w")) (name_path (codes "b")) ≡ None
b_from_root = refl

pub scope_from_a : find small a_home (name_path (codes "@s/c")) ≡ None
scope_from_a = refl

-- The packages a and @s/c depend on one another. @s/c has a folder `lib/node_modules`, with a folder b
-- and a file a, and depends on b.
abbrev pub round : Tree
round = tree_of (at (codes "/") folder
    ∷ at (codes "/v") folder
    ∷ at (codes "/v/a@1.0.0") folder
    ∷ at (codes "/v/a@1.0.0/node_modules") folder
    ∷ at (codes "/v/a@1.0.0/node_modules/a") folder
    ∷ at (codes "/v/a@1.0.0/node_modules/a/lib") folder
    ∷ at (codes "/v/a@1.0.0/node_modules/@s") folder
    ∷ at (codes "/v/a@1.0.0/node_modules/@s/c") (link (codes "../../../@s+c@1.0.0/node_modules/@s/c"))
    ∷ at (codes "/v/@s+c@1.0.0") folder
    ∷ at (codes "/v/@s+c@1.0.0/node_modules") folder
    ∷ at (codes "/v/@s+c@1.0.0/node_modules/@s") folder
    ∷ at (codes "/v/@s+c@1.0.0/node_modules/@s/c") folder
    ∷ at (codes "/v/@s+c@1.0.0/node_modules/@s/c/lib") folder
    ∷ at (codes "/v/@s+c@1.0.0/node_modules/@s/c/lib/node_modules") folder
    ∷ at (codes "/v/@s+c@1.0.0/node_modules/@s/c/lib/node_modules/b") folder
    ∷ at (codes "/v/@s+c@1.0.0/node_modules/@s/c/lib/node_modules/a") (file [])
    ∷ at (codes "/v/@s+c@1.0.0/node_modules/a") (link (codes "../../a@1.0.0/node_modules/a"))
    ∷ at (codes "/v/@s+c@1.0.0/node_modules/b") (link (codes "../../b@1.0.0/node_modules/b"))
    ∷ at (codes "/v/b@1.0.0") folder
    ∷ at (codes "/v/b@1.0.0/node_modules") folder
    ∷ at (codes "/v/b@1.0.0/node_modules/b") folder
    ∷ [])

abbrev pub c_home : Path
c_home = path_of (codes "/v/@s+c@1.0.0/node_modules/@s/c")

-- a scoped name, from inside the package too
pub c_from_a : find round (path_of (codes "/v/a@1.0.0/node_modules/a")) (name_path (codes "@s/c")) ≡ Some c_home
c_from_a = refl

pub c_from_lib : find round (path_of (codes "/v/a@1.0.0/node_modules/a/lib")) (name_path (codes "@s/c")) ≡ Some c_home
c_from_lib = refl

-- and back, and itself
pub a_from_c : find round c_home (name_path (codes "a")) ≡ Some (path_of (codes "/v/a@1.0.0/node_modules/a"))
a_from_c = refl

pub c_from_c : find round c_home (name_path (codes "@s/c")) ≡ Some c_home
c_from_c = refl

pub d_from_c : find round c_home (name_path (codes "@s/d")) ≡ None
d_from_c = refl

-- b is found by the link from the package folder, and in the package's own `node_modules` from below
-- it: this is why a package with such a folder is refused
pub b_from_c : find round c_home (name_path (codes "b")) ≡ Some (path_of (codes "/v/b@1.0.0/node_modules/b"))
b_from_c = refl

pub b_from_inside : find round (path_of (codes "/v/@s+c@1.0.0/node_modules/@s/c/lib")) (name_path (codes "b")) ≡ Some (path_of (codes "/v/@s+c@1.0.0/node_modules/@s/c/lib/node_modules/b"))
b_from_inside = refl

-- a file is passed over
pub a_from_inside : find round (path_of (codes "/v/@s+c@1.0.0/node_modules/@s/c/lib")) (name_path (codes "a")) ≡ Some (path_of (codes "/v/a@1.0.0/node_modules/a"))
a_from_inside = refl
