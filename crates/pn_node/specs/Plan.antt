-- What an install plans: instances of packages in the virtual store, links, and markers.
use Rattle.std.specs.Prelude.{◌≡◌, ◌≢◌, ◌⊎◌, ℕ, true, false, List, [], ◌∷◌, ◌++◌, Some, codes}
use Rattle.std.specs.List.{Contains}
use Rattle.pn_text.specs.Path.{Path}
use Rattle.pn_text.specs.Name.{is_name, name_path, modules, holds_modules}
use Rattle.pn_text.specs.Relative.{parent_of, IsRelative}
use Rattle.pn_fs.specs.Tree.{Entry, folder, file, link, Tree}

-- An instance of a package: the name of its folder in the virtual store, the package's name, the
-- files below the package folder, and the names of its dependencies with the folders that they lead to.
pub record Instance : Type 0 where
  pub dir : List ℕ
  pub name : List ℕ
  pub files : List (Path × List ℕ)
  pub links : List (List ℕ × Path)

-- A name in a `node_modules` outside the instances, and the folder that it leads to.
pub record TopLink : Type 0 where
  pub holder : Path
  pub name : List ℕ
  pub target : Path

-- The virtual store's folder, the managed folders, the folders that hold a marker with its text, the
-- instances, and the links of projects and of hoisting.
pub record Plan : Type 0 where
  pub store : Path
  pub managed : List Path
  pub markers : List (Path × List ℕ)
  pub instances : List Instance
  pub tops : List TopLink

abbrev pub marker_name : List ℕ
marker_name = codes ".pnpm-rs"

-- the folder that an instance's package and the links of its dependencies stand in
abbrev pub beside : Path → Instance → Path
beside store g = modules ∷ g.dir ∷ store

-- the package folder of an instance
abbrev pub home : Path → Instance → Path
home store g = name_path g.name ++ beside store g

-- Where a dependency's link stands, and where a top link does.
abbrev pub link_place : Path → Instance → List ℕ → Path
link_place store g x = name_path x ++ beside store g

abbrev pub top_place : TopLink → Path
top_place l = name_path l.name ++ l.holder

-- What is planned for its own sake. A link's text is the relative path from the link's folder.
pub data IsPlanned (plan : Plan) : Path → Entry → Type 0 where
  marker : (m : Path) (text : List ℕ) → Contains plan.markers (m, text) → IsPlanned plan (marker_name ∷ m) (file text)
  own : (g : Instance) → Contains plan.instances g → IsPlanned plan (home plan.store g) folder
  content : (g : Instance) (f : Path) (bytes : List ℕ) → Contains plan.instances g → Contains g.files (f, bytes) → IsPlanned plan (f ++ home plan.store g) (file bytes)
  dependency : (g : Instance) (x : List ℕ) (target : Path) (text : List ℕ) → Contains plan.instances g → Contains g.links (x, target)
      → IsRelative (parent_of (link_place plan.store g x)) target text → IsPlanned plan (link_place plan.store g x) (link text)
  top : (l : TopLink) (text : List ℕ) → Contains plan.tops l → IsRelative (parent_of (top_place l)) l.target text → IsPlanned plan (top_place l) (link text)

-- The entries of the build: the managed folders, what is planned, and the folders on the way from a
-- managed folder to what is planned.
pub data InBuild (plan : Plan) : Path → Entry → Type 0 where
  managed : (m : Path) → Contains plan.managed m → InBuild plan m folder
  planned : (q : Path) (e : Entry) → IsPlanned plan q e → InBuild plan q e
  between : (m r below : Path) (x : List ℕ) (e : Entry) → Contains plan.managed m → IsPlanned plan (below ++ x ∷ (r ++ m)) e → InBuild plan (r ++ m) folder

-- A tree has the build's entries, and no others at and below the managed folders.
pub record IsBuilt (t : Tree) (plan : Plan) : Type 0 where
  pub only : (m r : Path) (e : Entry) → Contains plan.managed m → t (r ++ m) ≡ Some e → InBuild plan (r ++ m) e
  pub all : (q : Path) (e : Entry) → InBuild plan q e → t q ≡ Some e

-- A top link has a package name, and stands in the virtual store's `node_modules` or outside the
-- virtual store.
pub record IsSoundTop (store : Path) (l : TopLink) : Type 0 where
  pub named : is_name l.name ≡ true
  pub outside : (l.holder ≡ modules ∷ store) ⊎ ((r : Path) → top_place l ≡ r ++ store → ⊥)

-- A file stands below the package folder, and no part of its path is `node_modules`.
pub record IsSoundFile (f : Path) : Type 0 where
  pub below : f ≢ []
  pub clean : holds_modules f ≡ false

-- What every plan of an install keeps.
pub record IsSound (plan : Plan) : Type 0 where
  -- the virtual store is at or below a managed folder, and none is below it
  pub under : (m : Path) × (r : Path) × Contains plan.managed m × (plan.store ≡ r ++ m)
  pub stores : (m r : Path) → Contains plan.managed m → m ≡ r ++ plan.store → r ≡ []
  -- no two instances share a folder, and none is named `node_modules`
  pub apart : (a b : Instance) → Contains plan.instances a → Contains plan.instances b → a.dir ≡ b.dir → a ≡ b
  pub dirs : (g : Instance) → Contains plan.instances g → g.dir ≢ modules
  pub names : (g : Instance) → Contains plan.instances g → is_name g.name ≡ true
  pub files : (g : Instance) (f : Path) (bytes : List ℕ) → Contains plan.instances g → Contains g.files (f, bytes) → IsSoundFile f
  -- a dependency bears a package name, and not the package's own
  pub links : (g : Instance) (x : List ℕ) (target : Path) → Contains plan.instances g → Contains g.links (x, target) → (is_name x ≡ true) × (x ≢ g.name)
  pub tops : (l : TopLink) → Contains plan.tops l → IsSoundTop plan.store l
  -- no marker stands deeper in the virtual store than in its folder
  pub marked : (m r : Path) (text : List ℕ) → Contains plan.markers (m, text) → marker_name ∷ m ≡ r ++ plan.store → m ≡ plan.store
