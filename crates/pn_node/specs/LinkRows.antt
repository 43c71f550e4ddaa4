-- Real paths over links, computed.
use Rattle.std.specs.Prelude.{◌≡◌, ℕ, ◌+◌, nat_lt, [], ◌∷◌, Some, None, if◌then◌else◌, codes, refl}
use Rattle.pn_text.specs.Path.{Path, path_of}
use Rattle.pn_fs.specs.Tree.{folder, file, link, Tree}
use Rattle.pn_node.specs.Find.{real}
use Rattle.pn_node.specs.Rows.{tree_of, at}

abbrev pub linked : Tree
linked = tree_of (at (codes "/") folder
    ∷ at (codes "/d") folder
    ∷ at (codes "/d/e") folder
    ∷ at (codes "/d/f") (file [])
    ∷ at (codes "/x") (link (codes "y"))
    ∷ at (codes "/y") (link (codes "x"))
    ∷ at (codes "/self") (link (codes "self/d"))
    ∷ at (codes "/to_d") (link (codes "d"))
    ∷ at (codes "/d/up") (link (codes "../../../d/e"))
    ∷ at (codes "/empty") (link [])
    ∷ at (codes "/d/absolute") (link (codes "/d/e"))
    ∷ at (codes "/d/slash") (link (codes "/"))
    ∷ at (codes "/dots") (link (codes "./d//./e/."))
    ∷ at (codes "/around") (link (codes "d/e/../../to_d/e"))
    ∷ at (codes "/file_dot") (link (codes "d/f/."))
    ∷ at (codes "/file_up") (link (codes "d/f/.."))
    ∷ at (codes "/missing") (link (codes "d/no/.."))
    ∷ [])

abbrev pub e_path : Path
e_path = path_of (codes "/d/e")

pub itself : real linked e_path ≡ Some e_path
itself = refl

pub root : real linked [] ≡ Some []
root = refl

pub absent : real linked (path_of (codes "/d/no")) ≡ None
absent = refl

-- links that lead round and round
pub cycle : real linked (path_of (codes "/x")) ≡ None
cycle = refl

pub into_itself : real linked (path_of (codes "/self")) ≡ None
into_itself = refl

-- a link on the way
pub through : real linked (path_of (codes "/to_d/e")) ≡ Some e_path
through = refl

-- above `/` is `/`
pub above_root : real linked (path_of (codes "/d/up")) ≡ Some e_path
above_root = refl

-- an empty text leads nowhere
pub empty : real linked (path_of (codes "/empty")) ≡ None
empty = refl

pub absolute : real linked (path_of (codes "/d/absolute")) ≡ Some e_path
absolute = refl

pub to_root : real linked (path_of (codes "/d/slash/d/e")) ≡ Some e_path
to_root = refl

-- `.` and empty parts count for nothing
pub dotted : real linked (path_of (codes "/dots")) ≡ Some e_path
dotted = refl

pub around : real linked (path_of (codes "/around")) ≡ Some e_path
around = refl

-- a file has no further parts, `..` included
pub a_file : real linked (path_of (codes "/d/f")) ≡ Some (path_of (codes "/d/f"))
a_file = refl

pub below_file : real linked (path_of (codes "/d/f/x")) ≡ None
below_file = refl

pub file_dot : real linked (path_of (codes "/file_dot")) ≡ Some (path_of (codes "/d/f"))
file_dot = refl

pub file_up : real linked (path_of (codes "/file_up")) ≡ None
file_up = refl

-- `..` behind a part that is missing
pub missing_up : real linked (path_of (codes "/missing")) ≡ None
missing_up = refl

-- In `/` each byte from 100 on names a link to the next byte, so many, and the last one is a folder.
abbrev pub chain : ℕ → Tree
chain links [] = Some folder
chain links ((b ∷ []) ∷ []) = if nat_lt b (100 + links) then Some (link ((b + 1) ∷ [])) else Some folder
chain links ((b ∷ []) ∷ x ∷ p) = None
chain links ([] ∷ p) = None
chain links ((b ∷ c ∷ bs) ∷ p) = None

-- 40 links are followed, and no more
pub forty : real (chain 40) ((100 ∷ []) ∷ []) ≡ Some ((140 ∷ []) ∷ [])
forty = refl

pub forty_one : real (chain 41) ((100 ∷ []) ∷ []) ≡ None
forty_one = refl
