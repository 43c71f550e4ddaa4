-- The tree that nodes show, each kept under the text of its path.
use Rattle.std.specs.Prelude.{◌≤◌, [], ◌∷◌, length, IsTrue, String, Some, None, if◌then◌else◌}
use Rattle.std.specs.Option.{option_map}
use Rattle.std.specs.BTreeMap.{BTreeMap, get_by_text}
use Rattle.pn_text.specs.Path.{Path, is_path, path_text}
use Rattle.pn_fs.specs.Tree.{folder, Tree}
use Rattle.pn_fs.specs.Bodies.{entry_of}
use Rattle.pn_fs.specs.declared.body.Body.{Body}
use Rattle.pn_text.specs.declared.limits.TheConstants.{PATH_LIMIT}

-- `/` stands without a node. Nothing stands at what is no path.
abbrev pub rooted : {A : Type 0} → BTreeMap (String A) Body → Tree
rooted m [] = Some folder
rooted m (x ∷ p) = if is_path (x ∷ p) then option_map entry_of (get_by_text m (path_text (x ∷ p))) else None

-- what an entry's path keeps
abbrev pub IsShortPath : Path → Type 0
IsShortPath p = IsTrue (is_path p) × (length (path_text p) ≤ PATH_LIMIT)
