-- The lookup of a name, folder by folder upwards.
use Rattle.std.specs.Prelude.{◌≡◌, [], ◌∷◌, ◌++◌, Option, Some, None}
use Rattle.pn_text.specs.Path.{Path}
use Rattle.pn_text.specs.Name.{modules}
use Rattle.pn_fs.specs.Tree.{Tree}
use Rattle.pn_node.specs.Find.{walk, real, folder_or, find}
use Rattle.pn_node.specs.Steps.{steps_of}
use Rattle.pn_node.specs.declared.walk.Walk.{Walk}

-- this path, or else another answer
abbrev pub found_or : Option Path → Option Path → Option Path
found_or None other = other
found_or (Some p) other = Some p

-- what a name finds from the folder above
abbrev pub find_above : Tree → Path → Path → Option Path
find_above t [] name = None
find_above t (x ∷ p) name = find t p name

-- A folder's own `node_modules` has this package, or else the folder above finds one.
abbrev pub IsFoundNear : Tree → Path → Path → Option Path → Type 0
IsFoundNear t p name found = find t p name ≡ found_or found (find_above t p name)

-- The walk leads to a name in a folder's `node_modules`.
abbrev pub LeadsIn : Tree → Path → Path → Walk → Type 0
LeadsIn t p name w = walk 40 t w.at (steps_of w.steps.items) ≡ real t (name ++ modules ∷ p)

-- the path, where a folder stands there
abbrev pub IsFolderOr : Tree → Path → Option Path → Type 0
IsFolderOr t p found = (other : Option Path) → folder_or t (Some p) other ≡ found_or found other
