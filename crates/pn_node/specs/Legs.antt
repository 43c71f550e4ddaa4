-- What is met on a walk, and where its legs end.
use Rattle.std.specs.Prelude.{◌≡◌, ℕ, List, ◌∷◌, Option, Some, None}
use Rattle.pn_text.specs.Path.{Path}
use Rattle.pn_fs.specs.Tree.{folder, file, link, Tree}
use Rattle.pn_node.specs.Find.{Step, at_file, led, walk_on}
use Rattle.pn_node.specs.declared.walk.Leg.{Leg}
use Rattle.pn_node.specs.declared.walk.Leg.TheVariants.{There, Nowhere, Onward}
use Rattle.pn_node.specs.declared.entry.Met.{Met}
use Rattle.pn_node.specs.declared.entry.Met.TheVariants.{Nothing, Folder, File, Link}

-- what a place and the steps that are left come to
abbrev pub Again : Type 0
Again = Path → List Step → Option Path

-- The end of a leg at a place q. Behind a link `again` walks on.
abbrev pub ends : Again → Path → List Step → Leg → Option Path
ends again q left There = Some q
ends again q left Nowhere = None
ends again q left Onward = again q left

-- A step that ends no leg leads to a folder.
abbrev pub goes : Again → Tree → Path → List Step → Option Leg → Option Path
goes again t q left None = walk_on again t q left
goes again t q left (Some leg) = ends again q left leg

-- These steps from p come to the same as the end of a leg.
abbrev pub EndsAt : Tree → Path → List Step → Path → List Step → Leg → Type 0
EndsAt t p steps q left leg = (again : Again) → walk_on again t p steps ≡ ends again q left leg

-- A step from p and those behind it come to the same as the steps that are left.
abbrev pub Goes : Tree → Path → Step → List Step → Path → List Step → Option Leg → Type 0
Goes t p step steps q left leg = (again : Again) → walk_on again t p (step ∷ steps) ≡ goes again t q left leg

-- what stands at an entry of the folder p
abbrev pub IsMet : Tree → Path → List ℕ → Met → Type 0
IsMet t p x Nothing = t (x ∷ p) ≡ None
IsMet t p x (Folder q) = (q ≡ x ∷ p) × (t (x ∷ p) ≡ Some folder)
IsMet t p x (File q) = (q ≡ x ∷ p) × ((bytes : List ℕ) × (t (x ∷ p) ≡ Some (file bytes)))
IsMet t p x (Link text) = t (x ∷ p) ≡ Some (link text)

-- what the steps behind it come to
abbrev pub met_goes : Again → Tree → Path → List Step → Met → Option Path
met_goes again t p steps Nothing = None
met_goes again t p steps (Folder q) = walk_on again t q steps
met_goes again t p steps (File q) = at_file q steps
met_goes again t p steps (Link text) = led again p text steps

abbrev pub GoesFrom : Path → Met → List Step → Path → List Step → Option Leg → Type 0
GoesFrom p met steps q left leg = (again : Again) (t : Tree) → met_goes again t p steps met ≡ goes again t q left leg

abbrev pub EndsAtFile : Path → List Step → Path → List Step → Leg → Type 0
EndsAtFile p steps q left leg = (again : Again) → at_file p steps ≡ ends again q left leg

abbrev pub EndsBehind : Path → List ℕ → List Step → Path → List Step → Leg → Type 0
EndsBehind p text steps q left leg = (again : Again) → led again p text steps ≡ ends again q left leg
