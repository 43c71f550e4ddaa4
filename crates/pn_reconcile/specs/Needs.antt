-- What of a plan the store is asked for.
use Rattle.std.specs.Prelude.{ℕ, List, Option}
use Rattle.std.specs.List.{Contains}
use Rattle.pn_text.specs.Path.{Path}
use Rattle.pn_fs.specs.Tree.{Tree}
use Rattle.pn_digest.specs.declared.planned.Planned.TheVariants as planned
use Rattle.pn_repair.specs.Stands.{StandsAs, NeedsNoFile}
use Rattle.pn_repair.specs.declared.fault.RepairFault.{RepairFault}
use Rattle.pn_repair.specs.declared.fault.RepairFault.TheVariants.{StoreFault, Stored}
use Rattle.pn_clear.specs.Items.{Item}

-- each file that is planned from the store stands in the tree that is told
abbrev pub NeedsNoFiles : List Item → Option Tree → Type 0
NeedsNoFiles plan shown = (e : Item) → Contains plan e → NeedsNoFile e.1 e.0 shown

-- a file of this digest is planned where it doesn't stand
abbrev pub IsMissing : List Item → Tree → List ℕ → Type 0
IsMissing plan t at = (p : Path) × Contains plan (p, planned.Stored at) × (StandsAs (planned.Stored at) (t p) → ⊥)

-- the store was asked for one that didn't stand
abbrev pub IsNeeded : List Item → Tree → RepairFault → Type 0
IsNeeded plan t StoreFault = (at : List ℕ) × IsMissing plan t at
IsNeeded plan t (Stored at found) = IsMissing plan t at
IsNeeded plan t e = Unit {0}
