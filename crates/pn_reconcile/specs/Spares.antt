-- Which paths are written, and why nothing else was.
use Rattle.std.specs.Prelude.{◌≡◌, ℕ, List, ◌++◌}
use Rattle.std.specs.List.{Contains}
use Rattle.pn_text.specs.Path.{Path}
use Rattle.pn_fs.specs.Tree.{Tree}
use Rattle.pn_fs.specs.Seen.{Seen as Shown}
use Rattle.pn_digest.specs.declared.planned.Planned.TheVariants as planned
use Rattle.pn_storecore.specs.Seen.{Seen}
use Rattle.pn_scan.specs.Managed.{Managed}
use Rattle.pn_repair.specs.Stands.{StandsAs}
use Rattle.pn_repair.specs.declared.fault.RepairFault.{RepairFault}
use Rattle.pn_repair.specs.declared.fault.RepairFault.TheVariants.{StoreFault, Stored}
use Rattle.pn_clear.specs.Items.{Item}
use Rattle.pn_reconcile.specs.Plans.{MayDiffer}

-- Writing calls were made on such paths alone, and on none where what is planned stood.
pub record SparesRight (Near : Path → Type 0) (plan : List Item) (t : Tree) (old new : Shown) : Type 0 where
  pub added : List Path
  pub touched : new.touched ≡ old.touched ++ added
  pub near : (p : Path) → Contains added p → Near p
  pub right : (e : Item) → Contains plan e → StandsAs e.1 (t e.0) → Contains added e.0 → ⊥

-- Writing calls were made on paths that may differ, and on none where what is planned stood.
abbrev pub Spares : List Managed → List Item → Tree → Shown → Shown → Type 0
Spares managed plan t old new = SparesRight (MayDiffer managed plan t) plan t old new

-- Nothing was written, the tree is the same one, and the store was not asked.
pub record IsIdle (old new : Shown) (store_old store_new : Seen) : Type 0 where
  pub tree : new.tree ≡ old.tree
  pub touched : new.touched ≡ old.touched
  pub unread : store_new ≡ store_old

-- what failed in the store, or was wrong there, is a file that is planned
abbrev pub IsOfPlan : List Item → RepairFault → Type 0
IsOfPlan plan StoreFault = (p : Path) × (at : List ℕ) × Contains plan (p, planned.Stored at)
IsOfPlan plan (Stored at found) = (p : Path) × Contains plan (p, planned.Stored at)
IsOfPlan plan e = Unit {0}
