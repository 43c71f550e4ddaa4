-- The snapshots that links lead to.
use Rattle.std.specs.Prelude.{◌⊎◌, ◌<◌, ℕ, suc, List, [], ◌∷◌, ◌++◌, Bool, Option, Some, None, length, slice_get, if◌then◌else◌}
use Rattle.std.specs.List.{Contains}
use Rattle.pn_lock.specs.declared.goal.LockGoal.{LockGoal}
use Rattle.pn_lock.specs.declared.goal.LockGoal.TheVariants as goal
use Rattle.pn_lock.specs.declared.lists.LockDependency.{LockDependency}
use Rattle.pn_lock.specs.declared.lists.LockImporter.{LockImporter}
use Rattle.pn_lock.specs.declared.lists.LockLink.{LockLink}
use Rattle.pn_lock.specs.declared.lists.LockSnapshot.{LockSnapshot}
use Rattle.pn_lock.specs.Locks.{Locked}
use Rattle.pn_lock_prod.specs.Walks.{Walks}

abbrev pub goal_targets : LockGoal → List ℕ
goal_targets (goal.Importer q) = []
goal_targets (goal.Snapshot k) = k ∷ []

abbrev pub link_targets : List LockLink → List ℕ
link_targets [] = []
link_targets (l ∷ ls) = goal_targets l.to ++ link_targets ls

abbrev pub dependency_targets : List LockDependency → List ℕ
dependency_targets [] = []
dependency_targets (d ∷ ds) = goal_targets d.to ++ dependency_targets ds

abbrev pub snapshot_targets : LockSnapshot → List ℕ
snapshot_targets s = link_targets s.dependencies ++ link_targets s.optional

abbrev pub or_none : Option LockSnapshot → List ℕ
or_none None = []
or_none (Some s) = snapshot_targets s

-- a link of one snapshot leads to another
abbrev pub Leads : List LockSnapshot → ℕ → ℕ → Type 0
Leads snapshots j k = Contains (or_none (slice_get snapshots j)) k

-- each of these targets is there
abbrev pub AreThere : List LockSnapshot → Type 0
AreThere snapshots = (j k : ℕ) → Leads snapshots j k → k < length snapshots

-- what the projects' development dependencies lead to, and what the others do
abbrev pub dev_targets : List LockImporter → List ℕ
dev_targets [] = []
dev_targets (i ∷ is) = dependency_targets i.dev ++ dev_targets is

abbrev pub kept_targets : List LockImporter → List ℕ
kept_targets [] = []
kept_targets (i ∷ is) = (dependency_targets i.dependencies ++ dependency_targets i.optional) ++ kept_targets is

-- A walk from a development dependency leads to the snapshot.
abbrev pub IsDev : Locked → ℕ → Type 0
IsDev l k = Walks (Leads l.snapshots) (Contains (dev_targets l.importers)) k

-- A snapshot stays to which a walk leads from a dependency that isn't of development, or from a snapshot that isn't dev.
abbrev pub Stays : Locked → ℕ → Type 0
Stays l k = Walks (Leads l.snapshots) (λ j. Contains (kept_targets l.importers) j ⊎ ((j < length l.snapshots) × (IsDev l j → ⊥))) k

-- the places without a mark, from a number on
abbrev pub places_without : ℕ → List Bool → List ℕ
places_without n [] = []
places_without n (b ∷ bs) = if b then places_without (suc n) bs else n ∷ places_without (suc n) bs
