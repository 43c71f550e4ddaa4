-- What names lead to.
use Rattle.std.specs.Prelude.{ℕ, ◌<◌, List, [], ◌∷◌, length, slice_get, Option, Some, None, if◌then◌else◌, bytes_eq}
use Rattle.pn_lock.specs.declared.goal.LockAt.{LockAt}
use Rattle.pn_lock.specs.declared.goal.LockAt.TheVariants as at
use Rattle.pn_lock.specs.declared.goal.LockGoal.{LockGoal}
use Rattle.pn_lock.specs.declared.lists.LockDependency.{LockDependency}
use Rattle.pn_lock.specs.declared.lists.LockImporter.{LockImporter}
use Rattle.pn_lock.specs.declared.lists.LockLink.{LockLink}
use Rattle.pn_lock.specs.declared.lists.LockSnapshot.{LockSnapshot}
use Rattle.pn_lock.specs.Locks.{Locked}

abbrev pub IsPlace : Locked → LockAt → Type 0
IsPlace l (at.Importer n) = n < length l.importers
IsPlace l (at.Snapshot n) = n < length l.snapshots

abbrev pub or_else : {A : Type 0} → Option A → Option A → Option A
or_else (Some a) other = Some a
or_else None other = other

-- what an alias leads to in a list
abbrev pub dependency_goal : List ℕ → List LockDependency → Option LockGoal
dependency_goal alias [] = None
dependency_goal alias (d ∷ ds) = if bytes_eq d.alias alias then Some d.to else dependency_goal alias ds

abbrev pub link_goal : List ℕ → List LockLink → Option LockGoal
link_goal alias [] = None
link_goal alias (k ∷ ks) = if bytes_eq k.alias alias then Some k.to else link_goal alias ks

abbrev pub importer_goal : List ℕ → LockImporter → Option LockGoal
importer_goal alias i = or_else (dependency_goal alias i.dependencies) (or_else (dependency_goal alias i.dev) (dependency_goal alias i.optional))

abbrev pub snapshot_goal : List ℕ → LockSnapshot → Option LockGoal
snapshot_goal alias s = or_else (link_goal alias s.dependencies) (link_goal alias s.optional)

abbrev pub on_some : {A B : Type 0} → (A → Option B) → Option A → Option B
on_some f None = None
on_some f (Some a) = f a

-- what an alias leads to from a place
abbrev pub link_of : Locked → LockAt → List ℕ → Option LockGoal
link_of l (at.Importer n) alias = on_some (importer_goal alias) (slice_get l.importers n)
link_of l (at.Snapshot n) alias = on_some (snapshot_goal alias) (slice_get l.snapshots n)
