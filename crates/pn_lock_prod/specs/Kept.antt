-- What is kept of a lock, and its new places.
use Rattle.std.specs.Prelude.{ℕ, suc, ◌&&◌, ◌||◌, not, Bool, List, [], ◌∷◌, map, bytes_eq, slice_index, if◌then◌else◌, false}
use Rattle.pn_deppath.specs.Paths.{id_part}
use Rattle.pn_lock.specs.declared.goal.LockGoal.{LockGoal}
use Rattle.pn_lock.specs.declared.goal.LockGoal.TheVariants as goal
use Rattle.pn_lock.specs.declared.lists.LockDependency.{LockDependency}
use Rattle.pn_lock.specs.declared.lists.LockImporter.{LockImporter}
use Rattle.pn_lock.specs.declared.lists.LockLink.{LockLink}
use Rattle.pn_lock.specs.declared.lists.LockPackage.{LockPackage}
use Rattle.pn_lock.specs.declared.lists.LockSnapshot.{LockSnapshot}

-- the new place of each snapshot: how many with a mark are before it
abbrev pub numbers_from : ℕ → List Bool → List ℕ
numbers_from n [] = []
numbers_from n (b ∷ bs) = n ∷ numbers_from (if b then suc n else n) bs

abbrev pub new_goal : List ℕ → LockGoal → LockGoal
new_goal numbers (goal.Importer q) = goal.Importer q
new_goal numbers (goal.Snapshot k) = goal.Snapshot (slice_index numbers k)

abbrev pub new_link : List ℕ → LockLink → LockLink
new_link numbers l = record { alias = l.alias; to = new_goal numbers l.to }

abbrev pub new_dependency : List ℕ → LockDependency → LockDependency
new_dependency numbers d = record { alias = d.alias; specifier = d.specifier; to = new_goal numbers d.to }

-- a project without its development dependencies
abbrev pub new_importer : List ℕ → LockImporter → LockImporter
new_importer numbers i = record {
  folder = i.folder;
  dependencies = map (new_dependency numbers) i.dependencies;
  dev = [];
  optional = map (new_dependency numbers) i.optional;
}

abbrev pub new_snapshot : List ℕ → LockSnapshot → LockSnapshot
new_snapshot numbers s =
    record { path = s.path; dependencies = map (new_link numbers) s.dependencies; optional = map (new_link numbers) s.optional; transitive = s.transitive }

-- the snapshots with a mark
abbrev pub new_snapshots : List ℕ → List Bool → List LockSnapshot → List LockSnapshot
new_snapshots numbers marks [] = []
new_snapshots numbers [] (s ∷ ss) = []
new_snapshots numbers (b ∷ bs) (s ∷ ss) = if b then new_snapshot numbers s ∷ new_snapshots numbers bs ss else new_snapshots numbers bs ss

-- whether a snapshot is of the package, and whether one is that has a mark
abbrev pub has_any : List ℕ → List LockSnapshot → Bool
has_any id [] = false
has_any id (s ∷ ss) = bytes_eq (id_part s.path) id || has_any id ss

abbrev pub has_marked : List ℕ → List Bool → List LockSnapshot → Bool
has_marked id marks [] = false
has_marked id [] (s ∷ ss) = false
has_marked id (b ∷ bs) (s ∷ ss) = (b && bytes_eq (id_part s.path) id) || has_marked id bs ss

-- a package goes where it has snapshots and all of them go
abbrev pub stays : List Bool → List LockSnapshot → LockPackage → Bool
stays marks snapshots p = has_marked p.id marks snapshots || not (has_any p.id snapshots)
