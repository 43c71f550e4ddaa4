-- Where links lead in a lock.
use Rattle.std.specs.Prelude.{◌<◌, ℕ, List, map, slice_index, unwrap_or}
use Rattle.std.specs.List.{All}
use Rattle.pn_lock.specs.declared.goal.LockGoal.{LockGoal}
use Rattle.pn_lock.specs.declared.goal.LockGoal.TheVariants as goal
use Rattle.pn_lock.specs.Locks.{place_of}
use Rattle.pn_instances.specs.declared.goal.Goal.{Goal}
use Rattle.pn_instances.specs.declared.goal.Goal.TheVariants.{Project as to_project, Inst as to_inst}
use Rattle.pn_instances.specs.declared.links.Link.{Link}

-- the place of a dep path among those of the snapshots
abbrev pub rank : List (List ℕ) → List ℕ → ℕ
rank keys path = unwrap_or (place_of path keys) 0

abbrev pub ranks_of : List (List ℕ) → List (List ℕ) → List ℕ
ranks_of keys paths = map (rank keys) paths

-- a project keeps its place, and an instance has that of its dep path
abbrev pub lock_goal : List ℕ → Goal → LockGoal
lock_goal ranks (to_project q) = goal.Importer q.0
lock_goal ranks (to_inst i) = goal.Snapshot (slice_index ranks i.0)

-- an instance that a link leads to has a rank
abbrev pub IsRanked : ℕ → Goal → Type 0
IsRanked count (to_project q) = Unit {0}
IsRanked count (to_inst i) = i.0 < count

abbrev pub AreRanked : ℕ → List Link → Type 0
AreRanked count links = All (λ (l : Link). IsRanked count l.to) links
