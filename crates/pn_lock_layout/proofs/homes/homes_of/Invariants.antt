use Rattle.std.proofs.Common.{◌≡◌, map, take}
use Rattle.pn_lock.specs.Locks.{paths_of}
use Rattle.pn_lock_layout.specs.Folders.{near_home}
use Rattle.pn_lock_layout.proofs.homes.homes_of.Given as goal

abbrev pub invariant-loop-n : goal.invariant-loop-n
invariant-loop-n l = l.all.items ≡ map (near_home (paths_of l.fn.lock.snapshots) l.root l.store) (paths_of (take l.n l.fn.lock.snapshots))
