use Rattle.std.proofs.Common.{◌≡◌, take}
use Rattle.pn_lock.specs.Locks.{paths_of}
use Rattle.pn_lock_layout.proofs.homes.paths_of.Given as goal

abbrev pub invariant-loop-snapshot : goal.invariant-loop-snapshot
invariant-loop-snapshot l = l.all.items ≡ paths_of (take l.snapshot-index l.snapshots)
