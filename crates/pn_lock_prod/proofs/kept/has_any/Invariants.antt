use Rattle.std.proofs.Common.{◌≡◌, drop}
use Rattle.pn_lock_prod.specs.Kept.{has_any}
use Rattle.pn_lock_prod.proofs.kept.has_any.Given as goal

abbrev pub invariant-loop-snapshot : goal.invariant-loop-snapshot
invariant-loop-snapshot l = has_any l.id (drop l.snapshot-index l.snapshots) ≡ has_any l.id l.snapshots
