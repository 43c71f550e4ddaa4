use Rattle.std.proofs.Common.{◌≡◌, drop}
use Rattle.pn_lock_prod.specs.Kept.{has_marked}
use Rattle.pn_lock_prod.proofs.kept.has_marked.Given as goal

abbrev pub invariant-loop-n : goal.invariant-loop-n
invariant-loop-n l = has_marked l.id (drop l.n l.marks) (drop l.n l.snapshots) ≡ has_marked l.id l.marks l.snapshots
