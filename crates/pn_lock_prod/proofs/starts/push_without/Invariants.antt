use Rattle.std.proofs.Common.{◌≡◌, ◌++◌, drop}
use Rattle.pn_lock_prod.specs.Targets.{places_without}
use Rattle.pn_lock_prod.proofs.starts.push_without.Given as goal

abbrev pub invariant-loop-n : goal.invariant-loop-n
invariant-loop-n l = l.row.items ++ places_without l.n (drop l.n l.marks) ≡ l.fn.row.items ++ places_without 0 l.marks
