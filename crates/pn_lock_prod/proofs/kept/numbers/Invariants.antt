use Rattle.std.proofs.Common.{◌≡◌, ◌≤◌, ◌++◌, drop}
use Rattle.pn_lock_prod.specs.Kept.{numbers_from}
use Rattle.pn_lock_prod.proofs.kept.numbers.Given as goal

abbrev pub invariant-loop-mark : goal.invariant-loop-mark
invariant-loop-mark l = record {
  made : l.numbers.items ++ numbers_from l.next (drop l.mark-index l.marks) ≡ numbers_from 0 l.marks;
  low : l.next ≤ l.mark-index;
}
