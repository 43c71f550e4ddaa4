use Rattle.pn_digest.proofs.IsBadAtLemmas.{NoneBad}
use Rattle.pn_digest.proofs.files.first_bad.Given as goal

abbrev pub invariant-loop-i : goal.invariant-loop-i
invariant-loop-i l = NoneBad l.files l.i
