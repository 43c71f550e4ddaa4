use Rattle.std.specs.BTreeSet.{contains_text}
use Rattle.pn_digest.proofs.IsTwiceAtLemmas.{NoneTwice}
use Rattle.pn_digest.proofs.files.first_twice.Given as goal

abbrev pub invariant-loop-i : goal.invariant-loop-i
invariant-loop-i l = NoneTwice l.files (contains_text l.seen) l.i
