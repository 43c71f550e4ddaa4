use Rattle.pn_dep_paths.proofs.MemberLemmas.{ArePairsOf}
use Rattle.pn_dep_paths.proofs.base.members.Given as goal

abbrev pub invariant-loop-i : goal.invariant-loop-i
invariant-loop-i l = ArePairsOf l.numbers l.i l.pairs.items
