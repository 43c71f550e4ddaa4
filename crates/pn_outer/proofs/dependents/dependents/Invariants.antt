use Rattle.pn_outer.proofs.EdgeLemmas.{AreEdges}
use Rattle.pn_outer.proofs.dependents.dependents.Given as goal

abbrev pub invariant-loop-i : goal.invariant-loop-i
invariant-loop-i l = AreEdges l.instances l.i l.edges.items
