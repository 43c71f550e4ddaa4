use Rattle.std.proofs.Common.{◌≡◌, ◌++◌, drop}
use Rattle.pn_graph.specs.Founds.{places_from}
use Rattle.pn_graph.proofs.found.places.Given as goal

abbrev pub invariant-loop-i : goal.invariant-loop-i
invariant-loop-i l = l.found.items ++ places_from l.i (drop l.i l.seen) ≡ places_from 0 l.seen
