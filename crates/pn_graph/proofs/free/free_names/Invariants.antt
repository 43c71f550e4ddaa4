use Rattle.std.proofs.Common.{take}
use Rattle.pn_graph.proofs.FreeLemmas.{AreKept}
use Rattle.pn_graph.proofs.free.free_names.Given as goal

abbrev pub invariant-loop-name : goal.invariant-loop-name
invariant-loop-name l = AreKept l.p.packages l.of.0 (take l.name-index l.name-items) l.free.items
