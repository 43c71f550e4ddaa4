use Rattle.std.proofs.Common.{ℕ, List, take}
use Rattle.std.specs.List.{Contains}
use Rattle.pn_graph.specs.FreeNames.{peers_at}
use Rattle.pn_graph.proofs.free.gather.Given as goal

abbrev pub invariant-loop-at : goal.invariant-loop-at
invariant-loop-at l = (k : ℕ) (n : List ℕ) → Contains (take l.at-index l.order) k → Contains (peers_at l.packages k) n → Contains l.names.items n
