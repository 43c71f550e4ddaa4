use Rattle.std.proofs.Common.{◌≡◌, ◌++◌, take}
use Rattle.pn_graph.specs.Graphs.{peer_names}
use Rattle.pn_graph.proofs.free.push_names.Given as goal

abbrev pub invariant-loop-peer : goal.invariant-loop-peer
invariant-loop-peer l = l.names.items ≡ l.fn.names.items ++ peer_names (take l.peer-index l.peers)
