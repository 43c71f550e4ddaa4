use Rattle.std.proofs.Common.{◌≡◌, drop}
use Rattle.pn_graph.specs.Graphs.{peer_names, has_name}
use Rattle.pn_graph.proofs.find.has_peer.Given as goal

abbrev pub invariant-loop-peer : goal.invariant-loop-peer
invariant-loop-peer l = has_name l.name (peer_names (drop l.peer-index l.peers)) ≡ has_name l.name (peer_names l.peers)
