use Rattle.std.proofs.Common.{◌≡◌, drop}
use Rattle.std.specs.List.{list_any}
use Rattle.pn_graph.specs.FreeNames.{is_peer_at}
use Rattle.pn_graph.proofs.free.some_has_peer.Given as goal

abbrev pub invariant-loop-at : goal.invariant-loop-at
invariant-loop-at l = list_any (is_peer_at l.packages l.name) (drop l.at-index l.order) ≡ list_any (is_peer_at l.packages l.name) l.order
