use Rattle.std.proofs.Common.{get_or}
use Rattle.std.proofs.lemmas.List.Elements.{Contains-get_or}
use Rattle.pn_graph.proofs.free.some_has_peer.Goals as goal

pub peers_of-requires : goal.peers_of-requires
peers_of-requires c = c.requires (get_or c.args.order.now c.loop-at.at-index 0) (Contains-get_or c.args.order.now c.loop-at.at-index 0 c.loop-at-test.true)
