use Rattle.pn_shape.proofs.PeerLemmas.{peer_is}
use Rattle.pn_shape.proofs.nodes.peer.Goals as goal

pub returns : goal.returns
returns c = peer_is c.of.result c.args.said.now c.in_ok-name.name c.in_ok-text.text c.of.ensures.name c.of.ensures.range c.of.ensures.text c.of.ensures.optional c.in_ok-name.ensures c.in_ok-text.ensures
