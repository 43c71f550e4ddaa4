use Rattle.std.proofs.Common.{◌≡◌, ◌+◌, List, [], ◌∷◌, ◌++◌, take, sym, subst, ap, ◌∙◌}
use Rattle.std.proofs.lemmas.List.{take_more}
use Rattle.pn_manifest.specs.declared.peers.Peer.{Peer as SaidPeer}
use Rattle.pn_graph.specs.declared.peer.Peer.{Peer}
use Rattle.pn_shape.specs.Shapes.{ArePeersOf, no_more}
use Rattle.pn_shape.proofs.ShapeLemmas.{peer_more}
use Rattle.pn_shape.proofs.nodes.peers.Goals as goal

pub loop-one-init : goal.loop-one-init
loop-one-init c = subst (λ (ps : List Peer). ArePeersOf [] ps) (sym c.new-items.ensures.items) no_more

pub loop-one-preserved : goal.loop-one-preserved
loop-one-preserved c =
    let said = c.args.said.now in
    let i = c.loop-one.one-index in
    let one = c.one-item.result in
    let more : take (i + 1) said ≡ take i said ++ one ∷ [] = take_more said i one c.loop-one-test.true ∙ ap (λ (x : SaidPeer). take i said ++ x ∷ []) (sym c.one-item.is) in
    subst (λ (ss : List SaidPeer). ArePeersOf ss c.push.new.self.items) (sym more)
    (subst (λ (ps : List Peer). ArePeersOf (take i said ++ one ∷ []) ps) (sym c.in_ok-push.ensures.items)
    (peer_more (take i said) c.loop-one.items.items one c.in_ok-peer.field-0 c.loop-one.invariant c.in_ok-peer.ensures))
