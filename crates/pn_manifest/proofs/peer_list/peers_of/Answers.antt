use Rattle.std.proofs.Common.{ap, ◌∙◌, subst, sym}
use Rattle.pn_manifest.specs.PeerLists.{peers_of}
use Rattle.pn_manifest.specs.Said.{AreRising, peer_names}
use Rattle.pn_manifest.proofs.PeerLemmas.{peers_rise}
use Rattle.pn_manifest.proofs.peer_list.peers_of.Goals as goal

pub of-requires : goal.of-requires
of-requires c =
    let pairs = c.as_slice.ensures.pairs in
    let is = c.in_ok-items.ensures ∙ ap (λ ds. peers_of ds c.as_slice-2.result.now) pairs in
    subst (λ ps. AreRising (peer_names ps)) (sym is) (peers_rise c.args.declared.now c.as_slice-2.result.now c.as_slice.ensures.rising)
