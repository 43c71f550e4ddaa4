use Rattle.std.proofs.Common.{◌≡◌, ◌++◌, not, subst, sym, arith}
use Rattle.std.proofs.lemmas.Grind.{common_steps}
use Rattle.pn_manifest.specs.Said.{AreRising, peer_names}
use Rattle.pn_manifest.specs.Says.{said_of}
use Rattle.pn_manifest.specs.declared.peers.Peer.{Peer}
use Rattle.pn_plain.specs.Seen.{dependency_names, is_among, own_names, peers_but}
use Rattle.pn_seen.proofs.LeftLemmas.{left_rises}
use Rattle.pn_seen.proofs.sifted.peers_left.Goals as goal

pub of-requires : goal.of-requires
of-requires c =
    let out = own_names c.args.own.now ++ dependency_names (said_of c.args.before.now) in
    let left : c.loop-peer.left.items ≡ peers_but out c.args.all.now = grind (arith, common_steps) in
    subst (λ ps. AreRising (peer_names ps)) (sym left) (left_rises (λ (p : Peer). p.name) (λ (p : Peer). not (is_among out p.name)) c.args.all.now c.as_slice-peer-items.ensures.rising)
