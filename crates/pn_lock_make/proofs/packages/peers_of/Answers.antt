use Rattle.std.proofs.Common.{◌≡◌, true}
use Rattle.pn_text.specs.Name.{is_name}
use Rattle.pn_lock.specs.declared.lists.LockPeer.{LockPeer}
use Rattle.pn_lock_make.specs.Packages.{peer_of}
use Rattle.pn_lock_make.proofs.StepLemmas.{all_more, taken_step}
use Rattle.pn_lock_make.proofs.packages.peers_of.Goals as goal

pub loop-peer-preserved : goal.loop-peer-preserved
loop-peer-preserved c = record {
  made = taken_step peer_of c.args.peers.now c.loop-peer.peer-index c.peer-item.result c.in_ok-one.one c.loop-peer.all c.push.new.self c.loop-peer-test.true c.peer-item.is
      c.in_ok-one.ensures.made c.in_ok-push.ensures.ok c.loop-peer.invariant.made;
  named = all_more (λ (p : LockPeer). is_name p.name ≡ true) c.loop-peer.all c.push.new.self c.in_ok-one.one c.in_ok-push.ensures.ok c.loop-peer.invariant.named c.in_ok-one.ensures.named;
}
