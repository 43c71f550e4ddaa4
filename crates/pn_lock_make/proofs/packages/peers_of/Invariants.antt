use Rattle.std.proofs.Common.{◌≡◌, map, take, true}
use Rattle.std.specs.List.{All}
use Rattle.pn_text.specs.Name.{is_name}
use Rattle.pn_lock.specs.declared.lists.LockPeer.{LockPeer}
use Rattle.pn_lock_make.specs.Packages.{peer_of}
use Rattle.pn_lock_make.proofs.packages.peers_of.Given as goal

abbrev pub invariant-loop-peer : goal.invariant-loop-peer
invariant-loop-peer l = record {
  made : l.all ≡ map peer_of (take l.peer-index l.peers);
  named : All (λ (p : LockPeer). is_name p.name ≡ true) l.all;
}
