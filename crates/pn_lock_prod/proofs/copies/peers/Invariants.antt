use Rattle.std.proofs.Common.{◌≡◌, take}
use Rattle.pn_lock_prod.proofs.copies.peers.Given as goal

abbrev pub invariant-loop-peer : goal.invariant-loop-peer
invariant-loop-peer l = l.all ≡ take l.peer-index l.these
