use Rattle.std.proofs.Common.{◌≡◌, ◌≤◌, ◌++◌, ◌+◌, ◌-◌, drop, length, map}
use Rattle.pn_manifest.specs.Listed.{pair_of}
use Rattle.pn_manifest.specs.PeerLists.{peers_of}
use Rattle.pn_manifest.proofs.peer_list.merged.Given as goal

-- what is left leads from what was merged to the whole
abbrev pub invariant-peers : goal.invariant-peers
invariant-peers l = record {
  of_declared : l.i ≤ length l.declared;
  of_optional : l.j ≤ length l.optional;
  merged : l.peers.items ++ peers_of (map pair_of (drop l.i l.declared)) (drop l.j l.optional) ≡ peers_of (map pair_of l.declared) l.optional;
}

abbrev pub decreases-peers : goal.decreases-peers
decreases-peers l = (length l.declared - l.i) + (length l.optional - l.j)
