use Rattle.std.proofs.Common.{◌≡◌, ◌++◌, drop}
use Rattle.pn_manifest.specs.Says.{said_of}
use Rattle.pn_plain.specs.Seen.{dependency_names, own_names, peers_but}
use Rattle.pn_seen.proofs.sifted.peers_left.Given as goal

-- what is left leads to what is left of the whole
abbrev pub invariant-loop-peer : goal.invariant-loop-peer
invariant-loop-peer l =
    let out = own_names l.own ++ dependency_names (said_of l.before) in
    l.left.items ++ peers_but out (drop l.peer-index l.peer-items) ≡ peers_but out l.peer-items
