use Rattle.std.proofs.Common.{◌≡◌, ◌++◌, map, drop}
use Rattle.pn_manifest.specs.Listed.{pair_of}
use Rattle.pn_manifest.specs.Pairs.{names}
use Rattle.pn_plain.specs.Seen.{but}
use Rattle.pn_seen.proofs.sifted.without.Given as goal

-- what is left leads to what is left of the whole
abbrev pub invariant-loop-one : goal.invariant-loop-one
invariant-loop-one l =
    map pair_of l.left.items ++ but (names l.first ++ names l.second) (map pair_of (drop l.one-index l.one-items)) ≡ but (names l.first ++ names l.second) (map pair_of l.one-items)
