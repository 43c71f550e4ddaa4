use Rattle.std.proofs.Common.{◌≡◌, ◌++◌, map, drop}
use Rattle.pn_manifest.specs.Listed.{pair_of}
use Rattle.pn_plain.specs.Seen.{but, own_names}
use Rattle.pn_seen.proofs.sifted.without_own.Given as goal

-- what is left leads to what is left of the whole
abbrev pub invariant-loop-one : goal.invariant-loop-one
invariant-loop-one l =
    map pair_of l.left.items ++ but (own_names l.own) (map pair_of (drop l.one-index l.one-items)) ≡ but (own_names l.own) (map pair_of l.one-items)
