use Rattle.std.proofs.Common.{map, subst, sym}
use Rattle.std.specs.List.Sorted.{IsStrictlySortedBy}
use Rattle.pn_manifest.specs.Listed.{pair_of}
use Rattle.pn_manifest.specs.Pairs.{IsRising}
use Rattle.pn_seen.proofs.sifted.none.Goals as goal

pub of-requires : goal.of-requires
unfolding IsStrictlySortedBy
of-requires c = subst (λ ds. IsRising (map pair_of ds)) (sym c.new.ensures.items) tt
