use Rattle.std.proofs.Common.{◌≡◌, map, not, subst, sym, arith}
use Rattle.std.proofs.lemmas.Grind.{common_steps}
use Rattle.pn_manifest.specs.Listed.{pair_of}
use Rattle.pn_manifest.specs.Pairs.{IsRising, Pair}
use Rattle.pn_plain.specs.Seen.{but, is_among, own_names}
use Rattle.pn_seen.proofs.LeftLemmas.{left_rises}
use Rattle.pn_seen.proofs.sifted.without_own.Goals as goal

pub of-requires : goal.of-requires
of-requires c =
    let out = own_names c.args.own.now in
    let left : map pair_of c.loop-one.left.items ≡ but out c.args.all.now = grind (arith, common_steps) in
    subst IsRising (sym left) (left_rises (λ (e : Pair). e.0) (λ (e : Pair). not (is_among out e.0)) c.args.all.now c.as_slice-one-items.ensures.rising)
