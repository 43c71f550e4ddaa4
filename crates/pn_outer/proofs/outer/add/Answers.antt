use Rattle.std.proofs.Common.{◌<◌, ℕ, length, get_or, sym, ◌∙◌, subst}
use Rattle.std.proofs.lemmas.List.Elements.{Contains-get_or}
use Rattle.pn_components.specs.Rows.{rows_of}
use Rattle.pn_outer.proofs.PairLemmas.{more_pairs}
use Rattle.pn_outer.proofs.outer.add.Goals as goal

pub push-requires : goal.push-requires
push-requires c =
    let at = get_or c.args.order.now c.loop-at.at-index 0 in
    subst (λ (n : ℕ). at < n) (sym c.loop-at.invariant.count) (c.requires at (Contains-get_or c.args.order.now c.loop-at.at-index 0 c.loop-at-test.true))

pub loop-at-preserved : goal.loop-at-preserved
loop-at-preserved c = record {
  count = c.push.ensures.count ∙ c.loop-at.invariant.count;
  adds = more_pairs c.args.pair c.args.order.now c.loop-at.at-index (rows_of c.args.rows.now.items) (rows_of c.loop-at.rows.items) (rows_of c.push.new.rows.items) c.loop-at-test.true
      c.loop-at.invariant.adds c.in_ok-push.ensures.adds;
}
