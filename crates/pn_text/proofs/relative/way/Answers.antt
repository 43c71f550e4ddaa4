use Rattle.std.proofs.Common.{ap, sym, subst, ◌∙◌}
use Rattle.pn_text.specs.Path.{text_below, IsPartsEnd}
use Rattle.pn_text.specs.Relative.{dots, slashes, IsWay}
use Rattle.pn_text.proofs.Relatives.{at_within, behind, below_ends, way_is}
use Rattle.pn_text.proofs.relative.way.Goals as goal

pub split_at-requires : goal.split_at-requires
split_at-requires c = let f = c.fork-at.ensures in at_within _ _ f.up f.base _ (c.as_bytes.ensures.value ∙ c.stem.ensures.stem) f.from_is f.place

pub rest_from-requires-clause-within : goal.rest_from-requires-clause-within
rest_from-requires-clause-within c = let f = c.fork-at.ensures in at_within _ _ f.down f.base _ c.stem-2.ensures.stem f.to_is f.place

pub rest_from-requires-clause-ends : goal.rest_from-requires-clause-ends
rest_from-requires-clause-ends c = let f = c.fork-at.ensures in subst IsPartsEnd (sym (behind _ _ f.down f.base _ c.stem-2.ensures.stem f.to_is f.place)) (below_ends f.down)

pub returns : goal.returns
returns c =
    subst (IsWay c.args.from.now c.args.to.now) (sym c.in_ok-push_str.ensures.bytes)
    (way_is _ _ _ c.fork-at.ensures c.as_bytes.result.now c.stem-2.result.now _ _ (c.as_bytes.ensures.value ∙ c.stem.ensures.stem) c.stem-2.ensures.stem c.stem.ensures.good
    (c.in_ok-text.ensures ∙ ap (λ x. text_below (dots (slashes x))) c.split_at.ensures.back) c.rest_from.ensures)
