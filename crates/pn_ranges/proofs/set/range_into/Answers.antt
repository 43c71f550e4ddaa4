use Rattle.std.proofs.Common.{Vec, Global, map, ap, ◌∙◌, [], ◌∷◌}
use Rattle.std.proofs.lemmas.List.{map-append}
use Rattle.pn_ranges.specs.declared.bound.Bound.{Bound}
use Rattle.pn_ranges.specs.Bytes.{behind, front_of, is_space}
use Rattle.pn_ranges.specs.Overs.{HasOver}
use Rattle.pn_ranges.specs.Places.{first_fault, start}
use Rattle.pn_ranges.specs.Refusals.{NoOver}
use Rattle.pn_ranges.proofs.Spaced.{stops-behind}
use Rattle.pn_ranges.proofs.Joins.{exit_by, stops-from}
use Rattle.pn_ranges.proofs.Sets.{few-more, lead-split, spaced-range, start-run}
use Rattle.pn_ranges.proofs.FrontOfLemmas.{behind-same, behind-stops, front-all}
use Rattle.pn_ranges.proofs.Unreads.{into-none, into-over}
use Rattle.pn_ranges.proofs.set.range_into.Goals as goal

pub range_at-requires-clause-spaces : goal.range_at-requires-clause-spaces
range_at-requires-clause-spaces c = stops-behind c.args.text.now c.behind_spaces.result.now c.behind_spaces.ensures

pub returns-in_err-count-clause-stops : goal.returns-in_err-count-clause-stops
returns-in_err-count-clause-stops c =
    let t = c.args.text.now in
    let mid = c.behind_spaces.result.now in
    exit_by (HasOver t) (NoOver t) (first_fault start t) _ _ c.from_residual.ensures.1
    (stops-from (first_fault start t) (first_fault start mid) _ (start-run t mid c.behind_spaces.ensures)
    (into-none t mid (ap (behind is_space) c.behind_spaces.ensures ∙ behind-same is_space (behind is_space t) (behind-stops is_space t)))
    (into-over t (front_of is_space t) mid (front-all is_space t) (lead-split t mid c.behind_spaces.ensures))
    c.in_err-count.ensures.stops)

pub returns-clause-read : goal.returns-clause-read
returns-clause-read c = (
  c.range_at.new.bounds.items,
  spaced-range c.args.text.now c.behind_spaces.result.now c.in_ok-count.rest.now c.in_ok-count.count c.range_at.new.bounds.items c.behind_spaces.ensures c.in_ok-count.ensures.read,
  ap (map (λ (v : Vec Bound Global). v.items)) c.in_ok-push.ensures.items ∙ map-append (λ (v : Vec Bound Global). v.items) c.args.ranges.now.items (c.range_at.new.bounds ∷ []),
)

pub returns-clause-few : goal.returns-clause-few
returns-clause-few c = few-more c.args.text.now c.behind_spaces.result.now _ c.behind_spaces.ensures c.in_ok-count.ensures.few

pub returns-clause-goes : goal.returns-clause-goes
returns-clause-goes c = start-run c.args.text.now c.behind_spaces.result.now c.behind_spaces.ensures ∙ c.in_ok-count.ensures.goes
