use Rattle.std.proofs.Common.{sym, ◌∙◌}
use Rattle.pn_ranges.specs.Edges.{left_at, named_by}
use Rattle.pn_ranges.specs.Places.{dash, first_fault, upper}
use Rattle.pn_ranges.proofs.Spaced.{dash-lead, end-pre, exit_stop, stops-behind, upper-read}
use Rattle.pn_ranges.proofs.OverProofs.{upper-over}
use Rattle.pn_ranges.proofs.Closings.{gap-whole}
use Rattle.pn_ranges.proofs.Inside.{exit_none, no-gap, no-upper}
use Rattle.pn_ranges.specs.Unread.{NoUpper}
use Rattle.pn_ranges.proofs.range.upper_at.Goals as goal

pub returns-in_err-high-clause-stops : goal.returns-in_err-high-clause-stops
returns-in_err-high-clause-stops c = exit_stop (first_fault dash c.args.text.now) _ _ c.from_residual.ensures.1
    (dash-lead c.args.text.now c.behind_spaces.result.now (sym c.starts_with_space.ensures ∙ c.if-not-starts_with_space.false) c.behind_spaces.ensures ∙ c.in_err-high.ensures.stops upper)

pub returns-in_err-rest-clause-stops : goal.returns-in_err-rest-clause-stops
returns-in_err-rest-clause-stops c = exit_stop (first_fault dash c.args.text.now) _ _ c.from_residual-in_err-rest.ensures.1
    (dash-lead c.args.text.now c.behind_spaces.result.now (sym c.starts_with_space.ensures ∙ c.if-not-starts_with_space.false) c.behind_spaces.ensures ∙ c.in_ok-high.ensures.goes upper ∙ c.in_err-rest.ensures.stops upper)

pub returns-clause-read : goal.returns-clause-read
returns-clause-read c = upper-read _ _ _ _ _ (sym c.starts_with_space.ensures ∙ c.if-not-starts_with_space.false) c.behind_spaces.ensures c.in_ok-high.ensures.read c.in_ok-rest.ensures.spaces c.in_ok-rest.ensures.apart

pub returns-clause-pre : goal.returns-clause-pre
returns-clause-pre c = end-pre _ (named_by c.in_ok-high.high) c.in_ok-high.ensures.read.spelled

pub returns-clause-spaces : goal.returns-clause-spaces
returns-clause-spaces c = stops-behind c.in_ok-high.behind.now c.in_ok-rest.rest.now c.in_ok-rest.ensures.spaces

pub returns-clause-over : goal.returns-clause-over
returns-clause-over c = upper-over c.args.text.now c.behind_spaces.result.now c.in_ok-high.behind.now (named_by c.in_ok-high.high) (λ k. left_at k c.in_ok-high.high)
    (sym c.starts_with_space.ensures ∙ c.if-not-starts_with_space.false) c.behind_spaces.ensures c.in_ok-high.ensures.places
    (gap-whole c.in_ok-high.behind.now c.in_ok-rest.rest.now c.in_ok-rest.ensures.spaces c.in_ok-rest.ensures.apart)

pub returns-then-not-starts_with_space-clause-none : goal.returns-then-not-starts_with_space-clause-none
returns-then-not-starts_with_space-clause-none c = no-gap c.args.text.now (sym c.starts_with_space.ensures ∙ c.if-not-starts_with_space.true)

pub returns-in_err-high-clause-none : goal.returns-in_err-high-clause-none
returns-in_err-high-clause-none c = exit_none (NoUpper c.args.text.now) _ (no-upper c.args.text.now c.behind_spaces.result.now c.behind_spaces.ensures c.in_err-high.ensures.none)

pub returns-in_err-rest-clause-none : goal.returns-in_err-rest-clause-none
returns-in_err-rest-clause-none c = exit_none (NoUpper c.args.text.now) _
    (no-upper c.args.text.now c.behind_spaces.result.now c.behind_spaces.ensures (c.in_ok-high.ensures.whole c.in_err-rest.ensures.none))

pub returns-clause-goes : goal.returns-clause-goes
returns-clause-goes c =
    dash-lead c.args.text.now c.behind_spaces.result.now (sym c.starts_with_space.ensures ∙ c.if-not-starts_with_space.false) c.behind_spaces.ensures ∙ c.in_ok-high.ensures.goes upper ∙ c.in_ok-rest.ensures.goes upper
