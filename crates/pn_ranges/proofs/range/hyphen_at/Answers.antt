use Rattle.std.proofs.Common.{sym, ap, ◌∙◌, inr}
use Rattle.pn_ranges.specs.Edges.{named_by}
use Rattle.pn_ranges.specs.Overs.{OverUpper}
use Rattle.pn_ranges.specs.Places.{first_fault, dash}
use Rattle.pn_ranges.specs.Table.{all_fit, upper_limits, upper_raised}
use Rattle.pn_ranges.specs.Unread.{NoRest}
use Rattle.pn_ranges.proofs.Closings.{between-upper}
use Rattle.pn_ranges.proofs.Joins.{closed-stop, exit_by, hyphen-read, over-stops, stops-fault}
use Rattle.pn_ranges.proofs.Unreads.{rest-closed, rest-none}
use Rattle.pn_ranges.proofs.range.hyphen_at.Goals as goal

pub returns-in_err-high-clause-stops : goal.returns-in_err-high-clause-stops
returns-in_err-high-clause-stops c =
    let t = c.args.text.now in
    exit_by (OverUpper t) (NoRest t) (first_fault dash t) _ _ c.from_residual.ensures.1
    (stops-fault (OverUpper t) (NoRest t) (first_fault dash t) _ c.in_err-high.ensures.stops (rest-none t c.in_err-high.ensures.none))

pub returns-in_err-edges-clause-stops : goal.returns-in_err-edges-clause-stops
returns-in_err-edges-clause-stops c =
    let p = c.in_ok-high.high in
    let t = c.args.text.now in
    exit_by (OverUpper t) (NoRest t) (first_fault dash t) _ _ c.from_residual-in_err-edges.ensures.1
    (over-stops (OverUpper t) (NoRest t) (first_fault dash t) (upper_limits (named_by p)) (upper_raised (named_by p)) p _ c.in_ok-high.ensures.over (inr c.in_err-edges.ensures.large))

pub returns-clause-read : goal.returns-clause-read
returns-clause-read c = hyphen-read (named_by c.args.low.now) (named_by c.in_ok-high.high) c.args.text.now c.in_ok-high.rest.now _ _ _ c.in_ok-high.ensures.read c.requires.none c.in_ok-edges.ensures.value c.in_ok-push_edges.ensures.ok c.in_ok-push_edges.ensures.fit

pub returns-then-not-ends_range-clause-stops : goal.returns-then-not-ends_range-clause-stops
returns-then-not-ends_range-clause-stops c =
    let more = sym c.ends_range.ensures ∙ c.if-not-ends_range.true in (
      c.in_ok-high.ensures.goes ∙ closed-stop c.in_ok-high.rest.now c.in_ok-high.ensures.spaces more,
      rest-closed c.args.text.now c.in_ok-high.rest.now (named_by c.in_ok-high.high) c.in_ok-high.ensures.read c.in_ok-high.ensures.spaces more
          (between-upper (named_by c.args.low.now) (named_by c.in_ok-high.high) (ap all_fit (sym c.in_ok-edges.ensures.value) ∙ c.in_ok-push_edges.ensures.fit)),
    )
