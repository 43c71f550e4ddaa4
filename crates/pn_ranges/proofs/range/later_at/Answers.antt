use Rattle.std.proofs.Common.{◌≡◌, ◌+◌, subst, arith, ◌∙◌, false}
use Rattle.pn_ranges.specs.Overs.{OverLater}
use Rattle.pn_ranges.specs.Places.{first_fault, gap}
use Rattle.pn_ranges.specs.Reading.{ComparatorsAt}
use Rattle.pn_ranges.proofs.Joins.{exit_by, stops-from}
use Rattle.pn_ranges.specs.Unread.{NoLater}
use Rattle.pn_ranges.proofs.range.later_at.Goals as goal

pub returns-in_err-rest-clause-stops : goal.returns-in_err-rest-clause-stops
returns-in_err-rest-clause-stops c =
    let i = c.comparators.invariant in
    let t = c.args.text.now in
    exit_by (OverLater t) (NoLater t) (first_fault (gap false) t) _ _ c.from_residual.ensures.1
    (stops-from (first_fault (gap false) t) (first_fault (gap false) c.comparators.rest.now) _ i.goes i.none i.over c.in_err-rest.ensures.stops)

pub comparators-preserved : goal.comparators-preserved
comparators-preserved c =
    let i = c.comparators.invariant in
    let e = c.in_ok-rest.ensures in
    record {
      read = λ whole k a.
          let n : (k + c.comparators.count) + 1 ≡ k + (c.comparators.count + 1) = omega arith in
          subst (λ z. ComparatorsAt whole z c.next_at.new.bounds.items c.in_ok-rest.rest.now) n (e.read whole (k + c.comparators.count) (i.read whole k a));
      spaces = e.spaces;
      few = let f = i.few in let s = e.shorter in omega arith;
      goes = i.goes ∙ e.goes;
      none = λ h. i.none (e.none h);
      over = λ left h. i.over left (e.over left h);
    }
