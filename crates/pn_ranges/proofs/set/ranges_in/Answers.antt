use Rattle.std.proofs.Common.{ℕ, List, ◌∷◌, Vec, Global, length, map, ap, arith, ◌∙◌, refl}
use Rattle.pn_ranges.specs.declared.bound.Bound.{Bound}
use Rattle.pn_ranges.specs.Overs.{HasOver}
use Rattle.pn_ranges.specs.Places.{first_fault, start}
use Rattle.pn_ranges.specs.Refusals.{NoOver}
use Rattle.pn_ranges.proofs.Joins.{exit_by, stops-from}
use Rattle.pn_ranges.proofs.Sets.{bar-stop, before-next, before-start, closed-bar, closed-end, closed-start, no-bar, ranges-end}
use Rattle.pn_ranges.proofs.Unreads.{bar-none, next-none, next-wider}
use Rattle.pn_ranges.proofs.set.ranges_in.Goals as goal

pub each-init : goal.each-init
each-init c = record {
  read = before-start c.args.text.now _ (ap (map (λ (v : Vec Bound Global). v.items)) c.requires);
  few = omega arith;
  none = λ h. h;
  over = λ left h. h;
  goes = refl;
}

pub returns-in_err-k-clause-stops : goal.returns-in_err-k-clause-stops
returns-in_err-k-clause-stops c =
    let i = c.each.invariant in
    let t = c.args.text.now in
    exit_by (HasOver t) (NoOver t) (first_fault start t) _ _ c.from_residual.ensures.1
    (stops-from (first_fault start t) (first_fault start c.each.rest.now) _ i.goes i.none i.over c.in_err-k.ensures.stops)

pub returns-in_default-clause-read : goal.returns-in_default-clause-read
returns-in_default-clause-read c =
    let r = c.in_ok-k.ensures.read in
    ranges-end c.args.text.now c.each.rest.now c.in_ok-k.behind.now c.each.count c.in_ok-k.k r.0 _ _ c.each.invariant.read r.1
    (no-bar c.in_ok-k.behind.now c.in_ok-k.ensures.ends c.in_default.ensures) r.2

pub returns-in_default-clause-right : goal.returns-in_default-clause-right
returns-in_default-clause-right c = c.each.invariant.goes ∙ c.in_ok-k.ensures.goes ∙ closed-end c.in_ok-k.behind.now (no-bar c.in_ok-k.behind.now c.in_ok-k.ensures.ends c.in_default.ensures)

pub returns-in_default-strip-clause-stops : goal.returns-in_default-strip-clause-stops
returns-in_default-strip-clause-stops c = (
  c.each.invariant.goes ∙ c.in_ok-k.ensures.goes ∙ closed-bar c.in_ok-k.behind.now c.in-Some.after.now c.in-Some.ensures ∙ bar-stop c.in-Some.after.now c.in_default-strip.ensures,
  c.each.invariant.none (bar-none c.each.rest.now c.in_ok-k.behind.now c.in-Some.after.now c.in_ok-k.k c.in_ok-k.ensures.read.0 c.in_ok-k.ensures.read.1 c.in-Some.ensures c.in_default-strip.ensures),
)

pub each-preserved : goal.each-preserved
each-preserved c =
    let i = c.each.invariant in
    let r = c.in_ok-k.ensures.read in
    record {
      read = before-next c.args.text.now c.each.rest.now c.in_ok-k.behind.now c.in-Some.after.now c.in-Some-strip.next.now c.each.count c.in_ok-k.k r.0 _ _ i.read r.1 c.in-Some.ensures c.in-Some-strip.ensures r.2;
      few =
          let f = i.few in
          let g = c.in_ok-k.ensures.few in
          let a = ap (λ (y : List ℕ). length y) c.in-Some.ensures in
          let b = ap (λ (y : List ℕ). length y) c.in-Some-strip.ensures in
          omega arith;
      none = λ h. i.none (next-none c.each.rest.now c.in_ok-k.behind.now c.in-Some-strip.next.now c.in_ok-k.k r.0 r.1
          (c.in-Some.ensures ∙ ap (λ z. 124 ∷ z) c.in-Some-strip.ensures) h);
      over = λ left h. i.over left (next-wider c.each.rest.now c.in_ok-k.behind.now c.in-Some-strip.next.now c.in_ok-k.k r.0 r.1
          (c.in-Some.ensures ∙ ap (λ z. 124 ∷ z) c.in-Some-strip.ensures) left h);
      goes = i.goes ∙ c.in_ok-k.ensures.goes ∙ closed-start c.in_ok-k.behind.now c.in-Some.after.now c.in-Some-strip.next.now c.in-Some.ensures c.in-Some-strip.ensures;
    }

pub each-smaller : goal.each-smaller
each-smaller c =
    let g = c.in_ok-k.ensures.few in
    let a = ap (λ (y : List ℕ). length y) c.in-Some.ensures in
    let b = ap (λ (y : List ℕ). length y) c.in-Some-strip.ensures in
    omega arith
