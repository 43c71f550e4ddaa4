use Rattle.std.proofs.Common.{sym, ◌∙◌, false}
use Rattle.pn_ranges.specs.Edges.{named_by}
use Rattle.pn_ranges.specs.Overs.{OverRange}
use Rattle.pn_ranges.specs.Overs as o
use Rattle.pn_ranges.specs.Places.{dash, first, first_fault, gap, start}
use Rattle.pn_ranges.specs.Table.{limits, raised}
use Rattle.pn_ranges.specs.Unread.{NeverTo, RangeTo}
use Rattle.pn_ranges.proofs.Joins.{exit_by, first-read, gap-same, hyphen-length, memory-stops, over-stops, push-empty, range-comparators, range-empty, range-hyphen, start-closed, start-comparator, start-dash, stops-fault, stops-from, with-first}
use Rattle.pn_ranges.proofs.Unreads.{hyphen-none, hyphen-over, later-more, later-range, no-lower, over-more, range-none}
use Rattle.pn_ranges.proofs.range.range_at.Goals as goal

pub returns-in_err-push_edges-clause-stops : goal.returns-in_err-push_edges-clause-stops
returns-in_err-push_edges-clause-stops c = exit_by (OverRange c.args.text.now) (NeverTo RangeTo c.args.text.now) (first_fault start c.args.text.now) _ _ c.from_residual.ensures.1
    (memory-stops (OverRange c.args.text.now) (NeverTo RangeTo c.args.text.now) (first_fault start c.args.text.now) _ c.in_err-push_edges.ensures.err)

pub returns-then-ends_range-clause-read : goal.returns-then-ends_range-clause-read
returns-then-ends_range-clause-read c = range-empty c.args.text.now c.push_edges.new.bounds.items
    (push-empty _ _ _ c.requires.none c.in_ok-push_edges.ensures.ok ∙ c.any_edges.ensures.value)

pub returns-then-ends_range-clause-goes : goal.returns-then-ends_range-clause-goes
returns-then-ends_range-clause-goes c = start-closed c.args.text.now c.requires.spaces (sym c.ends_range.ensures ∙ c.if-ends_range.true)

pub returns-in_err-comparator-clause-stops : goal.returns-in_err-comparator-clause-stops
returns-in_err-comparator-clause-stops c =
    let t = c.args.text.now in
    let some = sym c.ends_range.ensures ∙ c.if-ends_range.false in
    exit_by (OverRange t) (NeverTo RangeTo t) (first_fault start t) _ _ c.from_residual-in_err-comparator.ensures.1
    (stops-fault (OverRange t) (NeverTo RangeTo t) (first_fault start t) _ (start-comparator t c.requires.spaces some ∙ c.in_err-comparator.ensures.stops first c.requires.spaces)
    (range-none t c.requires.spaces some c.in_err-comparator.ensures.none))

pub returns-in_err-rest-clause-stops : goal.returns-in_err-rest-clause-stops
returns-in_err-rest-clause-stops c =
    let t = c.args.text.now in
    let some = sym c.ends_range.ensures ∙ c.if-ends_range.false in
    let p = c.in_ok-comparator.comparator in
    let q = c.in_ok-comparator.ensures in
    let low = q.lower c.in-Some.ensures.0 in
    exit_by (OverRange t) (NeverTo RangeTo t) (first_fault start t) _ _ c.from_residual-in_err-rest.ensures.1
    (stops-from (first_fault start t) (first_fault dash c.in-Some.upper.now) _
    (start-dash p.plain t c.in_ok-comparator.rest.now c.in-Some.upper.now (start-comparator t c.requires.spaces some ∙ q.goes first c.requires.spaces) c.in-Some.ensures.0 c.in-Some.ensures.1)
    (hyphen-none t c.in_ok-comparator.rest.now c.in-Some.upper.now p.sign (named_by p.partial) q.read c.requires.spaces some q.spaces low c.in-Some.ensures.1)
    (hyphen-over t c.in_ok-comparator.rest.now c.in-Some.upper.now (named_by p.partial) low c.in-Some.ensures.1)
    c.in_err-rest.ensures.stops)

pub returns-in-Some-clause-read : goal.returns-in-Some-clause-read
returns-in-Some-clause-read c =
    range-hyphen c.args.text.now c.in_ok-comparator.rest.now c.in-Some.upper.now _ _ (named_by c.in_ok-comparator.comparator.partial)
    (c.in_ok-comparator.ensures.lower c.in-Some.ensures.0) c.in-Some.ensures.1 c.in_ok-rest.ensures.read

pub returns-in-Some-clause-few : goal.returns-in-Some-clause-few
returns-in-Some-clause-few c = hyphen-length c.args.text.now c.in_ok-comparator.rest.now c.in-Some.upper.now c.in_ok-rest.rest.now (named_by c.in_ok-comparator.comparator.partial) _
    c.in_ok-comparator.ensures.shorter c.in-Some.ensures.1 c.in_ok-rest.ensures.read

pub returns-in-Some-clause-goes : goal.returns-in-Some-clause-goes
returns-in-Some-clause-goes c =
    let f = start-comparator c.args.text.now c.requires.spaces (sym c.ends_range.ensures ∙ c.if-ends_range.false) ∙ c.in_ok-comparator.ensures.goes first c.requires.spaces in
    start-dash c.in_ok-comparator.comparator.plain c.args.text.now c.in_ok-comparator.rest.now c.in-Some.upper.now f c.in-Some.ensures.0 c.in-Some.ensures.1 ∙ c.in_ok-rest.ensures.goes

pub returns-in_err-push_comparator-clause-stops : goal.returns-in_err-push_comparator-clause-stops
returns-in_err-push_comparator-clause-stops c =
    let t = c.args.text.now in
    let some = sym c.ends_range.ensures ∙ c.if-ends_range.false in
    let x = c.in_ok-comparator.comparator.sign in
    let p = c.in_ok-comparator.comparator.partial in
    let q = c.in_ok-comparator.ensures in
    let goes = start-comparator t c.requires.spaces some ∙ q.goes first c.requires.spaces ∙ gap-same c.in_ok-comparator.comparator.plain c.in_ok-comparator.rest.now q.spaces c.in_default.ensures in
    exit_by (OverRange t) (NeverTo RangeTo t) (first_fault start t) _ _ c.from_residual-in_err-push_comparator.ensures.1
    (over-stops (OverRange t) (NeverTo RangeTo t) (first_fault start t) (limits x (named_by p)) (raised x (named_by p)) p _
    (λ fit. o.comparators t _ (no-lower t c.in_ok-comparator.rest.now x (named_by p) q.read q.spaces goes) (q.over fit))
    c.in_err-push_comparator.ensures.err)

pub returns-in_err-count-clause-stops : goal.returns-in_err-count-clause-stops
returns-in_err-count-clause-stops c =
    let t = c.args.text.now in
    let some = sym c.ends_range.ensures ∙ c.if-ends_range.false in
    let p = c.in_ok-comparator.comparator in
    let q = c.in_ok-comparator.ensures in
    let goes = start-comparator t c.requires.spaces some ∙ q.goes first c.requires.spaces ∙ gap-same p.plain c.in_ok-comparator.rest.now q.spaces c.in_default.ensures in
    let low = no-lower t c.in_ok-comparator.rest.now p.sign (named_by p.partial) q.read q.spaces goes in
    exit_by (OverRange t) (NeverTo RangeTo t) (first_fault start t) _ _ c.from_residual-in_err-count.ensures.1
    (stops-from (first_fault start t) (first_fault (gap false) c.in_ok-comparator.rest.now) _ goes
    (λ none. later-range t c.requires.spaces some low
    (later-more t c.in_ok-comparator.rest.now p.sign (named_by p.partial) q.read q.spaces c.in_ok-push_comparator.ensures.fit none))
    (λ left h. o.comparators t left low (over-more t c.in_ok-comparator.rest.now p.sign (named_by p.partial) q.read q.spaces c.in_ok-push_comparator.ensures.fit left h))
    c.in_err-count.ensures.stops)

pub returns-clause-read : goal.returns-clause-read
returns-clause-read c =
    let p = c.in_ok-comparator.comparator in
    range-comparators c.args.text.now c.in_ok-count.rest.now _ _
    (with-first c.args.text.now c.in_ok-comparator.rest.now c.in_ok-count.rest.now c.in_ok-count.count _ _
    (first-read c.args.text.now c.in_ok-comparator.rest.now _ p.sign (named_by p.partial) c.in_ok-comparator.ensures.read
    (push-empty _ _ _ c.requires.none c.in_ok-push_comparator.ensures.ok) c.in_ok-push_comparator.ensures.fit)
    c.in_ok-count.ensures.read)

pub returns-clause-goes : goal.returns-clause-goes
returns-clause-goes c =
    let f = start-comparator c.args.text.now c.requires.spaces (sym c.ends_range.ensures ∙ c.if-ends_range.false) ∙ c.in_ok-comparator.ensures.goes first c.requires.spaces in
    f ∙ gap-same c.in_ok-comparator.comparator.plain c.in_ok-comparator.rest.now c.in_ok-comparator.ensures.spaces c.in_default.ensures ∙ c.in_ok-count.ensures.goes
