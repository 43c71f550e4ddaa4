use Rattle.std.proofs.Common.{false, ◌∙◌, refl}
use Rattle.pn_ranges.specs.Edges.{named_by}
use Rattle.pn_ranges.specs.Overs.{OverLater}
use Rattle.pn_ranges.specs.Places.{first_fault, gap, later}
use Rattle.pn_ranges.specs.Table.{limits, raised}
use Rattle.pn_ranges.specs.Unread.{NoLater}
use Rattle.pn_ranges.proofs.Joins.{gap-comparator, stops-fault, exit_by, later-turn, over-stops, next-read}
use Rattle.pn_ranges.proofs.Unreads.{later-more, later-none, over-more}
use Rattle.pn_ranges.proofs.range.next_at.Goals as goal

pub returns-in_err-comparator-clause-stops : goal.returns-in_err-comparator-clause-stops
returns-in_err-comparator-clause-stops c =
    let t = c.args.text.now in
    exit_by (OverLater t) (NoLater t) (first_fault (gap false) t) _ _ c.from_residual.ensures.1
    (stops-fault (OverLater t) (NoLater t) (first_fault (gap false) t) _ (gap-comparator false t c.requires.spaces c.requires.some refl ∙ c.in_err-comparator.ensures.stops later c.requires.spaces)
    (c.requires.some, later-none t c.requires.spaces c.in_err-comparator.ensures.none))

pub returns-in_err-push_comparator-clause-stops : goal.returns-in_err-push_comparator-clause-stops
returns-in_err-push_comparator-clause-stops c =
    let x = c.in_ok-comparator.comparator.sign in
    let p = c.in_ok-comparator.comparator.partial in
    let t = c.args.text.now in
    exit_by (OverLater t) (NoLater t) (first_fault (gap false) t) _ _ c.from_residual-in_err-push_comparator.ensures.1
    (over-stops (OverLater t) (NoLater t) (first_fault (gap false) t) (limits x (named_by p)) (raised x (named_by p)) p _ c.in_ok-comparator.ensures.over c.in_err-push_comparator.ensures.err)

pub returns-clause-read : goal.returns-clause-read
returns-clause-read c = λ whole k a.
    let x = c.in_ok-comparator.comparator.sign in
    let p = c.in_ok-comparator.comparator.partial in
    next-read whole c.args.text.now c.in_ok-comparator.rest.now k _ _ x (named_by p) a c.requires.some c.in_ok-comparator.ensures.read c.in_ok-push_comparator.ensures.ok c.in_ok-push_comparator.ensures.fit

pub returns-clause-over : goal.returns-clause-over
returns-clause-over c =
    let p = c.in_ok-comparator.comparator in
    over-more c.args.text.now c.in_ok-comparator.rest.now p.sign (named_by p.partial) c.in_ok-comparator.ensures.read c.in_ok-comparator.ensures.spaces c.in_ok-push_comparator.ensures.fit

pub returns-clause-none : goal.returns-clause-none
returns-clause-none c = λ none.
    let p = c.in_ok-comparator.comparator in (
      c.requires.some,
      later-more c.args.text.now c.in_ok-comparator.rest.now p.sign (named_by p.partial) c.in_ok-comparator.ensures.read c.in_ok-comparator.ensures.spaces c.in_ok-push_comparator.ensures.fit none,
    )

pub returns-clause-shorter : goal.returns-clause-shorter
returns-clause-shorter c = c.in_ok-comparator.ensures.shorter

pub returns-clause-goes : goal.returns-clause-goes
returns-clause-goes c = gap-comparator false c.args.text.now c.requires.spaces c.requires.some refl ∙ c.in_ok-comparator.ensures.goes later c.requires.spaces
    ∙ later-turn c.in_ok-comparator.comparator.plain c.in_ok-comparator.rest.now
