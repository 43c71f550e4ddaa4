use Rattle.std.proofs.Common.{ℕ, List, length, arith, ap}
use Rattle.pn_ranges.specs.Bytes.{is_space}
use Rattle.pn_ranges.specs.Edges.{named_by}
use Rattle.pn_ranges.proofs.FrontOfLemmas.{behind-le}
use Rattle.pn_ranges.proofs.Spaced.{spaced-read, lower-read, comparator-pre, stops-behind}
use Rattle.pn_ranges.proofs.Closings.{gap-whole}
use Rattle.pn_ranges.specs.Overs as o
use Rattle.pn_ranges.proofs.range.spaced_at.Goals as goal

pub returns-clause-read : goal.returns-clause-read
returns-clause-read c = spaced-read _ _ _ _ _ c.in_ok-comparator.ensures.read c.in_ok-rest.ensures.spaces c.in_ok-rest.ensures.apart

pub returns-clause-lower : goal.returns-clause-lower
returns-clause-lower c = λ plain. lower-read _ _ _ _ (c.in_ok-comparator.ensures.lower plain) c.in_ok-rest.ensures.spaces c.in_ok-rest.ensures.apart

pub returns-clause-pre : goal.returns-clause-pre
returns-clause-pre c = comparator-pre _ c.in_ok-comparator.comparator.sign (named_by c.in_ok-comparator.comparator.partial) c.in_ok-comparator.ensures.read.spelled

pub returns-clause-spaces : goal.returns-clause-spaces
returns-clause-spaces c = stops-behind c.in_ok-comparator.behind.now c.in_ok-rest.rest.now c.in_ok-rest.ensures.spaces

pub returns-clause-shorter : goal.returns-clause-shorter
returns-clause-shorter c =
    let l = ap (λ (x : List ℕ). length x) c.in_ok-rest.ensures.spaces in
    let k = behind-le is_space c.in_ok-comparator.behind.now in
    let m = c.in_ok-comparator.ensures.shorter in
    omega arith

pub returns-clause-over : goal.returns-clause-over
returns-clause-over c = λ fit. o.here c.args.text.now c.in_ok-comparator.behind.now _
    (c.in_ok-comparator.ensures.over fit (gap-whole c.in_ok-comparator.behind.now c.in_ok-rest.rest.now c.in_ok-rest.ensures.spaces c.in_ok-rest.ensures.apart))
