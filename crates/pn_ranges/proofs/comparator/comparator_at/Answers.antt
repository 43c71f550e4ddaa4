use Rattle.std.proofs.Common.{ℕ, List, length, arith, ap, sym, ◌∙◌}
use Rattle.pn_ranges.specs.Places.{fault_comparator}
use Rattle.pn_ranges.specs.Bytes.{is_space}
use Rattle.pn_ranges.proofs.FrontOfLemmas.{behind-le, append-le}
use Rattle.pn_ranges.specs.Edges.{left_at, named_by}
use Rattle.pn_ranges.proofs.OverProofs.{comparator-over}
use Rattle.pn_ranges.proofs.FirstFaultLemmas.{space_exit}
use Rattle.pn_ranges.proofs.Comparisons.{comparator-read, plain-end, signed-lead}
use Rattle.pn_ranges.proofs.Inside.{exit_none, no-compared}
use Rattle.pn_ranges.specs.Unread.{NoCompared}
use Rattle.pn_ranges.proofs.comparator.comparator_at.Goals as goal

pub returns-in_err-partial-clause-stops : goal.returns-in_err-partial-clause-stops
returns-in_err-partial-clause-stops c = space_exit c.args.text.now (λ e. fault_comparator e c.args.text.now) _ _ c.from_residual.ensures.1
    (λ e h. c.sign_at-sign.ensures.goes e h ∙ signed-lead e c.sign_at-sign.result.0 c.sign_at-sign.result.1.now c.behind_spaces.result.now c.is_plain-plain.result c.is_plain-plain.ensures c.behind_spaces.ensures ∙ c.in_err-partial.ensures.stops _)

pub returns-clause-read : goal.returns-clause-read
returns-clause-read c = comparator-read _ _ _ _ _ _ c.sign_at-sign.ensures.read c.sign_at-sign.ensures.longest c.behind_spaces.ensures c.in_ok-partial.ensures.read

pub returns-clause-lower : goal.returns-clause-lower
returns-clause-lower c = λ plain. plain-end _ _ _ _ _ _ c.sign_at-sign.ensures.read (sym c.is_plain-plain.ensures ∙ plain) c.behind_spaces.ensures c.in_ok-partial.ensures.read

pub returns-clause-goes : goal.returns-clause-goes
returns-clause-goes c = λ e h.
    c.sign_at-sign.ensures.goes e h ∙ signed-lead e c.sign_at-sign.result.0 c.sign_at-sign.result.1.now c.behind_spaces.result.now c.is_plain-plain.result c.is_plain-plain.ensures c.behind_spaces.ensures ∙ c.in_ok-partial.ensures.goes _

pub returns-clause-over : goal.returns-clause-over
returns-clause-over c = λ fit ends. comparator-over c.args.text.now c.sign_at-sign.result.1.now c.behind_spaces.result.now c.in_ok-partial.rest.now c.sign_at-sign.result.0 (named_by c.in_ok-partial.partial)
    (λ k. left_at k c.in_ok-partial.partial) c.sign_at-sign.ensures.read c.sign_at-sign.ensures.longest c.behind_spaces.ensures c.in_ok-partial.ensures.places fit ends

pub returns-clause-shorter : goal.returns-clause-shorter
returns-clause-shorter c =
    let read = c.sign_at-sign.ensures.read in
    let l = ap (λ (x : List ℕ). length x) c.behind_spaces.ensures in
    let k = behind-le is_space c.sign_at-sign.result.1.now in
    let m = append-le c.args.text.now read.front c.sign_at-sign.result.1.now read.split in
    let n = c.in_ok-partial.ensures.shorter in
    omega arith

pub returns-in_err-partial-clause-none : goal.returns-in_err-partial-clause-none
returns-in_err-partial-clause-none c = exit_none (NoCompared c.args.text.now) _
    (no-compared c.args.text.now c.sign_at-sign.result.1.now c.behind_spaces.result.now c.sign_at-sign.ensures.behind c.behind_spaces.ensures c.in_err-partial.ensures.none)

pub returns-clause-whole : goal.returns-clause-whole
returns-clause-whole c = λ more.
    no-compared c.args.text.now c.sign_at-sign.result.1.now c.behind_spaces.result.now c.sign_at-sign.ensures.behind c.behind_spaces.ensures (c.in_ok-partial.ensures.whole more)
