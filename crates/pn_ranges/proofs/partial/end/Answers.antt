use Rattle.std.proofs.Common.{ℕ, List, length, arith, ap, ◌∙◌}
use Rattle.pn_ranges.specs.Places.{later, lead, first_fault}
use Rattle.pn_ranges.specs.Bytes.{is_lead}
use Rattle.pn_ranges.proofs.FrontOfLemmas.{behind-le}
use Rattle.pn_ranges.proofs.OverProofs.{led-placed}
use Rattle.pn_ranges.proofs.FirstFaultLemmas.{exit_stops}
use Rattle.pn_ranges.proofs.Partials.{led-end, lead-end}
use Rattle.pn_ranges.proofs.Inside.{exit_none, led-inside, no-end, whole-end}
use Rattle.pn_ranges.specs.Edges.{named_by}
use Rattle.pn_ranges.specs.Unread.{NoEnd}
use Rattle.pn_ranges.proofs.partial.end.Goals as goal

pub returns-in_err-read-clause-stops : goal.returns-in_err-read-clause-stops
returns-in_err-read-clause-stops c = exit_stops (λ e. first_fault (lead e) c.args.text.now) _ _ c.from_residual.ensures.1
    (λ e. lead-end e c.args.text.now c.behind_leads-after.result.now c.behind_leads-after.ensures ∙ c.in_err-read.ensures.stops e)

pub returns-clause-read : goal.returns-clause-read
returns-clause-read c = led-end c.args.text.now c.behind_leads-after.result.now _ _ c.behind_leads-after.ensures c.in_ok-read.ensures.read

pub returns-clause-goes : goal.returns-clause-goes
returns-clause-goes c = λ e. lead-end e c.args.text.now c.behind_leads-after.result.now c.behind_leads-after.ensures ∙ c.in_ok-read.ensures.goes e

pub returns-clause-places : goal.returns-clause-places
returns-clause-places c = led-placed c.args.text.now c.behind_leads-after.result.now c.in_ok-read.rest.now _ _ c.behind_leads-after.ensures c.in_ok-read.ensures.places

pub returns-clause-shorter : goal.returns-clause-shorter
returns-clause-shorter c =
    let l = ap (λ (x : List ℕ). length x) c.behind_leads-after.ensures in
    let k = behind-le is_lead c.args.text.now in
    let m = c.in_ok-read.ensures.shorter in
    omega arith

pub returns-in_err-read-clause-none : goal.returns-in_err-read-clause-none
returns-in_err-read-clause-none c = exit_none (NoEnd c.args.text.now) _
    (no-end c.args.text.now _ (lead-end later c.args.text.now c.behind_leads-after.result.now c.behind_leads-after.ensures ∙ c.in_err-read.ensures.stops later)
    (led-inside c.args.text.now c.behind_leads-after.result.now _ c.behind_leads-after.ensures c.in_err-read.ensures.inside))

pub returns-clause-whole : goal.returns-clause-whole
returns-clause-whole c = λ more. whole-end c.args.text.now c.in_ok-read.rest.now (named_by c.in_ok-read.read)
    (led-end c.args.text.now c.behind_leads-after.result.now _ _ c.behind_leads-after.ensures c.in_ok-read.ensures.read)
    (lead-end later c.args.text.now c.behind_leads-after.result.now c.behind_leads-after.ensures ∙ c.in_ok-read.ensures.goes later) more
