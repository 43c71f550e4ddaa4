use Rattle.std.proofs.Common.{subst, sym}
use Rattle.pn_ranges.specs.Grammar.{Spells}
use Rattle.pn_ranges.specs.Overs.{HasOver}
use Rattle.pn_ranges.specs.Places.{first_fault, start}
use Rattle.pn_ranges.specs.Reading.{Stops}
use Rattle.pn_ranges.specs.Refusals.{NoOver, RangeRefused}
use Rattle.pn_ranges.proofs.Sets.{refused-from, stops-left}
use Rattle.pn_ranges.proofs.Counts.{too-many}
use Rattle.pn_ranges.proofs.Refused.{none}
use Rattle.pn_ranges.proofs.set.Range.read.Goals as goal

pub refusal-requires : goal.refusal-requires
refusal-requires c = stops-left c.args.text.now c.in-Err.stop (subst (λ x. Stops (HasOver x) (NoOver x) (first_fault start x) c.in-Err.stop) c.as_bytes.ensures.value c.in-Err.ensures.stops)

pub returns-in-Err-clause-fault : goal.returns-in-Err-clause-fault
returns-in-Err-clause-fault c = subst (RangeRefused c.args.text.now) (sym c.refusal.ensures)
    (refused-from c.args.text.now c.in-Err.stop (subst (λ x. Stops (HasOver x) (NoOver x) (first_fault start x) c.in-Err.stop) c.as_bytes.ensures.value c.in-Err.ensures.stops))

pub returns-in-Err-clause-none : goal.returns-in-Err-clause-none
returns-in-Err-clause-none c = λ m r i. none c.args.text.now r c.refusal.result i (returns-in-Err-clause-fault c) m

pub returns-in-Ok-2-clause-none : goal.returns-in-Ok-2-clause-none
returns-in-Ok-2-clause-none c = λ m r i. too-many c.as_bytes.result.now c.in-Ok.count _ c.in-Ok.ensures.read c.if-count-le1024.false r
    (subst (λ x. Spells x r) (sym c.as_bytes.ensures.value) i)
