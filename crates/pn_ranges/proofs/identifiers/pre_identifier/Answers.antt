use Rattle.std.specs.Prelude.{◌==◌}
use Rattle.std.proofs.Common.{◌≤◌, List, ℕ, sym, ap, ◌∙◌, subst, Some, length}
use Rattle.std.proofs.lemmas.Bool.{and_parts}
use Rattle.semver.specs.Grammar.{is_pre_identifier, is_identifier_byte}
use Rattle.pn_ranges.specs.declared.fault.Stop.TheVariants.{Byte}
use Rattle.pn_ranges.specs.Bytes.{behind, is_body, is_digit, starts_with}
use Rattle.pn_ranges.specs.Reading.{Spanned}
use Rattle.pn_ranges.specs.Places.{pre, first_fault}
use Rattle.pn_ranges.proofs.FrontOfLemmas.{behind-le, behind-stops}
use Rattle.pn_ranges.proofs.IdentifierLemmas.{pre-read, pre-goes, zero-read, zero-goes, zero-stops}
use Rattle.pn_ranges.proofs.Inside.{digits-inside}
use Rattle.pn_ranges.proofs.identifiers.pre_identifier.Goals as goal

pub returns-clause-read : goal.returns-clause-read
returns-clause-read c = subst (Spanned is_pre_identifier c.args.text.now) (sym c.behind_identifier-2.ensures)
    (pre-read _ _ _ c.in-Some.ensures (sym c.is_identifier_byte.ensures ∙ c.if-not-is_identifier_byte.false) (sym c.is_zero_led.ensures ∙ c.if-is_zero_led.false))

pub returns-clause-ends : goal.returns-clause-ends
returns-clause-ends c = ap (starts_with is_identifier_byte) c.behind_identifier-2.ensures ∙ behind-stops is_identifier_byte c.in-Some.rest.now

pub returns-clause-goes : goal.returns-clause-goes
returns-clause-goes c = λ e. pre-goes e _ _ _ c.in-Some.ensures (sym c.is_identifier_byte.ensures ∙ c.if-not-is_identifier_byte.false) (sym c.is_zero_led.ensures ∙ c.if-is_zero_led.false)
    ∙ ap (first_fault (pre e)) (sym c.behind_identifier-2.ensures)

pub returns-then-not-starts_with_identifier-clause-stops : goal.returns-then-not-starts_with_identifier-clause-stops
returns-then-not-starts_with_identifier-clause-stops c = λ e.
    zero-stops e _ _ _ c.in-Some.ensures (sym c.is_zero_led.ensures ∙ c.if-is_zero_led.true)
    (ap (starts_with is_identifier_byte) (sym c.behind_digits-word.ensures) ∙ sym c.starts_with_identifier.ensures ∙ c.if-not-starts_with_identifier.true)
    ∙ ap (λ (r : List ℕ). Some (Byte (length r))) (sym c.behind_digits-word.ensures)

pub returns-then-is_zero_led-clause-read : goal.returns-then-is_zero_led-clause-read
returns-then-is_zero_led-clause-read c = subst (Spanned is_pre_identifier c.args.text.now) (sym (c.behind_identifier.ensures ∙ ap (behind is_identifier_byte) c.behind_digits-word.ensures))
    (zero-read _ _ _ c.in-Some.ensures (sym c.is_identifier_byte.ensures ∙ c.if-not-is_identifier_byte.false)
    (ap (starts_with is_identifier_byte) (sym c.behind_digits-word.ensures) ∙ sym c.starts_with_identifier.ensures ∙ c.if-not-starts_with_identifier.false))

pub returns-then-is_zero_led-clause-ends : goal.returns-then-is_zero_led-clause-ends
returns-then-is_zero_led-clause-ends c = ap (starts_with is_identifier_byte) c.behind_identifier.ensures ∙ behind-stops is_identifier_byte c.behind_digits-word.result.now

pub returns-then-is_zero_led-clause-goes : goal.returns-then-is_zero_led-clause-goes
returns-then-is_zero_led-clause-goes c = λ e.
    zero-goes e _ _ _ c.in-Some.ensures (sym c.is_zero_led.ensures ∙ c.if-is_zero_led.true)
    (ap (starts_with is_identifier_byte) (sym c.behind_digits-word.ensures) ∙ sym c.starts_with_identifier.ensures ∙ c.if-not-starts_with_identifier.false)
    ∙ ap (first_fault (pre e)) (sym (c.behind_identifier.ensures ∙ ap (behind is_identifier_byte) c.behind_digits-word.ensures))

pub returns-then-not-is_identifier_byte-clause-inside : goal.returns-then-not-is_identifier_byte-clause-inside
returns-then-not-is_identifier_byte-clause-inside c = behind-le is_body c.args.text.now

pub returns-then-not-starts_with_identifier-clause-inside : goal.returns-then-not-starts_with_identifier-clause-inside
returns-then-not-starts_with_identifier-clause-inside c =
    subst (λ (y : List ℕ). length (behind is_body c.args.text.now) ≤ length y) (sym c.behind_digits-word.ensures)
    (digits-inside c.args.text.now c.in-Some.rest.now c.in-Some.b c.in-Some.ensures
    (and_parts (c.in-Some.b == 48) (starts_with is_digit c.in-Some.rest.now) (sym c.is_zero_led.ensures ∙ c.if-is_zero_led.true)).0)
