use Rattle.std.proofs.Common.{sym, ap, ◌∙◌}
use Rattle.pn_ranges.specs.Bytes.{behind, is_digit, number_from, starts_with}
use Rattle.pn_ranges.proofs.FrontOfLemmas.{number-stops, behind-next}
use Rattle.pn_ranges.proofs.Parts.{number-large, number-value}
use Rattle.pn_ranges.proofs.part.number.Goals as goal
use Rattle.pn_ranges.proofs.part.number.Goals.{in_default, in-Some+then-not-is_digit}

pub returns-in_err-n-clause-large : goal.returns-in_err-n-clause-large
returns-in_err-n-clause-large c =
    rw c.from_residual.ensures (number-large c.bytes.n c.in-Some.b _ _ _ c.bytes.invariant.value c.in-Some.ensures (sym c.is_digit.ensures ∙ c.if-not-is_digit.false) c.in_err-n.ensures.none)

pub bytes-preserved : goal.bytes-preserved
bytes-preserved c =
    let d = sym c.is_digit.ensures ∙ c.if-not-is_digit.false in
    record {
      value = ap (λ n. number_from n c.in-Some.behind.now) c.in_ok-n.ensures.some.0 ∙ number-value c.bytes.n c.in-Some.b _ _ _ c.bytes.invariant.value c.in-Some.ensures d;
      fits = c.in_ok-n.ensures.some.1;
      rest = sym (behind-next is_digit c.in-Some.b c.in-Some.behind.now d) ∙ ap (behind is_digit) (sym c.in-Some.ensures) ∙ c.bytes.invariant.rest;
    }

pub returns-clause-value : goal.returns-clause-value
returns-clause-value c = elim c.match-next.branch [
  | in-Some+then-not-is_digit w ↦
      (sym (number-stops c.bytes.n c.bytes.rest.now (ap (starts_with is_digit) w.in-Some.ensures ∙ sym w.is_digit.ensures ∙ w.if-not-is_digit.true)) ∙ c.bytes.invariant.value, c.bytes.invariant.fits)
  | in_default w ↦ (sym (number-stops c.bytes.n c.bytes.rest.now (ap (starts_with is_digit) w.in_default.ensures)) ∙ c.bytes.invariant.value, c.bytes.invariant.fits)
]
