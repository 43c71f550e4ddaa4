use Rattle.std.proofs.Common.{◌<◌, ◌^◌, sym, subst, ◌∙◌, arith}
use Rattle.std.proofs.lemmas.Bool.Decides.{nat_tests}
use Rattle.pn_ranges.specs.Bytes.{is_body, is_digit}
use Rattle.pn_ranges.proofs.FrontOfLemmas.{behind-le, behind-shorter}
use Rattle.pn_ranges.proofs.Parts.{zero-part, wild-part, number-part, number-goes}
use Rattle.pn_ranges.proofs.part.part.Goals as goal

pub returns-then-b-eq48-clause-read : goal.returns-then-b-eq48-clause-read
returns-then-b-eq48-clause-read c = zero-part _ _ _ c.in-Some.ensures c.if-b-eq48.true

pub returns-then-is_wild-clause-read : goal.returns-then-is_wild-clause-read
returns-then-is_wild-clause-read c = wild-part _ _ _ c.in-Some.ensures (sym c.is_wild.ensures ∙ c.if-is_wild.true)

pub returns-in-Some-number-clause-read : goal.returns-in-Some-number-clause-read
returns-in-Some-number-clause-read c =
    number-part _ _ _ _ _ c.in-Some.ensures (sym c.is_digit.ensures ∙ c.if-not-is_digit.false) (grind (arith, nat_tests)) c.in-Some-number.ensures.value.0 c.in-Some-number.ensures.value.1 c.in-Some-number.ensures.rest

pub returns-in-Some-number-clause-goes : goal.returns-in-Some-number-clause-goes
returns-in-Some-number-clause-goes c = λ e k.
    let v = c.in-Some-number.ensures.value in
    number-goes e k _ _ _ _ c.in-Some.ensures (sym c.is_digit.ensures ∙ c.if-not-is_digit.false) (grind (arith, nat_tests)) (sym c.is_wild.ensures ∙ c.if-is_wild.false)
    (subst (λ n. n < 2 ^ 64) v.0 v.1) c.in-Some-number.ensures.rest

pub returns-in-Some-number-clause-shorter : goal.returns-in-Some-number-clause-shorter
returns-in-Some-number-clause-shorter c = behind-shorter is_digit _ _ _ _ c.in-Some.ensures (sym c.is_digit.ensures ∙ c.if-not-is_digit.false) c.in-Some-number.ensures.rest

pub returns-then-not-is_digit-clause-inside : goal.returns-then-not-is_digit-clause-inside
returns-then-not-is_digit-clause-inside c = behind-le is_body c.args.text.now

pub returns-in-None-clause-inside : goal.returns-in-None-clause-inside
returns-in-None-clause-inside c = behind-le is_body c.args.text.now
