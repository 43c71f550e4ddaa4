use Rattle.std.proofs.Common.{arith, ap, ◌∙◌}
use Rattle.std.specs.Prelude.{◌==◌}
use Rattle.std.proofs.lemmas.Bool.Decides.{nat_tests}
use Rattle.pn_ranges.proofs.Tails.{absent-build, bare-tail, pre-tail, whole-build, whole-hyphen, pre-build}
use Rattle.pn_ranges.specs.Bytes.{starts_with}
use Rattle.pn_ranges.specs.Places.{whole, first_fault}
use Rattle.pn_ranges.proofs.FirstFaultLemmas.{exit_stops}
use Rattle.pn_ranges.proofs.Inside.{byte-inside, exit_inside, pres-inside}
use Rattle.pn_ranges.proofs.tail.tail.Goals as goal

pub returns-in_default-clause-read : goal.returns-in_default-clause-read
returns-in_default-clause-read c = bare-tail _ _ _ c.in_default.ensures (absent-build _)

pub returns-in_err-rest-clause-stops : goal.returns-in_err-rest-clause-stops
returns-in_err-rest-clause-stops c = exit_stops (λ e. first_fault (whole e 3) c.args.text.now) _ _ c.from_residual.ensures.1
    (λ e. whole-build e c.args.text.now (ap (starts_with (λ b. b == 45)) c.in-Some.ensures ∙ grind (arith, nat_tests)) ∙ c.in_err-rest.ensures.stops e)

pub returns-then-b-ne45-clause-read : goal.returns-then-b-ne45-clause-read
returns-then-b-ne45-clause-read c = bare-tail _ _ _ c.split_at.ensures.front c.in_ok-rest.ensures.read

pub returns-in_err-rest-2-clause-stops : goal.returns-in_err-rest-2-clause-stops
returns-in_err-rest-2-clause-stops c = exit_stops (λ e. first_fault (whole e 3) c.args.text.now) _ _ c.from_residual-in_err-rest-2.ensures.1
    (λ e. whole-hyphen e _ _ _ c.in-Some.ensures c.if-b-ne45.false ∙ c.in_ok-after.ensures.goes e ∙ pre-build e c.in_ok-after.after.now c.in_ok-after.ensures.ends ∙ c.in_err-rest-2.ensures.stops e)

pub returns-clause-read : goal.returns-clause-read
returns-clause-read c = pre-tail _ _ _ _ _ _ c.in-Some.ensures c.if-b-ne45.false c.in_ok-after.ensures.read c.split_at-2.ensures.front c.in_ok-rest-2.ensures.read

pub returns-clause-goes : goal.returns-clause-goes
returns-clause-goes c = λ e. whole-hyphen e _ _ _ c.in-Some.ensures c.if-b-ne45.false ∙ c.in_ok-after.ensures.goes e ∙ pre-build e c.in_ok-after.after.now c.in_ok-after.ensures.ends ∙ c.in_ok-rest-2.ensures.goes e

pub returns-in_err-rest-2-clause-inside : goal.returns-in_err-rest-2-clause-inside
returns-in_err-rest-2-clause-inside c = exit_inside c.args.text.now _ _ c.from_residual-in_err-rest-2.ensures.1
    (byte-inside c.args.text.now c.in-Some.behind.now c.in-Some.b _ c.in-Some.ensures (grind (arith, nat_tests, c.if-b-ne45.false))
    (pres-inside c.in-Some.behind.now c.in_ok-after.after.now _ c.in_ok-after.ensures.read c.in_err-rest-2.ensures.inside))
