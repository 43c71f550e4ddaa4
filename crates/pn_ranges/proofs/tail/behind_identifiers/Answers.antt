use Rattle.std.proofs.Common.{arith, ◌∙◌}
use Rattle.std.proofs.lemmas.Bool.Decides.{nat_tests}
use Rattle.semver.specs.Grammar.{is_build_identifier}
use Rattle.pn_ranges.proofs.Tails.{first_identifier, next_identifier, build-dot}
use Rattle.pn_ranges.proofs.Inside.{byte-inside, exit_inside, builds-inside}
use Rattle.pn_ranges.proofs.tail.behind_identifiers.Goals as goal

pub dots-init : goal.dots-init
dots-init c = record {
  read = first_identifier is_build_identifier _ _ c.in_ok-rest.ensures.read;
  ends = c.in_ok-rest.ensures.ends;
  goes = c.in_ok-rest.ensures.goes;
}

pub dots-preserved : goal.dots-preserved
dots-preserved c = record {
  read = next_identifier is_build_identifier _ _ _ _ _ c.dots.invariant.read c.in-Some.ensures c.if-b-ne46.false c.in_ok-rest-2.ensures.read;
  ends = c.in_ok-rest-2.ensures.ends;
  goes = λ e. c.dots.invariant.goes e ∙ build-dot e _ _ _ c.in-Some.ensures c.if-b-ne46.false ∙ c.in_ok-rest-2.ensures.goes e;
}

pub returns-in_err-rest-2-clause-inside : goal.returns-in_err-rest-2-clause-inside
returns-in_err-rest-2-clause-inside c = exit_inside c.args.text.now _ _ c.from_residual-in_err-rest-2.ensures.1
    (builds-inside c.args.text.now c.dots.rest.now _ c.dots.invariant.read
    (byte-inside c.dots.rest.now c.in-Some.behind.now c.in-Some.b _ c.in-Some.ensures (grind (arith, nat_tests, c.if-b-ne46.false)) c.in_err-rest-2.ensures.inside))
