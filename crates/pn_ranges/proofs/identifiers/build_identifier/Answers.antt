use Rattle.std.proofs.Common.{sym, ap, ◌∙◌, subst}
use Rattle.semver.specs.Grammar.{is_build_identifier, is_identifier_byte}
use Rattle.pn_ranges.specs.Bytes.{is_body, starts_with}
use Rattle.pn_ranges.specs.Reading.{Spanned}
use Rattle.pn_ranges.specs.Places.{build, first_fault}
use Rattle.pn_ranges.proofs.FrontOfLemmas.{behind-le, behind-stops}
use Rattle.pn_ranges.proofs.IdentifierLemmas.{build-read, build-goes}
use Rattle.pn_ranges.proofs.identifiers.build_identifier.Goals as goal

pub returns-clause-read : goal.returns-clause-read
returns-clause-read c = subst (Spanned is_build_identifier c.args.text.now) (sym c.behind_identifier.ensures)
    (build-read _ _ _ c.in-Some.ensures (sym c.is_identifier_byte.ensures ∙ c.if-not-is_identifier_byte.false))

pub returns-clause-ends : goal.returns-clause-ends
returns-clause-ends c = ap (starts_with is_identifier_byte) c.behind_identifier.ensures ∙ behind-stops is_identifier_byte c.in-Some.rest.now

pub returns-clause-goes : goal.returns-clause-goes
returns-clause-goes c = λ e. build-goes e _ _ _ c.in-Some.ensures (sym c.is_identifier_byte.ensures ∙ c.if-not-is_identifier_byte.false)
    ∙ ap (first_fault (build e)) (sym c.behind_identifier.ensures)

pub returns-then-not-is_identifier_byte-clause-inside : goal.returns-then-not-is_identifier_byte-clause-inside
returns-then-not-is_identifier_byte-clause-inside c = behind-le is_body c.args.text.now
