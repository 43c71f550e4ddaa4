use Rattle.std.proofs.Common.{ℕ, List, IfOk, IfErr, ap, sym, ◌∙◌, subst}
use Rattle.std.specs.Prelude.{not}
use Rattle.pn_glob.specs.Grammar.{is_plain}
use Rattle.pn_glob.specs.Reading.{Grown, StopsIn, starts_with}
use Rattle.pn_glob.proofs.Braces.{bracket-stops, grown-brace, items_of}
use Rattle.pn_glob.proofs.choices.piece.Goals as goal

pub plain-requires : goal.plain-requires
plain-requires c = ap (starts_with is_plain) c.requires ∙ ap not (sym c.if-is_bracket.ensures)

pub returns-then-first-eq123-clause-ok : goal.returns-then-first-eq123-clause-ok
returns-then-first-eq123-clause-ok c = subst (λ (t : List ℕ). IfOk c.brace.result (λ r. Grown (items_of c.args.texts.items) t (items_of r.0.items) r.1.now))
    (grown-brace c.args.text.now c.args.first c.args.behind.now c.requires c.if-first-eq123.true) c.brace.ensures.ok

pub returns-then-first-eq123-clause-err : goal.returns-then-first-eq123-clause-err
returns-then-first-eq123-clause-err c = subst (λ (t : List ℕ). IfErr c.brace.result (StopsIn (items_of c.args.texts.items) t))
    (grown-brace c.args.text.now c.args.first c.args.behind.now c.requires c.if-first-eq123.true) c.brace.ensures.err

pub returns-then-is_bracket-clause-err : goal.returns-then-is_bracket-clause-err
returns-then-is_bracket-clause-err c = bracket-stops (items_of c.args.texts.items) c.args.text.now c.args.first c.args.behind.now c.requires (sym c.if-is_bracket.ensures) c.if-first-eq123.false
