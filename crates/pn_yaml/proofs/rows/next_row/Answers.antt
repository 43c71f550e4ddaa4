use Rattle.std.proofs.Common.{◌≡◌, [], ◌∙◌, sym, ap, List, ℕ, refl, arith}
use Rattle.std.proofs.lemmas.Bool.{eqb-true}
use Rattle.std.proofs.lemmas.List.{nil_from_length}
use Rattle.pn_yaml.specs.Cursor.{rows_left}
use Rattle.pn_yaml.specs.Rows.{lines_of, numbered, unreturned}
use Rattle.pn_yaml.proofs.LineEnds.{numbered_next}
use Rattle.pn_yaml.proofs.rows.next_row.Goals as goal

pub returns-then-is_empty : goal.returns-then-is_empty
unfolding rows_left
returns-then-is_empty c =
    let e : c.args.rows.text.now ≡ [] = nil_from_length c.args.rows.text.now (omega (arith, eqb-true _ _ (sym c.is_empty.ensures ∙ c.if-is_empty.true))) in
    ap (λ (t : List ℕ). numbered c.args.rows.number (lines_of (unreturned t))) e

pub returns : goal.returns
unfolding rows_left
returns c = numbered_next c.args.rows.number c.args.rows.text.now _ c.first_line.result.1.now _ _ _ c.first_line.ensures.lines c.line.ensures.number c.line.ensures.text refl
