use Rattle.std.proofs.Common.{◌∙◌, ◌∷◌, Some, None, List, ℕ, ap, sym, arith}
use Rattle.std.proofs.lemmas.Str.Pattern.{split_parts}
use Rattle.pn_yaml.specs.Rows.{lines_of, unreturned}
use Rattle.pn_yaml.proofs.LineEnds.{lines_front, lines_last}
use Rattle.pn_yaml.proofs.rows.first_line.Goals as goal

pub returns-in-None-clause-lines : goal.returns-in-None-clause-lines
returns-in-None-clause-lines c = lines_last c.args.text.now c.requires (split_parts 10 c.args.text.now None c.in-None.ensures.cases (omega arith))

pub returns-in-Some-clause-lines : goal.returns-in-Some-clause-lines
returns-in-Some-clause-lines c =
    let p = split_parts 10 c.args.text.now (Some (c.in-Some.line, c.in-Some.rest)) c.in-Some.ensures.cases (omega arith) in
    ap (λ (t : List ℕ). lines_of (unreturned t)) p.0 ∙ lines_front c.in-Some.line.now c.in-Some.rest.now p.1
    ∙ ap (λ (w : List ℕ). w ∷ lines_of (unreturned c.in-Some.rest.now)) (sym c.unreturned.ensures)
