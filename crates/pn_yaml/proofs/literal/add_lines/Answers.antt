use Rattle.std.proofs.Common.{◌≡◌, ◌∙◌, ◌++◌, ◌∷◌, [], ap, sym, arith, drop, Err, refl}
use Rattle.std.specs.Prelude.{string_bytes}
use Rattle.pn_yaml.specs.Cursor.{rows_left, row_of}
use Rattle.pn_yaml.proofs.Exits.{fails_is}
use Rattle.pn_yaml.proofs.Filling.{added_end, added_stop, added_shallow, added_more, filled_below}
use Rattle.pn_yaml.proofs.literal.add_lines.Goals as goal

pub returns-then-line-indent : goal.returns-then-line-indent
returns-then-line-indent c =
    let h = c.in-Some.front.line.indented in
    sym c.lines.invariant ∙ added_stop c.args.between c.args.indent c.args.width (string_bytes c.lines.text) (rows_left c.lines.rows) (row_of c.in-Some.front.line) (rows_left c.in-Some.front.below)
    (sym c.in-Some.ensures) (omega (arith, c.in-Some.front.line.indented))

pub returns-then-line-width : goal.returns-then-line-width
returns-then-line-width c =
    fails_is c.shallow.result _ (sym c.lines.invariant ∙ added_shallow c.args.between c.args.indent c.args.width (string_bytes c.lines.text) (rows_left c.lines.rows) (row_of c.in-Some.front.line) (rows_left c.in-Some.front.below)
    (sym c.in-Some.ensures) (omega (arith, c.in-Some.front.line.indented)) (omega (arith, c.in-Some.front.line.indented)) ∙ ap Err (sym c.shallow.ensures))

pub lines-smaller : goal.lines-smaller
lines-smaller c = filled_below (rows_left c.lines.rows) (row_of c.in-Some.front.line) (rows_left c.in-Some.front.below) (sym c.in-Some.ensures)

pub lines-preserved : goal.lines-preserved
lines-preserved c =
    let ascii = c.in_ok-push.ensures.ascii c.requires in
    let pushed : string_bytes c.push_str.new.self ≡ string_bytes c.lines.text ++ c.args.between ∷ [] ++ drop c.args.width c.in-Some.front.line.text.now =
    c.in_ok-push_str.ensures.bytes ∙ rw (c.in_ok-push.ensures.bytes, ascii, c.behind_spaces.ensures) refl in
    added_more c.args.between c.args.indent c.args.width (string_bytes c.lines.text) _ (rows_left c.lines.rows) (row_of c.in-Some.front.line) (rows_left c.in-Some.front.below)
    (sym c.in-Some.ensures) (omega (arith, c.in-Some.front.line.indented)) (omega (arith, c.in-Some.front.line.indented)) pushed ∙ c.lines.invariant

pub returns : goal.returns
returns c = sym c.lines.invariant ∙ added_end c.args.between c.args.indent c.args.width (string_bytes c.lines.text) (rows_left c.lines.rows) (sym c.in_default.ensures)
