use Rattle.std.proofs.Common.{◌≡◌, ◌∙◌, sym, arith, drop, refl}
use Rattle.std.specs.Prelude.{string_bytes}
use Rattle.std.proofs.lemmas.Result.{err_from_is_err_and}
use Rattle.pn_yaml.specs.Bytes.{indentation}
use Rattle.pn_yaml.specs.Cursor.{rows_left, row_of, rows_ahead}
use Rattle.pn_yaml.proofs.Indentations.{drop_indentation}
use Rattle.pn_yaml.proofs.Exits.{exit_gives, same_outcome}
use Rattle.pn_yaml.proofs.Filling.{joined_end, joined_stop, joined_more}
use Rattle.pn_yaml.proofs.literal.joined.Goals as goal

pub returns-in_default : goal.returns-in_default
returns-in_default c = joined_end c.args.between c.args.indent (rows_left c.args.rows) (sym c.in_default.ensures) ∙ rw c.new-text.ensures.bytes refl

pub returns-then-line-indent : goal.returns-then-line-indent
returns-then-line-indent c = joined_stop c.args.between c.args.indent (rows_left c.args.rows) (row_of c.in-Some.front.line) (rows_left c.in-Some.front.below)
    (sym c.in-Some.ensures) (omega (arith, c.in-Some.front.line.indented)) ∙ rw c.new-text.ensures.bytes refl

pub returns-in_err-next : goal.returns-in_err-next
returns-in_err-next c = let p = err_from_is_err_and c.from_residual-in_err-next.result c.from_residual-in_err-next.ensures.1 in
    let line = c.in-Some.front.line in
    let content : string_bytes c.push_str.new.self ≡ drop (indentation line.text.now) line.text.now =
    c.in_ok-push_str.ensures.bytes ∙ rw (c.new-text.ensures.bytes, line.rest, drop_indentation line.text.now) refl in
    let h = c.in_err-next.ensures in
    exit_gives (λ r. (string_bytes r.0, rows_ahead r.1)) c.in_err-next.field-0.0 c.from_residual-in_err-next.result _ p
    (same_outcome c.in_err-next.field-0.0 _ _ (joined_more c.args.between c.args.indent (string_bytes c.push_str.new.self) (rows_left c.args.rows) (row_of line) (rows_left c.in-Some.front.below)
    (sym c.in-Some.ensures) (omega (arith, line.indented)) content) (rw line.indented at h))

pub returns : goal.returns
returns c =
    let line = c.in-Some.front.line in
    let content : string_bytes c.push_str.new.self ≡ drop (indentation line.text.now) line.text.now =
    c.in_ok-push_str.ensures.bytes ∙ rw (c.new-text.ensures.bytes, line.rest, drop_indentation line.text.now) refl in
    let h = c.in_ok-next.ensures in
    joined_more c.args.between c.args.indent (string_bytes c.push_str.new.self) (rows_left c.args.rows) (row_of line) (rows_left c.in-Some.front.below)
    (sym c.in-Some.ensures) (omega (arith, line.indented)) content ∙ (rw line.indented at h)
