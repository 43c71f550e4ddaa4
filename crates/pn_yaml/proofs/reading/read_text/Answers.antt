use Rattle.std.proofs.Common.{◌≡◌, ◌∙◌, ◌∷◌, [], Option, Ok, ap}
use Rattle.std.proofs.lemmas.Result.{err_from_is_err_and}
use Rattle.pn_yaml.specs.declared.line.Front.{Front}
use Rattle.pn_yaml.specs.Blocks.{alone, root_at, text_says}
use Rattle.pn_yaml.specs.Cursor.{row_of, rows_ahead, rows_left}
use Rattle.pn_yaml.specs.Rows.{first_ahead}
use Rattle.pn_yaml.specs.View.{view}
use Rattle.pn_yaml.proofs.Exits.{exit_gives, fails_on}
use Rattle.pn_yaml.proofs.SaysLemmas.{text_from, alone_fails, alone_ok, alone_left}
use Rattle.pn_yaml.proofs.reading.read_text.Goals as goal

pub returns-in_err-node : goal.returns-in_err-node
returns-in_err-node c =
    let p = err_from_is_err_and c.from_residual-in_err-node.result c.from_residual-in_err-node.ensures.1 in
    let row = row_of c.in-Some.front.line in
    let below = rows_left c.in-Some.front.below in
    let f : first_ahead (rows_left c.rows_of.result) ≡ Ok (row ∷ below) = c.in_ok-front.ensures ∙ ap (λ (o : Option Front). Ok (rows_ahead o)) c.in-Some.is in
    let said : text_says c.args.text.now ≡ alone (root_at row below) = text_from c.args.text.now (rows_left c.rows_of.result) (row ∷ below) c.rows_of.ensures f in
    exit_gives view c.in_err-node.field-0.0 c.from_residual-in_err-node.result (text_says c.args.text.now) p
    (fails_on c.in_err-node.field-0.0 (root_at row below) (text_says c.args.text.now) (λ d is. said ∙ alone_fails (root_at row below) d is) c.in_err-node.ensures)

pub returns-in-None : goal.returns-in-None
returns-in-None c =
    let row = row_of c.in-Some.front.line in
    let below = rows_left c.in-Some.front.below in
    let f : first_ahead (rows_left c.rows_of.result) ≡ Ok (row ∷ below) = c.in_ok-front.ensures ∙ ap (λ (o : Option Front). Ok (rows_ahead o)) c.in-Some.is in
    let said : text_says c.args.text.now ≡ alone (root_at row below) = text_from c.args.text.now (rows_left c.rows_of.result) (row ∷ below) c.rows_of.ensures f in
    let read : root_at row below ≡ Ok (view c.in_ok-node.node, []) = c.in_ok-node.ensures ∙ ap (λ (o : Option Front). Ok (view c.in_ok-node.node, rows_ahead o)) c.in-None.is in
    said ∙ alone_ok (root_at row below) (view c.in_ok-node.node) read

pub returns-in-Some-next : goal.returns-in-Some-next
returns-in-Some-next c =
    let row = row_of c.in-Some.front.line in
    let below = rows_left c.in-Some.front.below in
    let left = row_of c.in-Some-next.left.line in
    let rest = rows_left c.in-Some-next.left.below in
    let f : first_ahead (rows_left c.rows_of.result) ≡ Ok (row ∷ below) = c.in_ok-front.ensures ∙ ap (λ (o : Option Front). Ok (rows_ahead o)) c.in-Some.is in
    let said : text_says c.args.text.now ≡ alone (root_at row below) = text_from c.args.text.now (rows_left c.rows_of.result) (row ∷ below) c.rows_of.ensures f in
    let read : root_at row below ≡ Ok (view c.in_ok-node.node, left ∷ rest) = c.in_ok-node.ensures ∙ ap (λ (o : Option Front). Ok (view c.in_ok-node.node, rows_ahead o)) c.in-Some-next.is in
    said ∙ alone_left (root_at row below) (view c.in_ok-node.node) left rest read
