use Rattle.std.proofs.Common.{◌∙◌, sym, subst, arith}
use Rattle.pn_yaml.specs.Cursor.{row_of, rows_left, node_ahead}
use Rattle.pn_yaml.specs.Outcome.{Gives}
use Rattle.pn_yaml.proofs.Blocking.{Read, root_deep, root_flow, root_block}
use Rattle.pn_yaml.proofs.block.root_at.Goals as goal

pub returns-then-front-gt0 : goal.returns-then-front-gt0
returns-then-front-gt0 c = let indented = c.args.front.line.indented in root_deep (row_of c.args.front.line) (rows_left c.args.front.below) (omega (arith, indented))

pub returns-then-is_flow : goal.returns-then-is_flow
returns-then-is_flow c =
    let indented = c.args.front.line.indented in
    subst (λ (r : Read). Gives node_ahead c.flow_on.result r)
    (sym (root_flow (row_of c.args.front.line) (rows_left c.args.front.below) (omega (arith, indented)) (sym c.is_flow.ensures ∙ c.if-is_flow.true))) c.flow_on.ensures

pub returns : goal.returns
returns c =
    let indented = c.args.front.line.indented in
    subst (λ (r : Read). Gives node_ahead c.block_at.result r)
    (sym (root_block (row_of c.args.front.line) (rows_left c.args.front.below) (omega (arith, indented)) (sym c.is_flow.ensures ∙ c.if-is_flow.false))) c.block_at.ensures
