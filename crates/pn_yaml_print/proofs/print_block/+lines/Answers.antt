use Rattle.std.proofs.Common.{◌≡◌, ◌==◌, ◌+◌, [], ◌∷◌, ◌++◌, false, length, sym, ap, ◌∙◌, rules, append_assoc, arith}
use Rattle.std.proofs.lemmas.Grind.{common_steps}
use Rattle.std.proofs.lemmas.Result.{on_ok_weaker}
use Rattle.pn_yaml.specs.Data.{map}
use Rattle.pn_yaml_print.specs.Levels.{level_of}
use Rattle.pn_yaml_print.specs.Printing.{members_lines, value_lines}
use Rattle.pn_yaml.specs.View.{view, members_view}
use Rattle.pn_yaml.proofs.NodeViews.{view-Map}
use Rattle.pn_yaml_print.proofs.PrintedNodes.{map_opens}
use Rattle.pn_yaml_print.proofs.PrintedUtf8.{utf8_spaces}
use Rattle.pn_yaml_print.proofs.print_block.+lines.Goals as goal

pub push_map-returns-clause-text : goal.push_map-returns-clause-text
push_map-returns-clause-text t c =
    let out = c.args.out.now.items in
    let level = level_of c.args.level in
    let lines = members_lines level (2 + c.args.indent) (members_view c.args.members.now) in
    let some : (length c.args.members.now == 0) ≡ false = cc in
    let ends : c.push-2.new.self.items ≡ out ++ 10 ∷ [] = search rules in
    on_ok_weaker c.push_members.result
    (λ e. e ∙ ap (λ y. y ++ lines) ends ∙ append_assoc out (10 ∷ []) lines
    ∙ ap (λ y. out ++ y) (sym (map_opens level c.args.flow c.args.indent c.args.members.now c.if-flow.false some)))
    c.push_members.ensures.text

pub push_value-returns-in-Map-clause-text : goal.push_value-returns-in-Map-clause-text
push_value-returns-in-Map-clause-text t c =
    let out = c.args.out.now.items in
    let seen : view c.args.node.now ≡ map (members_view c.as_slice-in-Map.result.now) = ap view c.in-Map.is ∙ view-Map c.in-Map.members ∙ ap (λ ms. map (members_view ms)) (sym c.as_slice-in-Map.ensures) in
    on_ok_weaker c.push_map.result (λ e. e ∙ ap (λ d. out ++ value_lines (level_of c.args.level) c.args.flow c.args.indent d) (sym seen)) c.push_map.ensures.text

pub push_members-loop-key-preserved : goal.push_members-loop-key-preserved
push_members-loop-key-preserved t c = record {
  flat = grind (arith, common_steps);
  same = grind (arith, common_steps);
  utf8 = grind (arith, utf8_spaces);
}
