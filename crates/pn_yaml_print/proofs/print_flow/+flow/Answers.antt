use Rattle.std.proofs.Common.{arith, append-nil, ◌≡◌, ◌++◌, sym, ap, ◌∙◌, rules}
use Rattle.std.proofs.lemmas.Grind.{common_steps}
use Rattle.std.proofs.lemmas.Result.{on_ok_weaker}
use Rattle.pn_yaml.specs.Data.{map}
use Rattle.pn_yaml_print.specs.Printing.{flow_text}
use Rattle.pn_yaml.specs.View.{view, members_view}
use Rattle.pn_yaml.proofs.NodeViews.{view-Map}
use Rattle.pn_yaml_print.proofs.PrintedNodes.{comma, comma_none, comma_some, members_more}
use Rattle.pn_yaml_print.proofs.PrintedUtf8.{utf8_ascii}
use Rattle.pn_yaml_print.proofs.print_flow.+flow.Goals as goal
use Rattle.pn_yaml_print.proofs.print_flow.+flow.Goals.{push_flow_map-then-i-gt0+in_ok-extend_from_slice, push_flow_map-else-i-gt0}

pub push_flow-returns-in-Map-clause-text : goal.push_flow-returns-in-Map-clause-text
push_flow-returns-in-Map-clause-text t c =
    let out = c.args.out.now.items in
    let seen : view c.args.node.now ≡ map (members_view c.as_slice-in-Map.result.now) = ap view c.in-Map.is ∙ view-Map c.in-Map.members ∙ ap (λ ms. map (members_view ms)) (sym c.as_slice-in-Map.ensures) in
    on_ok_weaker c.push_flow_map.result (λ e. e ∙ ap (λ d. out ++ flow_text d) (sym seen)) c.push_flow_map.ensures.text

pub push_flow_map-loop-i-preserved : goal.push_flow_map-loop-i-preserved
push_flow_map-loop-i-preserved t c =
    let l = c.loop-i in
    let front : c.if-i-gt0.out.items ≡ l.out.items ++ comma l.i =
    elim c.if-i-gt0.branch [
      | push_flow_map-then-i-gt0+in_ok-extend_from_slice w ↦ rw (comma_some l.i (omega arith)) (search rules)
      | push_flow_map-else-i-gt0 w ↦ rw (comma_none l.i (omega arith)) (search (rules, append-nil))
    ] in
    record {
      text = members_more l.i c.args.members.now c.index-members-i.result l.out.items c.if-i-gt0.out.items _ _ (omega arith) c.index-members-i.is front (search rules) l.invariant.text;
      utf8 = grind (arith, utf8_ascii);
    }

pub push_flow_list-loop-i-preserved : goal.push_flow_list-loop-i-preserved
push_flow_list-loop-i-preserved t c = record { text = grind (arith, common_steps); utf8 = grind (arith, utf8_ascii) }
