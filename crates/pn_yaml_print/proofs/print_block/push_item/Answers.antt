use Rattle.std.proofs.Common.{◌≡◌, ◌++◌, sym, ap, ◌∙◌}
use Rattle.std.proofs.lemmas.Result.{on_ok_weaker}
use Rattle.pn_yaml.specs.Data.{map}
use Rattle.pn_yaml_print.specs.Printing.{item_text}
use Rattle.pn_yaml.specs.View.{view, members_view}
use Rattle.pn_yaml.proofs.NodeViews.{view-Map}
use Rattle.pn_yaml_print.proofs.print_block.push_item.Goals as goal

pub returns-in-Map-clause-text : goal.returns-in-Map-clause-text
returns-in-Map-clause-text c =
    let out = c.args.out.now.items in
    let seen : view c.args.node.now ≡ map (members_view c.as_slice-in-Map.result.now) = ap view c.in-Map.is ∙ view-Map c.in-Map.members ∙ ap (λ ms. map (members_view ms)) (sym c.as_slice-in-Map.ensures) in
    on_ok_weaker c.push_flow_map.result (λ e. e ∙ ap (λ d. out ++ item_text d) (sym seen)) c.push_flow_map.ensures.text
