use Rattle.std.proofs.Common.{◌≡◌, ◌==◌, ◌+◌, [], ◌∷◌, ◌++◌, false, length, sym, ap, ◌∙◌, rules, append_assoc}
use Rattle.std.proofs.lemmas.Result.{on_ok_weaker}
use Rattle.pn_yaml_print.specs.Printing.{items_lines}
use Rattle.pn_yaml.specs.View.{items_view}
use Rattle.pn_yaml_print.proofs.PrintedNodes.{list_opens}
use Rattle.pn_yaml_print.proofs.print_block.push_list.Goals as goal

pub returns-clause-text : goal.returns-clause-text
returns-clause-text c =
    let out = c.args.out.now.items in
    let lines = items_lines (2 + c.args.indent) (items_view c.args.items.now) in
    let some : (length c.args.items.now == 0) ≡ false = cc in
    let ends : c.push.new.self.items ≡ out ++ 10 ∷ [] = search rules in
    on_ok_weaker c.push_items.result
    (λ e. e ∙ ap (λ y. y ++ lines) ends ∙ append_assoc out (10 ∷ []) lines ∙ ap (λ y. out ++ y) (sym (list_opens c.args.indent c.args.items.now some)))
    c.push_items.ensures.text
