use Rattle.std.proofs.Common.{◌≡◌, ◌++◌, drop}
use Rattle.std.specs.Str.{is_utf8}
use Rattle.pn_yaml_print.specs.Printing.{items_text, members_text}
use Rattle.pn_yaml.specs.View.{items_view, members_view}
use Rattle.pn_yaml_print.proofs.PrintedNodes.{items_from, members_from}
use Rattle.pn_yaml_print.proofs.print_flow.+flow.Given as goal

abbrev pub invariant-push_flow_list-loop-i : goal.invariant-push_flow_list-loop-i
invariant-push_flow_list-loop-i l = record {
  text : l.out.items ++ items_from l.i (items_view (drop l.i l.items)) ≡ l.initial.out.items ++ items_text (items_view l.items);
  utf8 : is_utf8 l.out.items ≡ is_utf8 l.initial.out.items;
}

abbrev pub invariant-push_flow_map-loop-i : goal.invariant-push_flow_map-loop-i
invariant-push_flow_map-loop-i l = record {
  text : l.out.items ++ members_from l.i (members_view (drop l.i l.members)) ≡ l.initial.out.items ++ members_text (members_view l.members);
  utf8 : is_utf8 l.out.items ≡ is_utf8 l.initial.out.items;
}
