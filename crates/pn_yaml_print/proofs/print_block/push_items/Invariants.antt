use Rattle.std.proofs.Common.{◌≡◌, ◌++◌, drop}
use Rattle.std.specs.Str.{is_utf8}
use Rattle.pn_yaml_print.specs.Printing.{items_lines}
use Rattle.pn_yaml.specs.View.{items_view}
use Rattle.pn_yaml_print.proofs.print_block.push_items.Given as goal

abbrev pub invariant-loop-item : goal.invariant-loop-item
invariant-loop-item l = record {
  text : l.out.items ++ items_lines l.indent (items_view (drop l.item-index l.items)) ≡ l.initial.out.items ++ items_lines l.indent (items_view l.items);
  utf8 : is_utf8 l.out.items ≡ is_utf8 l.initial.out.items;
}
