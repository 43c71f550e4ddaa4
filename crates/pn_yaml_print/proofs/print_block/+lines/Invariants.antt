use Rattle.std.proofs.Common.{◌≡◌, ◌≤◌, ◌+◌, ◌*◌, ◌++◌, drop}
use Rattle.std.specs.Str.{is_utf8}
use Rattle.pn_yaml.specs.Data.{members_depth}
use Rattle.pn_yaml_print.specs.Levels.{level_of}
use Rattle.pn_yaml_print.specs.Printing.{members_lines}
use Rattle.pn_yaml.specs.View.{members_view}
use Rattle.pn_yaml_print.proofs.print_block.+lines.Given as goal

abbrev pub invariant-push_members-loop-key : goal.invariant-push_members-loop-key
invariant-push_members-loop-key l = record {
  flat : l.indent + 2 * members_depth (members_view (drop l.key-index l.members)) ≤ 128;
  same : l.out.items ++ members_lines (level_of l.level) l.indent (members_view (drop l.key-index l.members))
      ≡ l.initial.out.items ++ members_lines (level_of l.level) l.indent (members_view l.members);
  utf8 : is_utf8 l.out.items ≡ is_utf8 l.initial.out.items;
}
