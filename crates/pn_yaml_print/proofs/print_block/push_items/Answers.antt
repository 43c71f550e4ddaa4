use Rattle.std.proofs.Common.{arith}
use Rattle.std.proofs.lemmas.Grind.{common_steps}
use Rattle.pn_yaml_print.proofs.PrintedUtf8.{utf8_ascii, utf8_spaces}
use Rattle.pn_yaml_print.proofs.print_block.push_items.Goals as goal

pub loop-item-preserved : goal.loop-item-preserved
loop-item-preserved c = record {
  text = grind (arith, common_steps);
  utf8 = grind (arith, utf8_ascii, utf8_spaces);
}
