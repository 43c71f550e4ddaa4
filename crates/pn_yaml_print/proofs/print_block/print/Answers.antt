use Rattle.std.proofs.Common.{◌≡◌, true, arith, rules, tests}
use Rattle.std.specs.Str.{is_utf8}
use Rattle.std.proofs.lemmas.Grind.{common_steps}
use Rattle.pn_yaml_print.specs.Printing.{printed}
use Rattle.pn_yaml.specs.View.{view}
use Rattle.pn_yaml.specs.declared.node.Node.{the_lemmas}
use Rattle.pn_yaml_print.proofs.PrintedUtf8.{utf8_none}
use Rattle.pn_yaml_print.proofs.ReadBack.{read_back}
use Rattle.pn_yaml_print.proofs.print_block.print.Goals as goal

pub returns-clause-reads : goal.returns-clause-reads
returns-clause-reads c =
    let text : c.match-node.out.items ≡ printed (view c.args.node.now) = search (rules, the_lemmas, tests, common_steps) in
    let utf8 : is_utf8 c.match-node.out.items ≡ true = grind (arith, utf8_none) in
    read_back (view c.args.node.now) c.match-node.out.items c.requires text utf8
