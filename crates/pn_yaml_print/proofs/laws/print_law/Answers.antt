use Rattle.pn_yaml_print.proofs.ValueLaw.{print-law}
use Rattle.pn_yaml_print.proofs.laws.print_law.Goals as goal

pub returns : goal.returns
returns c = print-law
