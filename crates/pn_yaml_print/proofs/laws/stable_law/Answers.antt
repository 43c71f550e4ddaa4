use Rattle.pn_yaml_print.proofs.Stable.{stable-law}
use Rattle.pn_yaml_print.proofs.laws.stable_law.Goals as goal

pub returns : goal.returns
returns c = stable-law
