use Rattle.pn_config.proofs.JoinProofs.{join}
use Rattle.pn_config.proofs.laws.join_law.Goals as goal

pub returns : goal.returns
returns c = join
