use Rattle.pn_config.proofs.SettledProofs.{settled}
use Rattle.pn_config.proofs.laws.settled_law.Goals as goal

pub returns : goal.returns
returns c = settled
