use Rattle.pn_config.proofs.PassedProofs.{passed}
use Rattle.pn_config.proofs.laws.passed_law.Goals as goal

pub returns : goal.returns
returns c = passed
