use Rattle.pn_config.proofs.ResolvedProofs.{resolves}
use Rattle.pn_config.proofs.laws.resolved_law.Goals as goal

pub returns : goal.returns
returns c = resolves
