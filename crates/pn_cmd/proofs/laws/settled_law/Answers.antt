use Rattle.pn_cmd.proofs.AlikeLemmas.{settled_law}
use Rattle.pn_cmd.proofs.laws.settled_law.Goals as goal

pub returns : goal.returns
returns c = settled_law
