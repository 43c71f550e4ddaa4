use Rattle.pn_glob.proofs.Settled.{settled}
use Rattle.pn_glob.proofs.laws.settled_law.Goals as goal

pub returns : goal.returns
returns c = settled
