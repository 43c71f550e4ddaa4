use Rattle.pn_spec.proofs.LawProofs.{space}
use Rattle.pn_spec.proofs.laws.space_law.Goals as goal

pub returns : goal.returns
returns c = space
