use Rattle.pn_spec.proofs.Foreign.{foreign}
use Rattle.pn_spec.proofs.laws.foreign_law.Goals as goal

pub returns : goal.returns
returns c = foreign
