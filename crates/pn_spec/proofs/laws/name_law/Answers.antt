use Rattle.pn_spec.proofs.Named.{name}
use Rattle.pn_spec.proofs.laws.name_law.Goals as goal

pub returns : goal.returns
returns c = name
