use Rattle.pn_spec.proofs.Named.{project}
use Rattle.pn_spec.proofs.laws.project_law.Goals as goal

pub returns : goal.returns
returns c = project
