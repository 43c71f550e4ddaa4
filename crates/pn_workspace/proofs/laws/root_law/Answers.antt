use Rattle.pn_workspace.proofs.RootLemmas.{root}
use Rattle.pn_workspace.proofs.laws.root_law.Goals as goal

pub returns : goal.returns
returns c = root
