use Rattle.pn_node.proofs.Laws.{homes}
use Rattle.pn_node.proofs.homes_law.Goals as goal

pub returns : goal.returns
returns c = homes
