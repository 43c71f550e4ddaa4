use Rattle.pn_node.proofs.Ends.{ends}
use Rattle.pn_node.proofs.end_law.Goals as goal

pub returns : goal.returns
returns c = ends
