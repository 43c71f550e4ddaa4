use Rattle.pn_node.proofs.Ends.{finds}
use Rattle.pn_node.proofs.found_law.Goals as goal

pub returns : goal.returns
returns c = finds
