use Rattle.pn_node.proofs.Laws.{reals}
use Rattle.pn_node.proofs.real_law.Goals as goal

pub returns : goal.returns
returns c = reals
