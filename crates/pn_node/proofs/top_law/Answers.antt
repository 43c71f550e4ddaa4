use Rattle.pn_node.proofs.Laws.{top_lookup}
use Rattle.pn_node.proofs.top_law.Goals as goal

pub returns : goal.returns
returns c = top_lookup
