use Rattle.pn_node.proofs.Laws.{lookup}
use Rattle.pn_node.proofs.lookup_law.Goals as goal

pub returns : goal.returns
returns c = lookup
