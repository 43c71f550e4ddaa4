use Rattle.pn_plain.proofs.EdgeLemmas.{edge_law}
use Rattle.pn_plain.proofs.laws.edge_law.Goals as goal

pub returns : goal.returns
returns c = edge_law
