use Rattle.pn_graph.proofs.FreeLemmas.{law}
use Rattle.pn_graph.proofs.laws.free_law.Goals as goal

pub returns : goal.returns
returns c = law
