use Rattle.pn_graph.proofs.ReachLemmas.{law}
use Rattle.pn_graph.proofs.laws.reach_law.Goals as goal

pub returns : goal.returns
returns c = law
