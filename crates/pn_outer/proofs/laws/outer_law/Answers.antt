use Rattle.pn_outer.proofs.OuterLemmas.{law}
use Rattle.pn_outer.proofs.laws.outer_law.Goals as goal

pub returns : goal.returns
returns c = law
