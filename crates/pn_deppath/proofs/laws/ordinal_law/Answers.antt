use Rattle.pn_deppath.proofs.OrdinalLemmas.{law}
use Rattle.pn_deppath.proofs.laws.ordinal_law.Goals as goal

pub returns : goal.returns
returns c = law
