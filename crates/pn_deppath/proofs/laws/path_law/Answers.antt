use Rattle.pn_deppath.proofs.PathLemmas.{law}
use Rattle.pn_deppath.proofs.laws.path_law.Goals as goal

pub returns : goal.returns
returns c = law
