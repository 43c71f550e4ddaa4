use Rattle.pn_dep_paths.proofs.PathsLawLemmas.{law}
use Rattle.pn_dep_paths.proofs.laws.paths_law.Goals as goal

pub returns : goal.returns
returns c = law c.ordinal_law.ensures
