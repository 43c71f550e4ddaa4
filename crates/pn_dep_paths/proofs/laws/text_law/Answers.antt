use Rattle.pn_dep_paths.proofs.LawLemmas.{law}
use Rattle.pn_dep_paths.proofs.laws.text_law.Goals as goal

pub returns : goal.returns
returns c = law
