use Rattle.pn_registry.proofs.FilesLawLemmas.{same}
use Rattle.pn_registry.proofs.laws.files_same_law.Goals as goal

pub returns : goal.returns
returns c = same
