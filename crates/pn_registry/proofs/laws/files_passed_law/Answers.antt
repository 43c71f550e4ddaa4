use Rattle.pn_registry.proofs.FilesLawLemmas.{passed}
use Rattle.pn_registry.proofs.laws.files_passed_law.Goals as goal

pub returns : goal.returns
returns c = passed
