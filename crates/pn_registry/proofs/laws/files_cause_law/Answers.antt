use Rattle.pn_registry.proofs.FilesLawLemmas.{cause}
use Rattle.pn_registry.proofs.laws.files_cause_law.Goals as goal

pub returns : goal.returns
returns c = cause
