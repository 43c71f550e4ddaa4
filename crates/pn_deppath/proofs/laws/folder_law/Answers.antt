use Rattle.pn_deppath.proofs.NumberingLemmas.{folders_apart}
use Rattle.pn_deppath.proofs.laws.folder_law.Goals as goal

pub returns : goal.returns
returns c = folders_apart
