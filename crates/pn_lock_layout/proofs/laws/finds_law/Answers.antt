use Rattle.pn_lock_layout.proofs.FindingLemmas.{finds}
use Rattle.pn_lock_layout.proofs.laws.finds_law.Goals as goal

pub returns : goal.returns
returns c = finds c.folder_law.ensures
