use Rattle.pn_layout.proofs.FindingLemmas.{finds}
use Rattle.pn_layout.proofs.laws.finds_law.Goals as goal

pub returns : goal.returns
returns c = finds
