use Rattle.pn_tree.proofs.FindsLemmas.{finds}
use Rattle.pn_tree.proofs.laws.finds_law.Goals as goal

pub returns : goal.returns
returns c = finds
