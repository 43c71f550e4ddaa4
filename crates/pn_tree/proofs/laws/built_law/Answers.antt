use Rattle.pn_tree.proofs.BuiltLemmas.{built}
use Rattle.pn_tree.proofs.laws.built_law.Goals as goal

pub returns : goal.returns
returns c = built
