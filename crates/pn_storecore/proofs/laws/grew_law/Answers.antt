use Rattle.pn_storecore.proofs.GrewLemmas.{grew}
use Rattle.pn_storecore.proofs.laws.grew_law.Goals as goal

pub returns : goal.returns
returns c = grew
