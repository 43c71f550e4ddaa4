use Rattle.pn_storecore.proofs.WasLemmas.{was}
use Rattle.pn_storecore.proofs.laws.was_law.Goals as goal

pub returns : goal.returns
returns c = was
