use Rattle.pn_storecore.proofs.HoldsLemmas.{asks}
use Rattle.pn_storecore.proofs.laws.asks_law.Goals as goal

pub returns : goal.returns
returns c = asks
