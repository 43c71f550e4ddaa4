use Rattle.pn_storecore.proofs.IsUndisturbedLemmas.{alone}
use Rattle.pn_storecore.proofs.laws.alone_law.Goals as goal

pub returns : goal.returns
returns c = alone
