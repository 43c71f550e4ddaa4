use Rattle.pn_storecore.proofs.DiscardLemmas.{discards}
use Rattle.pn_storecore.proofs.laws.discard_law.Goals as goal

pub returns : goal.returns
returns c = discards
