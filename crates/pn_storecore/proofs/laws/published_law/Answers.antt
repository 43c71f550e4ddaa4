use Rattle.pn_storecore.proofs.IsSoundLemmas.{published}
use Rattle.pn_storecore.proofs.laws.published_law.Goals as goal

pub returns : goal.returns
returns c = published
