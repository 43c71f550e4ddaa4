use Rattle.pn_collect.proofs.SameLemmas.{same}
use Rattle.pn_collect.proofs.laws.same_law.Goals as goal

pub returns : goal.returns
returns c = same
