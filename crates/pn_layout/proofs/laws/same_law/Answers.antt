use Rattle.pn_layout.proofs.CauseLemmas.{same}
use Rattle.pn_layout.proofs.laws.same_law.Goals as goal

pub returns : goal.returns
returns c = same
