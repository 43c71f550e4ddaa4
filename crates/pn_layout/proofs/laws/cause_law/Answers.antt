use Rattle.pn_layout.proofs.CauseLemmas.{cause}
use Rattle.pn_layout.proofs.laws.cause_law.Goals as goal

pub returns : goal.returns
returns c = cause
