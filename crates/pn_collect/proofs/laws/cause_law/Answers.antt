use Rattle.pn_collect.proofs.CauseLemmas.{cause}
use Rattle.pn_collect.proofs.laws.cause_law.Goals as goal

pub returns : goal.returns
returns c = cause
