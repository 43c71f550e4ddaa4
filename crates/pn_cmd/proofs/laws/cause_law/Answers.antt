use Rattle.pn_cmd.proofs.CauseLemmas.{end_cause}
use Rattle.pn_cmd.proofs.laws.cause_law.Goals as goal

pub returns : goal.returns
returns c = end_cause
