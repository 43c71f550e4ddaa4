use Rattle.pn_ranges.proofs.Refused.{refusals}
use Rattle.pn_ranges.proofs.laws.refusal_law.Goals as goal

pub returns : goal.returns
returns c = refusals
