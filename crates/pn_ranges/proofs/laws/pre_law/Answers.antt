use Rattle.pn_ranges.proofs.LawProofs.{pre}
use Rattle.pn_ranges.proofs.laws.pre_law.Goals as goal

pub returns : goal.returns
returns c = pre
