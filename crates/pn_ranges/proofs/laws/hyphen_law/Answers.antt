use Rattle.pn_ranges.proofs.LawProofs.{hyphen}
use Rattle.pn_ranges.proofs.laws.hyphen_law.Goals as goal

pub returns : goal.returns
returns c = hyphen
