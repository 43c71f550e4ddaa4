use Rattle.pn_ranges.proofs.Counts.{reading}
use Rattle.pn_ranges.proofs.laws.reading_law.Goals as goal

pub returns : goal.returns
returns c = reading
