use Rattle.pn_ranges.proofs.Stopped.{place}
use Rattle.pn_ranges.proofs.laws.place_law.Goals as goal

pub returns : goal.returns
returns c = place
