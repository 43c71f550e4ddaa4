use Rattle.pn_spec.proofs.OneReading.{readings}
use Rattle.pn_spec.proofs.laws.reading_law.Goals as goal

pub returns : goal.returns
returns c = readings
