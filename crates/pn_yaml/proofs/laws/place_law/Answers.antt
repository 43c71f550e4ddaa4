use Rattle.pn_yaml.proofs.Refusals.{place-law}
use Rattle.pn_yaml.proofs.laws.place_law.Goals as goal

pub returns : goal.returns
returns c = place-law
