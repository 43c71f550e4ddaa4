use Rattle.pn_workspace.proofs.PlaceLemmas.{place}
use Rattle.pn_workspace.proofs.laws.place_law.Goals as goal

pub returns : goal.returns
returns c = place
