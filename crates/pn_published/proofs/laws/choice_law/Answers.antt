use Rattle.pn_published.proofs.ChoiceLemmas.{choice}
use Rattle.pn_published.proofs.laws.choice_law.Goals as goal

pub returns : goal.returns
returns c = choice
