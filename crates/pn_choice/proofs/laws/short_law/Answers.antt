use Rattle.pn_choice.proofs.WordsLemmas.{short}
use Rattle.pn_choice.proofs.laws.short_law.Goals as goal

pub returns : goal.returns
returns c = short
