use Rattle.pn_choice.proofs.WordsLemmas.{words}
use Rattle.pn_choice.proofs.laws.words_law.Goals as goal

pub returns : goal.returns
returns c = words
