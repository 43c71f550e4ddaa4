use Rattle.pn_choice.proofs.WordsLemmas.{folders}
use Rattle.pn_choice.proofs.laws.folders_law.Goals as goal

pub returns : goal.returns
returns c = folders
