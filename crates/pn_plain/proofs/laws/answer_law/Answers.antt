use Rattle.pn_plain.proofs.AnswerLemmas.{answer_law}
use Rattle.pn_plain.proofs.laws.answer_law.Goals as goal

pub returns : goal.returns
returns c = answer_law
