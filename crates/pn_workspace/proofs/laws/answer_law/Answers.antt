use Rattle.pn_workspace.proofs.AnswerLemmas.{answer}
use Rattle.pn_workspace.proofs.laws.answer_law.Goals as goal

pub returns : goal.returns
returns c = answer
