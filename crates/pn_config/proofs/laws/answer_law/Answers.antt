use Rattle.pn_config.proofs.AnswerProofs.{answer}
use Rattle.pn_config.proofs.laws.answer_law.Goals as goal

pub returns : goal.returns
returns c = answer
