use Rattle.pn_replace.proofs.WritesLemmas.{touched_of, gave_of}
use Rattle.pn_replace.proofs.replacing.replace.Goals as goal

pub returns-in-Ok-clause-touched : goal.returns-in-Ok-clause-touched
returns-in-Ok-clause-touched g c = touched_of _ _ _ c.write_and_move.ensures.wrote

pub returns-in-Ok-clause-gave : goal.returns-in-Ok-clause-gave
returns-in-Ok-clause-gave g c = gave_of _ _ _ c.write_and_move.ensures.wrote

pub returns-in-Err-Failed-clause-touched : goal.returns-in-Err-Failed-clause-touched
returns-in-Err-Failed-clause-touched g c = touched_of _ _ _ c.write_and_move.ensures.wrote

pub returns-in-Err-Failed-clause-gave : goal.returns-in-Err-Failed-clause-gave
returns-in-Err-Failed-clause-gave g c = gave_of _ _ _ c.write_and_move.ensures.wrote

pub returns-in-Err-Memory-clause-touched : goal.returns-in-Err-Memory-clause-touched
returns-in-Err-Memory-clause-touched g c = touched_of _ _ _ c.write_and_move.ensures.wrote

pub returns-in-Err-Memory-clause-gave : goal.returns-in-Err-Memory-clause-gave
returns-in-Err-Memory-clause-gave g c = gave_of _ _ _ c.write_and_move.ensures.wrote
