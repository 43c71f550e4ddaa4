use Rattle.std.proofs.Common.{◌∙◌}
use Rattle.pn_text.proofs.Relatives.{steps_none}
use Rattle.pn_lock_shape.proofs.FolderLemmas.{steps_one}
use Rattle.pn_lock_shape.proofs.link.behind_slash.Goals as goal

pub returns-in-None : goal.returns-in-None
unfolding lib.Utf8.encode
returns-in-None c = λ p e. steps_one p _ (steps_none p (λ rest b. c.in-None.ensures.cases rest (e ∙ b)))
