use Rattle.std.proofs.Common.{◌∙◌, [], ◌∷◌, refl}
use Rattle.pn_lock_make.proofs.RowLemmas.{two_belong}
use Rattle.pn_lock_make.proofs.tests.made.Goals as goal

pub make_single-requires : goal.make_single-requires
make_single-requires c =
    two_belong c.args.asked.now c.of-plain.result (c.of-integrity.result ∷ c.of-integrity.result ∷ []) c.requires (c.of-plain.ensures.projects ∙ c.in_ok-projects.ensures) (c.of-plain.ensures.packages ∙ c.in_ok-packages.ensures)
    refl
