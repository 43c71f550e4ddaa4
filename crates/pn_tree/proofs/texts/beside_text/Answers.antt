use Rattle.std.proofs.Common.{◌∷◌, [], refl}
use Rattle.pn_text.specs.Name.{modules}
use Rattle.pn_text.proofs.Results.{if_ok}
use Rattle.pn_tree.proofs.DrawLemmas.{spells_part}
use Rattle.pn_tree.proofs.texts.beside_text.Goals as goal

pub returns : goal.returns
returns c = if_ok c.below.result (λ t h. h (c.args.dir.now ∷ []) (modules ∷ []) (spells_part c.args.dir.now c.requires) (spells_part modules refl)) c.below.ensures
