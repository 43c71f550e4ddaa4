use Rattle.std.proofs.Common.{◌∙◌, ap, ◌++◌, ◌∷◌, append_assoc}
use Rattle.std.specs.Prelude.{codes}
use Rattle.pn_text.proofs.Joins.{joined}
use Rattle.pn_tree.proofs.texts.place_text.Goals as goal

pub returns : goal.returns
returns c = λ x q tail.
    joined _ c.stem.result.now c.args.tail.now c.args.folder.now (x ∷ q)
    (c.in_ok-push_str-2.ensures.bytes ∙ ap (λ t. t ++ c.args.tail.now) (c.in_ok-push_str.ensures.bytes ∙ ap (λ t. t ++ codes "/") c.in_ok-text.ensures.ok) ∙ append_assoc c.stem.result.now (codes "/") c.args.tail.now)
    c.stem.ensures.stem c.stem.ensures.good tail
