use Rattle.std.proofs.Common.{◌∙◌, ap, ◌++◌, ◌∷◌, append_assoc}
use Rattle.std.specs.Prelude.{codes}
use Rattle.pn_tree.proofs.DrawLemmas.{spells_same, spells_below}
use Rattle.pn_tree.proofs.texts.below.Goals as goal

pub returns : goal.returns
returns c = λ p q front tail.
    spells_same _ (c.args.front.now ++ 47 ∷ c.args.tail.now) (q ++ p)
    (c.in_ok-push_str-2.ensures.bytes ∙ ap (λ t. t ++ c.args.tail.now) (c.in_ok-push_str.ensures.bytes ∙ ap (λ t. t ++ codes "/") c.in_ok-text.ensures.ok) ∙ append_assoc c.args.front.now (codes "/") c.args.tail.now)
    (spells_below c.args.front.now c.args.tail.now p q front tail)
