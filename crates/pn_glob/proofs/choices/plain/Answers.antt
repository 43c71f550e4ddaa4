use Rattle.std.proofs.Common.{◌++◌, ℕ, List, Vec, Global, ap, ◌∙◌}
use Rattle.pn_glob.specs.Grammar.{each_with}
use Rattle.pn_glob.proofs.Braces.{items_of, plain-grown}
use Rattle.pn_glob.proofs.choices.plain.Goals as goal

pub returns-clause-ok : goal.returns-clause-ok
returns-clause-ok c = plain-grown (items_of c.args.texts.items) c.args.text.now (items_of c.move_each.new.grown.items) c.behind_plain-rest.result.now c.split_at.result.0.now
    c.requires c.behind_plain-rest.ensures c.split_at.ensures.front
    (c.in_ok-move_each.ensures.ok ∙ ap (λ (y : List (Vec ℕ Global)). items_of y ++ each_with (items_of c.args.texts.items) c.split_at.result.0.now) c.new-grown.ensures.items)
