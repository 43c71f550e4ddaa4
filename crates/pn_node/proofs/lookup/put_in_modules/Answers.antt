use Rattle.std.proofs.Common.{◌∷◌, ap, ◌∙◌}
use Rattle.pn_text.specs.Name.{modules}
use Rattle.pn_node.specs.Find.{into}
use Rattle.pn_node.specs.Steps.{steps_of}
use Rattle.pn_text.proofs.Results.{on_ok}
use Rattle.pn_node.proofs.Ups.{rel_steps}
use Rattle.pn_node.proofs.lookup.put_in_modules.Goals as goal

pub returns-clause-steps : goal.returns-clause-steps
returns-clause-steps c =
    on_ok c.put-2.result
    (λ is. is ∙ ap (λ s. into modules ∷ s) (c.in_ok-put.ensures.steps ∙ rel_steps c.as_str.result.now c.args.name.now (steps_of c.args.walk.now.steps.items) c.as_str.ensures.text))
    c.put-2.ensures.steps
