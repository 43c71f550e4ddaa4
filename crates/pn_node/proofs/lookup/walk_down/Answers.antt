use Rattle.std.proofs.Common.{[], ◌∷◌, ap, ◌∙◌}
use Rattle.pn_text.specs.Name.{modules}
use Rattle.pn_text.specs.Path.{tail_of}
use Rattle.pn_node.specs.Find.{into, path_steps, text_steps}
use Rattle.pn_node.specs.Steps.{steps_of}
use Rattle.pn_node.proofs.Ups.{abs_steps}
use Rattle.pn_node.proofs.lookup.walk_down.Goals as goal

pub returns-clause-steps : goal.returns-clause-steps
returns-clause-steps c =
    c.in_ok-put.ensures.steps
    ∙ ap (text_steps (tail_of c.as_str.result.now)) (c.in_ok-put_in_modules.ensures.steps ∙ ap (λ xs. into modules ∷ path_steps c.args.name.now (steps_of xs)) c.new-walk.ensures.steps)
    ∙ abs_steps c.as_str.result.now c.args.folder.now (into modules ∷ path_steps c.args.name.now []) c.as_str.ensures.text
