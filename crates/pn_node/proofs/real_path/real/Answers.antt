use Rattle.std.proofs.Common.{◌≡◌, [], ap, ◌∙◌}
use Rattle.pn_text.specs.Path.{tail_of}
use Rattle.pn_node.specs.Find.{walk, real, text_steps}
use Rattle.pn_node.specs.Steps.{steps_of}
use Rattle.pn_node.proofs.Ups.{abs_steps, real_found, if_found}
use Rattle.pn_node.proofs.real_path.real.Goals as goal

pub returns-clause-real : goal.returns-clause-real
returns-clause-real g c =
    if_found (λ t found. found ≡ walk 40 t c.put.new.self.at (steps_of c.put.new.self.steps.items)) (λ t found. found ≡ real t c.args.path.now) (g.R.ReadFs.seen c.args.fs.now).tree c.finish.result
    (λ t found is.
    real_found t c.args.path.now c.put.new.self.at (steps_of c.put.new.self.steps.items) found (c.in_ok-put.ensures.at ∙ c.new-walk.ensures.at ∙ c.in_ok-root.ensures)
    (c.in_ok-put.ensures.steps ∙ ap (λ xs. text_steps (tail_of c.as_str.result.now) (steps_of xs)) c.new-walk.ensures.steps ∙ abs_steps c.as_str.result.now c.args.path.now [] c.as_str.ensures.text) is)
    c.finish.ensures.found
