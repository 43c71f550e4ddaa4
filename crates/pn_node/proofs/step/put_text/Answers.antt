use Rattle.std.proofs.Common.{rules, ◌∙◌}
use Rattle.pn_node.specs.Steps.{steps_of}
use Rattle.pn_node.proofs.StepTexts.{put_cut, put_last}
use Rattle.pn_text.proofs.Results.{on_ok}
use Rattle.pn_node.proofs.step.put_text.Goals as goal

pub parts-preserved : goal.parts-preserved
parts-preserved c = record {
  utf8 = Prim.search rules;
  left = put_cut c.parts.front.now c.in-Some.rest.now c.in-Some.part.now (steps_of c.parts.steps.items) _ c.in-Some.ensures.0 c.in-Some.ensures.1 c.in_ok-put_part.ensures ∙ c.parts.invariant.left;
}

pub returns : goal.returns
returns c = on_ok c.put_part-2.result (λ is. is ∙ put_last c.parts.front.now (steps_of c.parts.steps.items) c.in_default.ensures ∙ c.parts.invariant.left) c.put_part-2.ensures
