use Rattle.std.proofs.Common.{◌≡◌, length}
use denote.Text.{Utf8}
use denote.Shadow.{shadow}
use Rattle.pn_text.specs.Path.{tail_of}
use Rattle.pn_node.specs.Find.{text_steps}
use Rattle.pn_node.specs.Steps.{steps_of}
use Rattle.pn_node.proofs.step.put_text.Given as goal

abbrev pub invariant-parts : goal.invariant-parts
invariant-parts l = record {
  utf8 : shadow (Utf8 l.front);
  left : text_steps (tail_of l.front) (steps_of l.steps.items) ≡ text_steps (tail_of l.text) (steps_of l.fn.steps.items);
}

abbrev pub decreases-parts : goal.decreases-parts
decreases-parts l = length l.front
