-- The steps that are left of a walk.
use Rattle.std.specs.Prelude.{◌≡◌, ℕ, List, [], ◌∷◌, Option, Some, None}
use Rattle.pn_node.specs.Find.{Step, up, into, before_steps}
use Rattle.pn_node.specs.declared.step.Step.{Step as TheStep}
use Rattle.pn_node.specs.declared.step.Step.TheVariants.{Up, Into}

abbrev pub step_of : TheStep → Step
step_of Up = up
step_of (Into name) = into name.text

-- these steps, the first one last, before others
abbrev pub steps_before : List TheStep → List Step → List Step
steps_before [] steps = steps
steps_before (x ∷ xs) steps = steps_before xs (step_of x ∷ steps)

-- steps, the first one last
abbrev pub steps_of : List TheStep → List Step
steps_of xs = steps_before xs []

abbrev pub step_before : Option TheStep → List Step → List Step
step_before None steps = steps
step_before (Some x) steps = step_of x ∷ steps

-- what a part of a text adds before other steps
abbrev pub IsStepOf : List ℕ → Option TheStep → Type 0
IsStepOf part step = (steps : List Step) → before_steps part steps ≡ step_before step steps
