-- What comes next in a flow, as the code has it.
use Rattle.std.proofs.Common.{◌≡◌, ℕ, List, Bool, true, false, Result, Ok, ap, ◌∙◌, Bor}
use Rattle.pn_yaml.specs.declared.fault.YamlFault.{YamlFault}
use Rattle.pn_yaml.specs.declared.flow.Step.{Step}
use Rattle.pn_yaml.specs.declared.flow.Step.TheVariants as steps
use Rattle.pn_yaml.specs.FlowSteps.{step_of}

abbrev told : Step → Result (Bool × List ℕ) YamlFault
told s = Ok (step_of s)

pub open_step : (r : Result (Bool × List ℕ) YamlFault) (s : Step) (rest : Bor (List ℕ)) → r ≡ Ok (step_of s) → s ≡ steps.Open rest → r ≡ Ok (false, rest.now)
open_step r s rest e f = e ∙ ap told f

pub closed_step : (r : Result (Bool × List ℕ) YamlFault) (s : Step) (rest : Bor (List ℕ)) → r ≡ Ok (step_of s) → s ≡ steps.Closed rest → r ≡ Ok (true, rest.now)
closed_step r s rest e f = e ∙ ap told f
