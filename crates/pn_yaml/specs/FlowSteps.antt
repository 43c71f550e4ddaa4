-- What comes next in a flow.
use Rattle.std.specs.Prelude.{ℕ, Bool, true, false, List, Result, Ok, if◌then◌else◌}
use Rattle.pn_yaml.specs.declared.fault.Why.TheVariants as why
use Rattle.pn_yaml.specs.declared.fault.YamlFault.{YamlFault}
use Rattle.pn_yaml.specs.declared.flow.Step.{Step}
use Rattle.pn_yaml.specs.declared.flow.Step.TheVariants as steps
use Rattle.pn_yaml.specs.declared.scalar.Place.TheVariants as place
use Rattle.pn_yaml.specs.Bytes.{starts, tail_of, unindented, is_bare}
use Rattle.pn_yaml.specs.Data.{Data, scalar}
use Rattle.pn_yaml.specs.Outcome.{◌>>=◌, wrong}
use Rattle.pn_yaml.specs.Scalars.{word_at}

-- whether a flow is closed, and what is behind that or how it goes on
abbrev pub step_of : Step → Bool × List ℕ
step_of (steps.Closed rest) = (true, rest.now)
step_of (steps.Open rest) = (false, rest.now)

-- where an item or a key must come, or the byte that closes the flow
abbrev pub before_step : ℕ → ℕ → List ℕ → Result (Bool × List ℕ) YamlFault
before_step line close text = if is_bare text then wrong line why.Flow
    else if starts close (unindented text) then Ok (true, tail_of (unindented text))
    else Ok (false, unindented text)

-- behind an item or a value: a comma, or the byte that closes the flow
abbrev pub behind_step : ℕ → ℕ → List ℕ → Result (Bool × List ℕ) YamlFault
behind_step line close text = if starts 44 (unindented text) then Ok (false, tail_of (unindented text))
    else if starts close (unindented text) then Ok (true, tail_of (unindented text))
    else wrong line why.Flow

-- a scalar in a flow
abbrev pub flow_scalar : ℕ → List ℕ → Result (Data × List ℕ) YamlFault
flow_scalar line text = word_at place.Flow line text >>= λ w. Ok (scalar w.0.text w.0.plain, w.1)
