-- The refusals.
use Rattle.std.specs.Prelude.{◌≡◌, ℕ, List}
use Rattle.pn_config.specs.declared.fault.ConfigFault.{ConfigFault}
use Rattle.pn_config.specs.declared.fault.ConfigFault.TheVariants as fault
use Rattle.pn_config.specs.declared.fault.Stop.{Stop}
use Rattle.pn_config.specs.declared.fault.Stop.TheVariants as stop

-- a value is refused for this cause, memory aside
abbrev pub Stops : Type 0 → Stop → Type 0
Stops Cause stop.Bad = Cause
Stops Cause stop.Memory = Unit {0}

-- the key that is named is bad, memory aside
abbrev pub Refuses : (List ℕ → Type 0) → ConfigFault → Type 0
Refuses Cause (fault.BadKey k) = Cause k
Refuses Cause fault.Memory = Unit {0}

-- the refusal for a key that was stopped at
abbrev pub IsFaultAt : List ℕ → Stop → ConfigFault → Type 0
IsFaultAt k stop.Bad (fault.BadKey l) = l ≡ k
IsFaultAt k stop.Memory (fault.BadKey l) = ⊥
IsFaultAt k s fault.Memory = Unit {0}
