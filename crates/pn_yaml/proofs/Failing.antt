-- Faults that are passed on.
use Rattle.std.proofs.Common.{◌≡◌, Result, Err}
use Rattle.pn_yaml.specs.declared.fault.YamlFault.{YamlFault}
use Rattle.pn_yaml.specs.declared.fault.YamlFault.TheVariants as fault
use Rattle.pn_yaml.specs.Outcome.{Fails}

-- the whole fails as a part of it does
pub fails_as : {Y Z : Type 0} (e : YamlFault) (part : Result Y YamlFault) (whole : Result Z YamlFault) → (part ≡ Err e → whole ≡ Err e) → Fails e part → Fails e whole
fails_as fault.NotUtf8 part whole f h = f h
fails_as (fault.Line line why) part whole f h = f h
fails_as fault.TooDeep part whole f h = f h
fails_as fault.Memory part whole f h = tt
