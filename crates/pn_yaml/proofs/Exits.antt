-- What functions that read answer.
use Rattle.std.proofs.Common.{◌≡◌, Result, Err, refl}
use Rattle.pn_yaml.specs.declared.fault.YamlFault.{YamlFault}
use Rattle.pn_yaml.specs.declared.fault.YamlFault.TheVariants as fault
use Rattle.pn_yaml.specs.Outcome.{Fails, Gives, ◌>>=◌}

pub fails_is : {Y : Type 0} (e : YamlFault) (outcome : Result Y YamlFault) → outcome ≡ Err e → Fails e outcome
fails_is fault.NotUtf8 outcome h = h
fails_is (fault.Line n w) outcome h = h
fails_is fault.TooDeep outcome h = h
fails_is fault.Memory outcome h = tt

-- a fault of a part is a fault of the whole, where faults are handed on
pub fails_on : {Y Z : Type 0} (e : YamlFault) (part : Result Y YamlFault) (whole : Result Z YamlFault) → ((d : YamlFault) → part ≡ Err d → whole ≡ Err d) → Fails e part → Fails e whole
fails_on fault.NotUtf8 part whole on h = on _ h
fails_on (fault.Line n w) part whole on h = on _ h
fails_on fault.TooDeep part whole on h = on _ h
fails_on fault.Memory part whole on h = tt

-- a fault at the first of two steps
pub fails_bind : {A B : Type 0} (e : YamlFault) (part : Result A YamlFault) (f : A → Result B YamlFault) → Fails e part → Fails e (part >>= f)
fails_bind e part f h = fails_on e part (part >>= f) (λ d is. rw is refl) h

-- the exit of a `?`, which answers the fault again
pub exit_gives : {X Y : Type 0} (view : X → Y) (e : YamlFault) (r : Result X YamlFault) (outcome : Result Y YamlFault) → (d : YamlFault) × (r ≡ Err d) × (d ≡ e) → Fails e outcome → Gives view r outcome
exit_gives view e r outcome p h = rw (p.1, p.2) h

pub same_outcome : {Y : Type 0} (e : YamlFault) (a b : Result Y YamlFault) → a ≡ b → Fails e b → Fails e a
same_outcome e a b is h = rw is h
