-- What reading gives: a value, or the first fault.
use Rattle.std.specs.Prelude.{◌≡◌, ℕ, Result, Ok, Err}
use Rattle.pn_yaml.specs.declared.fault.Why.{Why}
use Rattle.pn_yaml.specs.declared.fault.YamlFault.{YamlFault}
use Rattle.pn_yaml.specs.declared.fault.YamlFault.TheVariants as fault

abbrev pub Outcome : Type 0 → Type 0
Outcome A = Result A YamlFault

infixl 10 ◌>>=◌
abbrev pub ◌>>=◌ : {A B : Type 0} → Result A YamlFault → (A → Result B YamlFault) → Result B YamlFault
(Ok x) >>= f = f x
(Err e) >>= f = Err e

abbrev pub wrong : {A : Type 0} → ℕ → Why → Result A YamlFault
wrong line why = Err (fault.Line line why)

abbrev pub Fails : {Y : Type 0} → YamlFault → Result Y YamlFault → Type 0
Fails fault.Memory outcome = Unit {0}
Fails e outcome = outcome ≡ Err e

-- What a function answered, seen by `view`, is what reading gives, memory aside.
abbrev pub Gives : {X Y : Type 0} → (X → Y) → Result X YamlFault → Result Y YamlFault → Type 0
Gives view (Ok x) outcome = outcome ≡ Ok (view x)
Gives view (Err e) outcome = Fails e outcome
