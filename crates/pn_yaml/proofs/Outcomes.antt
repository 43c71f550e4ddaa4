-- What holds of an outcome, by the steps that it is made of.
use Rattle.std.proofs.Common.{◌≡◌, Bool, true, false, Result, Ok, Err, IfOk, refl, ap, subst}
use Rattle.std.specs.Prelude.{if◌then◌else◌}
use Rattle.pn_yaml.specs.declared.fault.YamlFault.{YamlFault}
use Rattle.pn_yaml.specs.Outcome.{◌>>=◌}

pub ok_bind : {A B : Type 0} (P : A → Type 0) (Q : B → Type 0) (r : Result A YamlFault) (f : A → Result B YamlFault)
    → IfOk r P → ((x : A) → P x → IfOk (f x) Q) → IfOk (r >>= f) Q
ok_bind P Q (Ok x) f h g = g x h
ok_bind P Q (Err e) f h g = tt

pub ok_if : {B : Type 0} (Q : B → Type 0) (b : Bool) (x y : Result B YamlFault) → IfOk x Q → (b ≡ false → IfOk y Q) → IfOk (if b then x else y) Q
ok_if Q true x y h g = h
ok_if Q false x y h g = g refl

pub ok_at : {A : Type 0} (P : A → Type 0) (r : Result A YamlFault) (x : A) → IfOk r P → r ≡ Ok x → P x
ok_at P (Ok y) x h e = subst P (cc e) h
ok_at P (Err f) x h e = cc e

pub bind_ok : {A B : Type 0} (r : Result A YamlFault) (x : A) (f : A → Result B YamlFault) → r ≡ Ok x → (r >>= f) ≡ f x
bind_ok r x f h = ap (λ z. z >>= f) h

pub any-ok : {A : Type 0} (r : Result A YamlFault) → IfOk r (λ _. Unit {0})
any-ok (Ok x) = tt
any-ok (Err e) = tt
