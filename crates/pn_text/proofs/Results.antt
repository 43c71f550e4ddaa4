-- Lemmas on what holds of a result's value, and on optional values.
use Rattle.std.proofs.Common.{◌≡◌, refl, subst, Ok, Err, Some, None}
use Rattle.std.specs.Prelude.{Result, Option, IfOk, IfErr, OnOk, OnErr, IfSome}
use Rattle.std.specs.Option.{ForSome}

pub if_ok : {T E : Type 0} {P Q : T → Type 0} (r : Result T E) → ((v : T) → P v → Q v) → IfOk r P → IfOk r Q
if_ok (Ok v) f h = f v h
if_ok (Err e) f h = tt

pub if_err : {T E : Type 0} {P Q : E → Type 0} (r : Result T E) → ((e : E) → P e → Q e) → IfErr r P → IfErr r Q
if_err (Ok v) f h = tt
if_err (Err e) f h = f e h

pub any_ok : {T E P : Type 0} (r : Result T E) → P → OnOk r P
any_ok (Ok v) h = h
any_ok (Err e) h = tt

pub on_ok : {T E P Q : Type 0} (r : Result T E) → (P → Q) → OnOk r P → OnOk r Q
on_ok (Ok v) f h = f h
on_ok (Err e) f h = tt

pub on_err : {T E P Q : Type 0} (r : Result T E) → (P → Q) → OnErr r P → OnErr r Q
on_err (Ok v) f h = tt
on_err (Err e) f h = f h

pub any_err : {T E P : Type 0} (r : Result T E) → P → OnErr r P
any_err (Ok v) h = tt
any_err (Err e) h = h

pub for_some : {T : Type 0} (P : T → Type 0) (o : Option T) → IfSome o P → ForSome o P
for_some P None h t e = cc
for_some P (Some u) h t e = let one : u ≡ t = cc in subst P one h

pub if_some : {T : Type 0} (P : T → Type 0) (o : Option T) → ForSome o P → IfSome o P
if_some P None h = tt
if_some P (Some u) h = h u refl

pub same_some : {T : Type 0} (x y : T) → Some x ≡ Some y → x ≡ y
same_some x y e = cc
