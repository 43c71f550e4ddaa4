-- Lists whose targets are looked up one after the other.
use Rattle.std.proofs.Common.{◌≡◌, ℕ, List, [], ◌∷◌, ◌++◌, map, refl, sym, ap, ◌∙◌, subst, Ok, Err}
use Rattle.std.specs.List.{AllByRecursion}
use Rattle.pn_lock_read.specs.Settling.{Settled, ◌then◌, all_of, then_on}

-- what was looked up before the rest
abbrev pub and_more : {A : Type 0} → List A → Settled (List A) → Settled (List A)
and_more xs (Ok ys) = Ok (xs ++ ys)
and_more xs (Err e) = Err e

-- ---- what all of a list come to

pub settled_ok : {A : Type 0} (a x : A) (r : Settled A) → r ≡ Ok a → r ≡ Ok x → a ≡ x
settled_ok a x r h g = cc (h, g)

pub then_settled : {A B : Type 0} (r : Settled A) (f : A → Settled B) (x : B) → (r then f) ≡ Ok x → (a : A) × (r ≡ Ok a) × (f a ≡ Ok x)
then_settled (Ok a) f x h = (a, refl, h)
then_settled (Err e) f x h = absurd (cc h)

pub on_settled : {A : Type 0} (x : A) (r : Settled (List A)) (xs : List A) → then_on x r ≡ Ok xs → (ys : List A) × (r ≡ Ok ys) × (x ∷ ys ≡ xs)
on_settled x (Ok ys) xs h = (ys, refl, settled_ok (x ∷ ys) xs (Ok (x ∷ ys)) refl h)
on_settled x (Err e) xs h = absurd (cc h)

pub all_keys : {A B : Type 0} (f : A → Settled B) (key : A → List ℕ) (own : B → List ℕ) → ((x : A) (y : B) → f x ≡ Ok y → own y ≡ key x) → (xs : List A) (ys : List B) → all_of f xs ≡ Ok ys → map own ys ≡ map key xs
all_keys f key own k [] ys h = ap (map own) (sym (settled_ok [] ys (Ok []) refl h))
all_keys f key own k (x ∷ xs) ys h =
    let one = then_settled (f x) (λ y. then_on y (all_of f xs)) ys h in
    let more = on_settled one.0 (all_of f xs) ys one.2 in
    ap (map own) (sym more.2) ∙ ap (λ z. z ∷ map own more.0) (k x one.0 one.1) ∙ ap (λ zs. key x ∷ zs) (all_keys f key own k xs more.0 more.1)

pub all_made : {A B : Type 0} (f : A → Settled B) (Q : A → Type 0) (P : B → Type 0) → ((x : A) (y : B) → Q x → f x ≡ Ok y → P y) → (xs : List A) (ys : List B) → AllByRecursion Q xs → all_of f xs ≡ Ok ys → AllByRecursion P ys
all_made f Q P k [] ys q h = subst (AllByRecursion P) (settled_ok [] ys (Ok []) refl h) tt
all_made f Q P k (x ∷ xs) ys q h =
    let one = then_settled (f x) (λ y. then_on y (all_of f xs)) ys h in
    let more = on_settled one.0 (all_of f xs) ys one.2 in
    subst (AllByRecursion P) more.2 (k x one.0 q.0 one.1, all_made f Q P k xs more.0 q.1 more.1)
