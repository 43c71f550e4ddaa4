-- What holds of all of a list, and keys that are in none.
use Rattle.std.proofs.Common.{◌≡◌, ℕ, zero, suc, Bool, true, false, List, [], ◌∷◌, ◌++◌, Some, refl, ap, ◌∙◌, subst}
use Rattle.std.specs.Prelude.{◌||◌, bytes_eq, slice_get}
use Rattle.std.specs.List.{AllByRecursion, list_all}
use Rattle.pn_text.proofs.Bools.{and_left, and_right, left_false, right_false}
use Rattle.pn_lock.specs.Kept.{is_in}

pub weaker : {A : Type 0} (P Q : A → Type 0) (xs : List A) → ((x : A) → P x → Q x) → AllByRecursion P xs → AllByRecursion Q xs
weaker P Q [] f h = tt
weaker P Q (x ∷ xs) f h = (f x h.0, weaker P Q xs f h.1)

pub both_weaker : {A : Type 0} (P Q R : A → Type 0) (xs : List A) → ((x : A) → P x → Q x → R x) → AllByRecursion P xs → AllByRecursion Q xs → AllByRecursion R xs
both_weaker P Q R [] f h k = tt
both_weaker P Q R (x ∷ xs) f h k = (f x h.0 k.0, both_weaker P Q R xs f h.1 k.1)

pub split_left : {A : Type 0} (P : A → Type 0) (xs ys : List A) → AllByRecursion P (xs ++ ys) → AllByRecursion P xs
split_left P [] ys h = tt
split_left P (x ∷ xs) ys h = (h.0, split_left P xs ys h.1)

pub split_right : {A : Type 0} (P : A → Type 0) (xs ys : List A) → AllByRecursion P (xs ++ ys) → AllByRecursion P ys
split_right P [] ys h = h
split_right P (x ∷ xs) ys h = split_right P xs ys h.1

pub joined : {A : Type 0} (P : A → Type 0) (xs ys : List A) → AllByRecursion P xs → AllByRecursion P ys → AllByRecursion P (xs ++ ys)
joined P [] ys h k = k
joined P (x ∷ xs) ys h k = (h.0, joined P xs ys h.1 k)

pub tested : {A : Type 0} (p : A → Bool) (xs : List A) → list_all p xs ≡ true → AllByRecursion (λ x. p x ≡ true) xs
tested p [] h = tt
tested p (x ∷ xs) h = (and_left (p x) (list_all p xs) h, tested p xs (and_right (p x) (list_all p xs) h))

-- ---- keys that are in none

pub in_none : (k : List ℕ) (ks : List (List ℕ)) → is_in ks k ≡ false → AllByRecursion (λ (x : List ℕ). bytes_eq x k ≡ false) ks
in_none k [] h = tt
in_none k (x ∷ ks) h = (left_false (bytes_eq x k) (is_in ks k) h, in_none k ks (right_false (bytes_eq x k) (is_in ks k) h))

pub none_in : (k : List ℕ) (ks : List (List ℕ)) → AllByRecursion (λ (x : List ℕ). bytes_eq x k ≡ false) ks → is_in ks k ≡ false
none_in k [] h = refl
none_in k (x ∷ ks) h = ap (λ o. o || is_in ks k) h.0 ∙ none_in k ks h.1

-- ---- the item at a place

pub at_place : {A : Type 0} (P : A → Type 0) (xs : List A) (n : ℕ) (x : A) → AllByRecursion P xs → slice_get xs n ≡ Some x → P x
at_place P [] n x h e = absurd (cc e)
at_place P (y ∷ xs) zero x h e = let same : y ≡ x = cc in subst P same h.0
at_place P (y ∷ xs) (suc n) x h e = at_place P xs n x h.1 e
