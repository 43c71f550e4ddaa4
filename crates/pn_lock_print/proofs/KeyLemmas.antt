-- What is found at a place.
use Rattle.std.proofs.Common.{◌≡◌, ℕ, zero, suc, List, [], ◌∷◌, map, refl, ap, subst}
use Rattle.std.specs.Prelude.{Some, None, slice_get}
use Rattle.std.specs.List.{AllByRecursion}
use Rattle.pn_lock.specs.Locks.{key_at}

pub key_found : {A : Type 0} (f : A → List ℕ) (xs : List A) (n : ℕ) (x : A) → slice_get xs n ≡ Some x → key_at (map f xs) n ≡ f x
key_found f [] n x h = cc
key_found f (y ∷ xs) zero x h = let e : y ≡ x = cc in ap f e
key_found f (y ∷ xs) (suc n) x h = key_found f xs n x h

pub key_lost : {A : Type 0} (f : A → List ℕ) (xs : List A) (n : ℕ) → slice_get xs n ≡ None → key_at (map f xs) n ≡ []
key_lost f [] n h = refl
key_lost f (y ∷ xs) zero h = cc
key_lost f (y ∷ xs) (suc n) h = key_lost f xs n h

pub all_found : {A : Type 0} (P : A → Type 0) (xs : List A) (n : ℕ) (x : A) → AllByRecursion P xs → slice_get xs n ≡ Some x → P x
all_found P [] n x h e = cc
all_found P (y ∷ xs) zero x h e = let s : y ≡ x = cc in subst P s h.0
all_found P (y ∷ xs) (suc n) x h e = all_found P xs n x h.1 e
