-- Keys that rise, and what holds of all of a list.
use Rattle.std.proofs.Common.{◌≡◌, ℕ, zero, suc, ◌<◌, true, false, cond, List, [], ◌∷◌, length, map, option_map, refl, sym, ap, ◌∙◌, inl, inr, arith}
use Rattle.std.specs.Prelude.{Some, bytes_eq}
use Rattle.std.specs.List.{AllByRecursion}
use Rattle.std.specs.List.Sorted.{IsStrictlySortedBy}
use Rattle.std.specs.Cmp.Lexicographic.{slice_cmp}
use Rattle.std.specs.Ordering.{nat_cmp}
use Rattle.std.specs.declared.cmp.Ordering.TheVariants.{Less}
use Rattle.std.proofs.lemmas.Bool.{cases_Bool}
use Rattle.std.proofs.lemmas.Cmp.{nat_list_cmp_total, tied_itself}
use Rattle.std.proofs.lemmas.Slice.Eq.{bytes_eq-Decides}
use Rattle.pn_lock.specs.Kept.{Rises}
use Rattle.pn_lock.specs.Locks.{key_at, place_of}

pub itself : (x : List ℕ) → bytes_eq x x ≡ true
itself x = (bytes_eq-Decides x x).1 refl

-- ---- a fact of all, from another one

pub all_from : {A : Type 0} {P Q : A → Type 0} (xs : List A) → ((x : A) → P x → Q x) → AllByRecursion P xs → AllByRecursion Q xs
all_from [] f h = tt
all_from (x ∷ xs) f h = (f x h.0, all_from xs f h.1)

pub all_any : {A : Type 0} (P : A → Type 0) → ((x : A) → P x) → (xs : List A) → AllByRecursion P xs
all_any P f [] = tt
all_any P f (x ∷ xs) = (f x, all_any P f xs)

pub all_map : {A B : Type 0} (P : B → Type 0) (f : A → B) (xs : List A) → AllByRecursion (λ x. P (f x)) xs → AllByRecursion P (map f xs)
all_map P f [] h = tt
all_map P f (x ∷ xs) h = (h.0, all_map P f xs h.1)

pub all_unmap : {A B : Type 0} (P : B → Type 0) (f : A → B) (xs : List A) → AllByRecursion P (map f xs) → AllByRecursion (λ x. P (f x)) xs
all_unmap P f [] h = tt
all_unmap P f (x ∷ xs) h = (h.0, all_unmap P f xs h.1)

pub all_both : {A : Type 0} (P Q : A → Type 0) (xs : List A) → AllByRecursion P xs → AllByRecursion Q xs → AllByRecursion (λ x. P x × Q x) xs
all_both P Q [] h k = tt
all_both P Q (x ∷ xs) h k = ((h.0, k.0), all_both P Q xs h.1 k.1)

pub key_all : (P : List ℕ → Type 0) (ks : List (List ℕ)) (n : ℕ) → n < length ks → AllByRecursion P ks → P (key_at ks n)
key_all P [] n l h = absurd (omega (arith, l))
key_all P (k ∷ ks) zero l h = h.0
key_all P (k ∷ ks) (suc n) l h = key_all P ks n (omega (arith, l)) h.1

pub map_same : {A : Type 0} (xs : List A) → map (λ x. x) xs ≡ xs
map_same [] = refl
map_same (x ∷ xs) = ap (λ ys. x ∷ ys) (map_same xs)

-- ---- keys that rise

pub less_other : (s k : List ℕ) → slice_cmp nat_cmp s k ≡ Less → bytes_eq s k ≡ false
less_other s k h = elim (cases_Bool (bytes_eq s k)) [
  | inl e ↦ absurd (cc (h, ap (slice_cmp nat_cmp s) (sym ((bytes_eq-Decides s k).0 e)), tied_itself nat_list_cmp_total s))
  | inr e ↦ e
]

above_at : (k : List ℕ) (ks : List (List ℕ)) (n : ℕ) → n < length ks → AllByRecursion (λ y. slice_cmp nat_cmp k y ≡ Less) ks → slice_cmp nat_cmp k (key_at ks n) ≡ Less
above_at k ks n l h = key_all (λ y. slice_cmp nat_cmp k y ≡ Less) ks n l h

-- a key of rising ones is found at its place
pub place_back : (ks : List (List ℕ)) (n : ℕ) → n < length ks → Rises ks → place_of (key_at ks n) ks ≡ Some n
unfolding IsStrictlySortedBy
place_back [] n l h = absurd (omega (arith, l))
place_back (k ∷ ks) zero l h = ap (λ o. cond o (Some 0) (option_map suc (place_of k ks))) (itself k)
place_back (k ∷ ks) (suc n) l h =
    ap (λ o. cond o (Some 0) (option_map suc (place_of (key_at ks n) ks))) (less_other k (key_at ks n) (above_at k ks n (omega (arith, l)) h.0))
    ∙ ap (option_map suc) (place_back ks n (omega (arith, l)) h.1)
