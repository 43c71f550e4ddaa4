-- What holds of all of a list, of some of it, and keys that are in none.
use Rattle.std.proofs.Common.{◌≡◌, ◌<◌, ℕ, Bool, true, false, cond, List, [], ◌∷◌, ◌++◌, length, map, get_or, refl, sym, ap, ◌∙◌, nat_cmp}
use Rattle.std.specs.Prelude.{◌||◌, bytes_eq, slice_get}
use Rattle.std.specs.Cmp.Lexicographic.{slice_cmp}
use Rattle.std.specs.List.{AllByRecursion, filter}
use Rattle.std.specs.List.Sorted.{IsStrictlySortedBy}
use Rattle.std.specs.declared.cmp.Ordering.TheVariants.{Less}
use Rattle.std.proofs.lemmas.Option.{slice_get-get_or}
use Rattle.pn_text.proofs.Bools.{left_false, right_false}
use Rattle.pn_lock.specs.declared.lists.LockSnapshot.{LockSnapshot}
use Rattle.pn_lock.specs.Kept.{Rises, is_in}
use Rattle.pn_lock_prod.specs.Targets.{or_none, snapshot_targets}

pub weaker : {A : Type 0} (P Q : A → Type 0) (xs : List A) → ((x : A) → P x → Q x) → AllByRecursion P xs → AllByRecursion Q xs
weaker P Q [] f h = tt
weaker P Q (x ∷ xs) f h = (f x h.0, weaker P Q xs f h.1)

-- ---- some of a list

pub some_all : {A : Type 0} (P : A → Type 0) (p : A → Bool) (xs : List A) → AllByRecursion P xs → AllByRecursion P (filter p xs)
some_all P p [] h = tt
some_all P p (x ∷ xs) h = elim (p x) as (λ o. AllByRecursion P (cond o (x ∷ filter p xs) (filter p xs))) [
  | true ↦ (h.0, some_all P p xs h.1)
  | false ↦ some_all P p xs h.1
]

some_keys : {A : Type 0} (key : A → List ℕ) (P : List ℕ → Type 0) (p : A → Bool) (xs : List A) → AllByRecursion P (map key xs) → AllByRecursion P (map key (filter p xs))
some_keys key P p [] h = tt
some_keys key P p (x ∷ xs) h = elim (p x) as (λ o. AllByRecursion P (map key (cond o (x ∷ filter p xs) (filter p xs)))) [
  | true ↦ (h.0, some_keys key P p xs h.1)
  | false ↦ some_keys key P p xs h.1
]

pub some_rise : {A : Type 0} (key : A → List ℕ) (p : A → Bool) (xs : List A) → Rises (map key xs) → Rises (map key (filter p xs))
unfolding IsStrictlySortedBy
some_rise key p [] h = tt
some_rise key p (x ∷ xs) h = elim (p x) as (λ o. IsStrictlySortedBy (slice_cmp nat_cmp) (map key (cond o (x ∷ filter p xs) (filter p xs)))) [
  | true ↦ (some_keys key (λ y. slice_cmp nat_cmp (key x) y ≡ Less) p xs h.0, some_rise key p xs h.1)
  | false ↦ some_rise key p xs h.1
]

-- ---- keys that are in none

pub in_none : (k : List ℕ) (ks : List (List ℕ)) → is_in ks k ≡ false → AllByRecursion (λ (x : List ℕ). bytes_eq x k ≡ false) ks
in_none k [] h = tt
in_none k (x ∷ ks) h = (left_false (bytes_eq x k) (is_in ks k) h, in_none k ks (right_false (bytes_eq x k) (is_in ks k) h))

pub none_in : (k : List ℕ) (ks : List (List ℕ)) → AllByRecursion (λ (x : List ℕ). bytes_eq x k ≡ false) ks → is_in ks k ≡ false
none_in k [] h = refl
none_in k (x ∷ ks) h = ap (λ o. o || is_in ks k) h.0 ∙ none_in k ks h.1

front_all : (P : List ℕ → Type 0) (xs ys : List (List ℕ)) → AllByRecursion P (xs ++ ys) → AllByRecursion P (xs ++ [])
front_all P [] ys h = tt
front_all P (x ∷ xs) ys h = (h.0, front_all P xs ys h.1)

pub not_in_front : (k : List ℕ) (xs ys : List (List ℕ)) → is_in (xs ++ ys) k ≡ false → is_in (xs ++ []) k ≡ false
not_in_front k xs ys h = none_in k (xs ++ []) (front_all (λ x. bytes_eq x k ≡ false) xs ys (in_none k (xs ++ ys) h))

-- ---- a snapshot at its place

pub row_there : (snapshots : List LockSnapshot) (i : ℕ) (s : LockSnapshot) → i < length snapshots → s ≡ get_or snapshots i s → or_none (slice_get snapshots i) ≡ snapshot_targets s
row_there snapshots i s low is = ap or_none (slice_get-get_or snapshots i s low) ∙ ap snapshot_targets (sym is)
