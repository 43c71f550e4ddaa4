-- The place of a key in a list in byte order of keys.
use Rattle.std.proofs.Common.{◌≡◌, ℕ, zero, suc, ◌+◌, ◌<◌, ◌≤◌, true, false, cond, List, [], ◌∷◌, ◌++◌, length, get_or, map, option_map, Some, None, Ok, Err, refl, sym, ap, ◌∙◌, subst, inl, inr, arith}
use Rattle.std.specs.Prelude.{◌⊎◌, ◌||◌, Option, is_some}
use Rattle.std.specs.List.Sorted.{IsBinarySearchResult, IsNonDecreasingBy, IsSortedBy, IsStrictlySortedBy}
use Rattle.std.specs.Cmp.Lexicographic.{slice_cmp}
use Rattle.std.specs.Ordering.{is_lt, nat_cmp, ordering_index, ordering_reverse}
use Rattle.std.specs.declared.cmp.Ordering.{Ordering}
use Rattle.std.specs.declared.cmp.Ordering.TheVariants.{Less, Equal, Greater}
use Rattle.std.specs.Str.{bytes_eq}
use Rattle.std.proofs.lemmas.Bool.{cases_Bool}
use Rattle.std.proofs.lemmas.Cmp.{nat_list_cmp_total, tied_itself}
use Rattle.std.proofs.lemmas.List.{length-map}
use Rattle.std.proofs.lemmas.List.Folds.{list_any-append}
use Rattle.std.proofs.lemmas.List.Sorted.{searchable_from_sorted}
use Rattle.std.proofs.lemmas.Map.Lookups.{exact_bytes}
use Rattle.std.proofs.lemmas.Slice.Eq.{bytes_eq-Decides}
use Rattle.pn_lock.specs.Kept.{Rises, is_in}
use Rattle.pn_lock.specs.Locks.{key_at, place_of}
use Rattle.pn_lock.proofs.KeptLemmas.{place_back}

pub rises_none : Rises []
unfolding IsStrictlySortedBy
rises_none = tt

-- what rises is sorted
pub rises_sorted : {A : Type 0} (key : A → List ℕ) (xs : List A) → Rises (map key xs) → IsSortedBy (λ a b. is_lt (slice_cmp nat_cmp (key a) (key b))) xs
unfolding IsStrictlySortedBy
rises_sorted key [] r k d low high = absurd (omega (arith, high))
rises_sorted key (x ∷ []) r k d low high = absurd (omega (arith, high))
rises_sorted key (x ∷ y ∷ xs) r zero d low high = ap is_lt (nat_list_cmp_total.antisymm (key y) (key x) ∙ ap ordering_reverse r.0.0)
rises_sorted key (x ∷ y ∷ xs) r (suc k) d low high =
    subst (λ j. is_lt (slice_cmp nat_cmp (key (get_or (x ∷ y ∷ xs) j d)) (key (get_or (y ∷ xs) k d))) ≡ false) (next k) (rises_sorted key (y ∷ xs) r.1 k d (omega arith) (omega (arith, high))) where
      next : (k : ℕ) → suc (k + 1) ≡ suc k + 1
      next k = omega arith

no_place : {A : Type 0} (key : A → List ℕ) (k : List ℕ) (xs : List A) → ((n : ℕ) (d : A) → n < length xs → bytes_eq (key (get_or xs n d)) k ≡ false) → place_of k (map key xs) ≡ None
no_place key k [] h = refl
no_place key k (x ∷ xs) h =
    ap (λ o. cond o (Some 0) (option_map suc (place_of k (map key xs)))) (h 0 x (omega arith)) ∙ ap (option_map suc) (no_place key k xs (λ n d l. h (suc n) d (omega (arith, l))))

not_equal : (s k : List ℕ) (o : Ordering) → slice_cmp nat_cmp s k ≡ o → (o ≡ Equal → ⊥) → bytes_eq s k ≡ false
not_equal s k o e n = elim (cases_Bool (bytes_eq s k)) [
  | inl b ↦ absurd (n (sym e ∙ ap (λ z. slice_cmp nat_cmp z k) ((bytes_eq-Decides s k).0 b) ∙ tied_itself nat_list_cmp_total k))
  | inr b ↦ b
]

less_no : Less ≡ Equal → ⊥
less_no h = cc h

greater_no : Greater ≡ Equal → ⊥
greater_no h = cc h

searchable : {A : Type 0} (key : A → List ℕ) (k : List ℕ) (xs : List A) → Rises (map key xs) → IsNonDecreasingBy (λ y. ordering_index (slice_cmp nat_cmp (key y) k)) xs
searchable key k xs r = searchable_from_sorted nat_list_cmp_total key xs k (rises_sorted key xs r)

at_equal : {A : Type 0} (key : A → List ℕ) (k : List ℕ) (xs : List A) (i : ℕ) → i < length xs → ((d : A) → slice_cmp nat_cmp (key (get_or xs i d)) k ≡ Equal) → key_at (map key xs) i ≡ k
at_equal key k [] i l h = absurd (omega (arith, l))
at_equal key k (x ∷ xs) zero l h = exact_bytes (key x) k (h x)
at_equal key k (x ∷ xs) (suc i) l h = at_equal key k xs i (omega (arith, l)) h

-- what a search finds
pub found_at : {A : Type 0} (key : A → List ℕ) (k : List ℕ) (xs : List A) (i : ℕ) → Rises (map key xs) → i < length xs → IsBinarySearchResult (λ y. slice_cmp nat_cmp (key y) k) xs (Ok i) → Some i ≡ place_of k (map key xs)
found_at key k xs i r l h =
    sym (ap (λ z. place_of z (map key xs)) (sym (at_equal key k xs i l h)) ∙ place_back (map key xs) i (subst (λ n. i < n) (sym (length-map xs key)) l) r)

parted : (n i : ℕ) → (n < i) ⊎ (i ≤ n)
parted n zero = inr (omega arith)
parted zero (suc i) = inl (omega arith)
parted (suc n) (suc i) = elim (parted n i) [ inl l ↦ inl (omega (arith, l)) | inr l ↦ inr (omega (arith, l)) ]

pub found_none : {A : Type 0} (key : A → List ℕ) (k : List ℕ) (xs : List A) (i : ℕ) → Rises (map key xs) → IsBinarySearchResult (λ y. slice_cmp nat_cmp (key y) k) xs (Err i) → None ≡ place_of k (map key xs)
found_none key k xs i r h =
    let p = h (searchable key k xs r) in
    sym (no_place key k xs (λ n d l. elim (parted n i) [
      | inl b ↦ not_equal (key (get_or xs n d)) k Less (p.0 n d (omega arith) b) less_no
      | inr b ↦ not_equal (key (get_or xs n d)) k Greater (p.1 n d b l) greater_no
    ]))

-- a key has a place where it is among the keys
pub placed_in : (k : List ℕ) (ks : List (List ℕ)) → is_some (place_of k ks) ≡ is_in ks k
placed_in k [] = refl
placed_in k (x ∷ ks) = elim (bytes_eq x k) as (λ o. is_some (cond o (Some 0) (option_map suc (place_of k ks))) ≡ (o || is_in ks k)) [
  | true ↦ refl
  | false ↦ mapped (place_of k ks) ∙ placed_in k ks
] where
  mapped : (o : Option ℕ) → is_some (option_map suc o) ≡ is_some o
  mapped None = refl
  mapped (Some n) = refl

pub in_append : (k : List ℕ) (xs ys : List (List ℕ)) → is_in (xs ++ ys) k ≡ (is_in xs k || is_in ys k)
in_append k xs ys = list_any-append (λ x. bytes_eq x k) xs ys
