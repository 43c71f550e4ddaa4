-- Texts in byte order.
use Rattle.std.proofs.Common.{◌≡◌, ◌<◌, ◌+◌, ℕ, zero, suc, true, false, cond, List, [], ◌∷◌, length, get_or, Some, None, option_map, nat_cmp, Ordering, refl, sym, ap, ◌∙◌, subst, arith, IsSorted}
use Rattle.std.specs.Prelude.{Ok, Err, bytes_eq, nat_lt, unwrap_or}
use Rattle.std.specs.Cmp.Lexicographic.{slice_cmp}
use Rattle.std.specs.List.{AllByRecursion, AllPairs, IsDistinct, dedup, dedup_from}
use Rattle.std.specs.List.Sorted.{IsBinarySearchResult, IsSortedBy, IsStrictlySortedBy}
use Rattle.std.specs.Ordering.{is_lt}
use Rattle.std.specs.declared.cmp.Ordering.TheVariants.{Less, Greater}
use Rattle.std.proofs.lemmas.Bool.{ltb-true, ltb-false}
use Rattle.std.proofs.lemmas.Cmp.{nat_list_cmp_total, nat_list_eq_equiv, tied_itself}
use Rattle.std.proofs.lemmas.List.Elements.{recursion_from_All}
use Rattle.std.proofs.lemmas.List.Kept.{IsStrictlySortedBy-dedup}
use Rattle.std.proofs.lemmas.List.Sorted.{searchable_from_sorted}
use Rattle.std.proofs.lemmas.Map.Lookups.{exact_bytes}
use Rattle.std.proofs.lemmas.Map.Text.{is_eq-slice_cmp}
use Rattle.std.proofs.lemmas.Slice.Eq.{bytes_eq-Decides}
use Rattle.pn_text.proofs.Bools.{and_left, and_right, left_false, right_false, not_true}
use Rattle.pn_text.proofs.Orders.{is_less, not_before_self, not_both_before}
use Rattle.pn_lock.specs.Kept.{Rises}
use Rattle.pn_lock.specs.Locks.{key_at, place_of}
use Rattle.pn_lock.proofs.KeptLemmas.{place_back}
use Rattle.pn_graph.specs.Graphs.{distinct, has_name, rises}
use Rattle.pn_lock_make.specs.Targets.{rank}

abbrev cmp : List ℕ → List ℕ → Ordering
cmp = slice_cmp nat_cmp

-- ---- keys that rise

-- sorted texts of which none stands twice
kept : (k : List ℕ) (ks : List (List ℕ)) → IsDistinct bytes_eq (k ∷ ks) → dedup_from bytes_eq k ks ≡ k ∷ ks
unfolding IsDistinct
kept k [] h = refl
kept k (x ∷ ks) h =
    ap (λ o. cond o (dedup_from bytes_eq k ks) (k ∷ dedup_from bytes_eq x ks)) (nat_list_eq_equiv.symm x k ∙ h.0.0)
    ∙ ap (λ (l : List (List ℕ)). k ∷ l) (kept x ks h.1)

all_kept : (ks : List (List ℕ)) → IsDistinct bytes_eq ks → dedup bytes_eq ks ≡ ks
all_kept [] h = refl
all_kept (k ∷ ks) h = kept k ks h

pub rise : (ks : List (List ℕ)) → IsDistinct bytes_eq ks → IsSorted (slice_cmp nat_cmp) ks → Rises ks
rise ks h sorted = subst (λ (l : List (List ℕ)). IsStrictlySortedBy (slice_cmp nat_cmp) l) (all_kept ks h) (IsStrictlySortedBy-dedup nat_list_cmp_total (λ x y. sym (is_eq-slice_cmp x y)) ks sorted)

pub flips : (a b : List ℕ) → bytes_eq a b ≡ bytes_eq b a
flips a b = nat_list_eq_equiv.symm a b

apart_all : (x : List ℕ) (ks : List (List ℕ)) → has_name x ks ≡ false → AllByRecursion (λ y. bytes_eq x y ≡ false) ks
apart_all x [] h = tt
apart_all x (k ∷ ks) h = (left_false (bytes_eq x k) (has_name x ks) h, apart_all x ks (right_false (bytes_eq x k) (has_name x ks) h))

pub are_distinct : (ks : List (List ℕ)) → distinct ks ≡ true → IsDistinct bytes_eq ks
unfolding IsDistinct
are_distinct [] h = tt
are_distinct (k ∷ ks) h = (apart_all k ks (not_true (has_name k ks) (and_left _ (distinct ks) h)), are_distinct ks (and_right _ (distinct ks) h))

pub before_all : (x y : List ℕ) (ys : List (List ℕ)) → cmp x y ≡ Less → AllByRecursion (λ z. cmp y z ≡ Less) ys → AllByRecursion (λ z. cmp x z ≡ Less) ys
before_all x y [] less h = tt
before_all x y (z ∷ zs) less h = (nat_list_cmp_total.trans x y z less h.0, before_all x y zs less h.1)

pub rises_from : (ks : List (List ℕ)) → rises ks ≡ true → Rises ks
unfolding IsStrictlySortedBy
rises_from [] h = tt
rises_from (x ∷ []) h = (tt, tt)
rises_from (x ∷ y ∷ ys) h =
    let less : cmp x y ≡ Less = is_less (cmp x y) (and_left (is_lt (cmp x y)) (rises (y ∷ ys)) h) in
    let rest = rises_from (y ∷ ys) (and_right (is_lt (cmp x y)) (rises (y ∷ ys)) h) in
    ((less, before_all x y ys less rest.0), rest)

pub rises_pairs : (ks : List (List ℕ)) → AllPairs (λ (a b : List ℕ). is_lt (slice_cmp nat_cmp a b) ≡ true) ks → Rises ks
unfolding IsStrictlySortedBy
rises_pairs [] h = tt
rises_pairs (x ∷ ks) h = (
  recursion_from_All (λ y. cmp x y ≡ Less) ks (λ k d within. is_less (cmp x (get_or ks k d)) (h 0 (suc k) d (omega arith) (omega (arith, within)))),
  rises_pairs ks (λ i j d low within. h (suc i) (suc j) d (omega (arith, low)) (omega (arith, within))),
)

-- ---- a search among them

not_back : (x y : List ℕ) → cmp x y ≡ Less → is_lt (cmp y x) ≡ false
not_back x y h = elim (is_lt (cmp y x)) as (λ b. is_lt (cmp y x) ≡ b → b ≡ false) [
  | true ↦ λ e. absurd (not_both_before x y h (is_less (cmp y x) e))
  | false ↦ λ e. refl
] refl

read_on : (x : List ℕ) (ks : List (List ℕ)) (k : ℕ) (d : List ℕ) → get_or (x ∷ ks) (suc k + 1) d ≡ get_or ks (k + 1) d
read_on x ks k d = let e : suc k + 1 ≡ suc (k + 1) = omega arith in ap (λ n. get_or (x ∷ ks) n d) e

sorted : (ks : List (List ℕ)) → Rises ks → IsSortedBy (λ (a b : List ℕ). is_lt (cmp a b)) ks
unfolding IsStrictlySortedBy
sorted [] h k d low within = absurd (omega arith)
sorted (x ∷ []) h k d low within = absurd (omega arith)
sorted (x ∷ y ∷ ks) h zero d low within = not_back x y h.0.0
sorted (x ∷ y ∷ ks) h (suc k) d low within =
    subst (λ (z : List ℕ). is_lt (cmp z (get_or (y ∷ ks) k d)) ≡ false) (sym (read_on x (y ∷ ks) k d)) (sorted (y ∷ ks) h.1 k d (omega arith) (omega arith))

pub key_get : (ks : List (List ℕ)) (n : ℕ) → key_at ks n ≡ get_or ks n []
key_get [] n = refl
key_get (k ∷ ks) zero = refl
key_get (k ∷ ks) (suc n) = key_get ks n

not_same : (x y : List ℕ) → (x ≡ y → ⊥) → bytes_eq x y ≡ false
not_same x y h = elim (bytes_eq x y) as (λ b. bytes_eq x y ≡ b → b ≡ false) [
  | true ↦ λ e. absurd (h ((bytes_eq-Decides x y).0 e))
  | false ↦ λ e. refl
] refl

no_place : (x : List ℕ) (ks : List (List ℕ)) → ((k : ℕ) (d : List ℕ) → k < length ks → get_or ks k d ≡ x → ⊥) → place_of x ks ≡ None
no_place x [] h = refl
no_place x (k ∷ ks) h =
    ap (λ o. cond o (Some 0) (option_map suc (place_of x ks))) (not_same k x (h 0 k (omega arith)))
    ∙ ap (option_map suc) (no_place x ks (λ n d within. h (suc n) d (omega (arith, within))))

not_after_itself : (x : List ℕ) → cmp x x ≡ Greater → ⊥
not_after_itself x h = let same = tied_itself nat_list_cmp_total x in cc (same, h)

pub found_place : (x : List ℕ) (ks : List (List ℕ)) (at : ℕ) → Rises ks → at < length ks → IsBinarySearchResult (λ (y : List ℕ). slice_cmp nat_cmp y x) ks (Ok at) → place_of x ks ≡ Some at
found_place x ks at rising within equal =
    let is : key_at ks at ≡ x = key_get ks at ∙ exact_bytes (get_or ks at []) x (equal []) in
    subst (λ (y : List ℕ). place_of y ks ≡ Some at) is (place_back ks at within rising)

pub found_rank : (x : List ℕ) (ks : List (List ℕ)) (at : ℕ) → Rises ks → at < length ks → IsBinarySearchResult (λ (y : List ℕ). slice_cmp nat_cmp y x) ks (Ok at) → at ≡ rank ks x
found_rank x ks at rising within equal = sym (ap (λ o. unwrap_or o 0) (found_place x ks at rising within equal))

pub no_found : (x : List ℕ) (ks : List (List ℕ)) (at : ℕ) → Rises ks → IsBinarySearchResult (λ (y : List ℕ). slice_cmp nat_cmp y x) ks (Err at) → place_of x ks ≡ None
no_found x ks at rising parted =
    let parts = parted (searchable_from_sorted nat_list_cmp_total (λ (k : List ℕ). k) ks x (sorted ks rising)) in
    no_place x ks (λ k d within is. elim (nat_lt k at) as (λ b. nat_lt k at ≡ b → ⊥) [
      | true ↦ λ e. not_before_self x (subst (λ (z : List ℕ). cmp z x ≡ Less) is (parts.0 k d (omega arith) (ltb-true k at e)))
      | false ↦ λ e. not_after_itself x (subst (λ (z : List ℕ). cmp z x ≡ Greater) is (parts.1 k d (ltb-false k at e) within))
    ] refl)

pub no_rank : (x : List ℕ) (ks : List (List ℕ)) (at : ℕ) → Rises ks → IsBinarySearchResult (λ (y : List ℕ). slice_cmp nat_cmp y x) ks (Err at) → 0 ≡ rank ks x
no_rank x ks at rising parted = sym (ap (λ o. unwrap_or o 0) (no_found x ks at rising parted))
