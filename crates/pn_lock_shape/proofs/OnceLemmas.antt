-- Keys that rise, and keys that stand once.
use Rattle.std.proofs.Common.{◌≡◌, ℕ, Bool, true, false, List, [], ◌∷◌, map, refl, sym, ap, ◌∙◌, subst}
use Rattle.std.specs.Prelude.{◌||◌, not, bytes_eq, IsPermutation}
use Rattle.std.specs.List.{AllByRecursion}
use Rattle.std.specs.List.Sorted.{IsSortedBy, IsStrictlySortedBy}
use Rattle.std.specs.Cmp.Derive.{both_true}
use Rattle.std.specs.Cmp.Lexicographic.{slice_cmp}
use Rattle.std.specs.Ordering.{is_lt, nat_cmp}
use Rattle.std.specs.declared.cmp.Ordering.TheVariants.{Less}
use Rattle.std.proofs.lemmas.List.Sorted.{IsPermutation-sym}
use Rattle.pn_text.proofs.Bools.{and_left, and_right, left_false, not_true, right_false}
use Rattle.pn_text.proofs.Orders.{is_less}
use Rattle.pn_lock.specs.Kept.{Rises, is_in}
use Rattle.pn_lock.proofs.KeptLemmas.{less_other, map_same}
use Rattle.pn_lock_shape.specs.Keys.{Once, are_once, rising}
use Rattle.pn_lock_shape.specs.Shapes.{in_order}
use Rattle.pn_lock_shape.proofs.ApartLemmas.{other_way}
use Rattle.pn_lock_shape.proofs.SortLemmas.{all_above, once_permuted, sorted_once, strict}

none_in : (k : List ℕ) (ks : List (List ℕ)) → is_in ks k ≡ false → AllByRecursion (λ y. bytes_eq y k ≡ false) ks
none_in k [] h = tt
none_in k (y ∷ ks) h = (left_false (bytes_eq y k) (is_in ks k) h, none_in k ks (right_false (bytes_eq y k) (is_in ks k) h))

in_none : (k : List ℕ) (ks : List (List ℕ)) → AllByRecursion (λ y. bytes_eq y k ≡ false) ks → is_in ks k ≡ false
in_none k [] h = refl
in_none k (y ∷ ks) h = ap (λ o. o || is_in ks k) h.0 ∙ in_none k ks h.1

pub true_once : (ks : List (List ℕ)) → are_once ks ≡ true → Once ks
true_once [] h = tt
true_once (k ∷ ks) h = (none_in k ks (not_true (is_in ks k) (and_left (not (is_in ks k)) (are_once ks) h)), true_once ks (and_right (not (is_in ks k)) (are_once ks) h))

pub once_true : (ks : List (List ℕ)) → Once ks → are_once ks ≡ true
once_true [] h = refl
once_true (k ∷ ks) h = both_true (ap not (in_none k ks h.0)) (once_true ks h.1)

pub rising_rises : (ks : List (List ℕ)) → rising ks ≡ true → Rises ks
unfolding IsStrictlySortedBy
rising_rises [] h = tt
rising_rises (k ∷ []) h = (tt, tt)
rising_rises (k ∷ j ∷ ks) h =
    let less = is_less (slice_cmp nat_cmp k j) (and_left (is_lt (slice_cmp nat_cmp k j)) (rising (j ∷ ks)) h) in
    let rest = rising_rises (j ∷ ks) (and_right (is_lt (slice_cmp nat_cmp k j)) (rising (j ∷ ks)) h) in
    ((less, all_above k j ks less rest.0), rest)

pub rises_rising : (ks : List (List ℕ)) → Rises ks → rising ks ≡ true
unfolding IsStrictlySortedBy
rises_rising [] h = refl
rises_rising (k ∷ []) h = refl
rises_rising (k ∷ j ∷ ks) h = both_true (ap is_lt h.0.0) (rises_rising (j ∷ ks) h.1)

others : (k : List ℕ) (ks : List (List ℕ)) → AllByRecursion (λ y. slice_cmp nat_cmp k y ≡ Less) ks → AllByRecursion (λ y. bytes_eq y k ≡ false) ks
others k [] h = tt
others k (y ∷ ks) h = (other_way k y (less_other k y h.0), others k ks h.1)

pub rises_once : (ks : List (List ℕ)) → Rises ks → Once ks
unfolding IsStrictlySortedBy
rises_once [] h = tt
rises_once (k ∷ ks) h = (others k ks h.0, rises_once ks h.1)

abbrev pub id : List ℕ → List ℕ
id k = k

abbrev pub Sorted : List (List ℕ) → Type 0
Sorted = IsSortedBy (λ a b. is_lt (slice_cmp nat_cmp a b))

-- a sorted list rises where no name stands twice
pub once_sorted : (xs ys : List (List ℕ)) → IsPermutation xs ys → Sorted ys → are_once xs ≡ rising ys
once_sorted xs ys p s = go (rising ys) (are_once xs) refl refl where
  once_of : Once (map id xs) → Once (map id ys)
  once_of = once_permuted id xs ys p

  go : (b a : Bool) → rising ys ≡ b → are_once xs ≡ a → a ≡ b
  go true true r o = refl
  go false false r o = refl
  go false true r o =
      absurd (let once = once_of (subst Once (sym (map_same xs)) (true_once xs o)) in
      let up = subst Rises (map_same ys) (strict id ys once s) in
      cc (sym r ∙ rises_rising ys up))
  go true false r o =
      absurd (let once = rises_once ys (rising_rises ys r) in
      let back = subst Once (map_same xs) (once_permuted id ys xs (IsPermutation-sym xs ys p) (subst Once (sym (map_same ys)) once)) in
      cc (sym o ∙ once_true xs back))

pub rising_order : (xs ys : List (List ℕ)) → IsPermutation xs ys → Sorted ys → rising ys ≡ true → in_order id xs ≡ ys
rising_order xs ys p s r =
    sym (sorted_once id xs ys p (once_permuted id ys xs (IsPermutation-sym xs ys p) (subst Once (sym (map_same ys)) (rises_once ys (rising_rises ys r)))) s)
