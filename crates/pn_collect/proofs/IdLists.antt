-- Ids that stand once.
use Rattle.std.proofs.Common.{◌≡◌, List, [], ◌∷◌, true, false, not, Less, nat_cmp, refl, sym, ap, ◌∙◌, IsSorted}
use Rattle.std.specs.Cmp.Lexicographic.{slice_cmp}
use Rattle.std.specs.List.{Contains, IsDistinct}
use Rattle.std.specs.List.Sorted.{IsStrictlySortedBy}
use Rattle.std.specs.Str.{bytes_eq}
use Rattle.std.proofs.lemmas.List.Elements.{All-contains, All-contains_itself, All-from_recursion, All-weaker, recursion_from_All}
use Rattle.std.proofs.lemmas.List.Folds.{list_any_at}
use Rattle.std.proofs.lemmas.Slice.Eq.{bytes_eq-Decides}
use Rattle.pn_text.proofs.Bools.{and_left, and_right, not_true}
use Rattle.pn_graph.specs.Graphs.{has_name, distinct}
use Rattle.pn_package.specs.Links.{Id}
use Rattle.pn_collect.proofs.SortedTexts.{below_text, not_before, sorted_tail}

pub true_false : {A : Type 0} → true ≡ false → A
true_false e = absurd (cc e)

same_id : (x : Id) → bytes_eq x x ≡ true
same_id x = (bytes_eq-Decides x x).1 refl

pub id_flips : (a b : Id) → bytes_eq a b ≡ bytes_eq b a
id_flips a b = elim (bytes_eq a b) as (λ o. bytes_eq a b ≡ o → o ≡ bytes_eq b a) [
  | true ↦ λ is. sym ((bytes_eq-Decides b a).1 (sym ((bytes_eq-Decides a b).0 is)))
  | false ↦ λ apart. elim (bytes_eq b a) as (λ o. bytes_eq b a ≡ o → false ≡ o) [
    | true ↦ λ is. true_false (sym ((bytes_eq-Decides a b).1 (sym ((bytes_eq-Decides b a).0 is))) ∙ apart)
    | false ↦ λ e. refl
  ] refl
] refl

-- none of them is the id
apart_from : (x : Id) (ids : List Id) → has_name x ids ≡ false → (y : Id) → Contains ids y → bytes_eq x y ≡ false
apart_from x ids h y c = elim (bytes_eq x y) as (λ o. bytes_eq x y ≡ o → o ≡ false) [
  | true ↦ λ is. true_false (sym (list_any_at (bytes_eq x) ids c.0 y c.1 (ap (bytes_eq x) c.2 ∙ is)) ∙ h)
  | false ↦ λ is. refl
] refl

pub are_distinct : (ids : List Id) → distinct ids ≡ true → IsDistinct bytes_eq ids
unfolding IsDistinct
are_distinct [] h = tt
are_distinct (x ∷ ids) h = (
  recursion_from_All (λ y. bytes_eq x y ≡ false) ids
      (All-weaker (Contains ids) (λ y. bytes_eq x y ≡ false) (apart_from x ids (not_true (has_name x ids) (and_left (not (has_name x ids)) (distinct ids) h))) ids (All-contains_itself ids)),
  are_distinct ids (and_right (not (has_name x ids)) (distinct ids) h),
)

-- ids in order rise, since no two are one
pub rise : (ids : List Id) → IsDistinct bytes_eq ids → IsSorted (slice_cmp nat_cmp) ids → IsStrictlySortedBy (slice_cmp nat_cmp) ids
unfolding IsDistinct IsStrictlySortedBy
rise [] h sorted = tt
rise (x ∷ ids) h sorted = (
  recursion_from_All (λ y. slice_cmp nat_cmp x y ≡ Less) ids (All-weaker (Contains ids) (λ y. slice_cmp nat_cmp x y ≡ Less) later ids (All-contains_itself ids)),
  rise ids h.1 (sorted_tail x ids sorted),
) where
  later : (y : Id) → Contains ids y → slice_cmp nat_cmp x y ≡ Less
  later y c = below_text x y (not_before x ids y sorted c)
      (λ e. true_false (sym (ap (bytes_eq x) (sym e) ∙ same_id x) ∙ All-contains (λ i. bytes_eq x i ≡ false) ids y (All-from_recursion (λ i. bytes_eq x i ≡ false) ids h.0) c))
