-- Texts in byte order, each once.
use Rattle.std.proofs.Common.{◌≡◌, ℕ, List, [], ◌∷◌, refl, sym, ap, ◌∙◌, subst, inl, inr}
use Rattle.std.specs.List.{Contains, dedup}
use Rattle.std.specs.List.Sorted.{IsSorted}
use Rattle.std.specs.Str.{bytes_eq}
use Rattle.std.specs.Cmp.Lexicographic.{slice_cmp}
use Rattle.std.specs.Ordering.{nat_cmp}
use Rattle.std.specs.declared.cmp.Ordering.TheVariants.{Less}
use Rattle.std.proofs.lemmas.Cmp.{nat_list_cmp_total, nat_list_eq_equiv}
use Rattle.std.proofs.lemmas.List.Elements.{All-from_recursion, All-contains}
use Rattle.std.proofs.lemmas.List.Kept.{Contains-dedup, Contains-from_dedup, IsStrictlySortedBy-dedup}
use Rattle.std.proofs.lemmas.Map.Keys.{sorted_head, sorted_tail}
use Rattle.std.proofs.lemmas.Map.Text.{is_eq-slice_cmp}
use Rattle.std.proofs.lemmas.Slice.Eq.{bytes_eq-Decides}
use Rattle.pn_text.proofs.Members.{here, in_cons, none_in, there}
use Rattle.pn_text.proofs.Orders.{not_before_self, not_both_before}
use Rattle.pn_dep_paths.specs.BaseTexts.{AreRising}

pub once : (texts : List (List ℕ)) → IsSorted (slice_cmp nat_cmp) texts → AreRising (dedup bytes_eq texts)
once texts h = IsStrictlySortedBy-dedup nat_list_cmp_total (λ x y. sym (is_eq-slice_cmp x y)) texts h

pub kept_in : (texts : List (List ℕ)) (g : List ℕ) → Contains (dedup bytes_eq texts) g → Contains texts g
kept_in texts g c = Contains-from_dedup bytes_eq texts g c

pub in_kept : (texts : List (List ℕ)) (g : List ℕ) → Contains texts g → Contains (dedup bytes_eq texts) g
in_kept texts g c = Contains-dedup nat_list_eq_equiv (λ x y e. (bytes_eq-Decides x y).0 e) texts g c

above : (x z : List ℕ) (xs : List (List ℕ)) → AreRising (x ∷ xs) → Contains xs z → slice_cmp nat_cmp x z ≡ Less
above x z xs h c = All-contains (λ y. slice_cmp nat_cmp x y ≡ Less) xs z (All-from_recursion (λ y. slice_cmp nat_cmp x y ≡ Less) xs (sorted_head (slice_cmp nat_cmp) x xs h)) c

heads : (x y : List ℕ) (xs ys : List (List ℕ)) → AreRising (x ∷ xs) → AreRising (y ∷ ys) → Contains (y ∷ ys) x → Contains (x ∷ xs) y → x ≡ y
heads x y xs ys h k i j = elim (in_cons y ys x i) [
  | inl is ↦ sym is
  | inr later ↦ elim (in_cons x xs y j) [
    | inl is ↦ is
    | inr after ↦ absurd (not_both_before x y (above x y xs h after) (above y x ys k later))
  ]
]

-- what both have behind one head
tails : (x : List ℕ) (xs ys : List (List ℕ)) → AreRising (x ∷ xs) → ((z : List ℕ) → Contains (x ∷ xs) z → Contains (x ∷ ys) z) → (z : List ℕ) → Contains xs z → Contains ys z
tails x xs ys h f z c = elim (in_cons x ys z (f z (there x xs z c))) [
  | inl is ↦ absurd (not_before_self x (subst (λ (w : List ℕ). slice_cmp nat_cmp x w ≡ Less) (sym is) (above x z xs h c)))
  | inr rest ↦ rest
]

-- texts that rise and have the same members are one list
pub one_list : (xs ys : List (List ℕ)) → AreRising xs → AreRising ys → ((z : List ℕ) → Contains xs z → Contains ys z) → ((z : List ℕ) → Contains ys z → Contains xs z) → xs ≡ ys
one_list [] [] h k f g = refl
one_list [] (y ∷ ys) h k f g = absurd (none_in y (g y (here y ys)))
one_list (x ∷ xs) [] h k f g = absurd (none_in x (f x (here x xs)))
one_list (x ∷ xs) (y ∷ ys) h k f g =
    let same : x ≡ y = heads x y xs ys h k (f x (here x xs)) (g y (here y ys)) in
    ap (λ a. a ∷ xs) same ∙ ap (λ l. y ∷ l) (one_list xs ys (sorted_tail (slice_cmp nat_cmp) x xs h) (sorted_tail (slice_cmp nat_cmp) y ys k)
    (tails x xs ys h (λ z c. subst (λ (w : List ℕ). Contains (w ∷ ys) z) (sym same) (f z c)))
    (tails y ys xs k (λ z c. subst (λ (w : List ℕ). Contains (w ∷ xs) z) same (g z c))))
