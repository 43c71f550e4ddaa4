-- Keys that rise and have the same members are one list.
use Rattle.std.proofs.Common.{◌≡◌, ℕ, List, [], ◌∷◌, nat_cmp, refl, sym, ap, ◌∙◌, subst, inl, inr, IsPermutation}
use Rattle.std.specs.Cmp.Lexicographic.{slice_cmp}
use Rattle.std.specs.List.{Contains}
use Rattle.std.specs.declared.cmp.Ordering.TheVariants.{Less}
use Rattle.std.proofs.lemmas.List.Elements.{All-contains, All-from_recursion}
use Rattle.std.proofs.lemmas.List.Sorted.{Contains-permutation, IsPermutation-sym, IsPermutation-trans}
use Rattle.std.proofs.lemmas.Map.Keys.{sorted_head, sorted_tail}
use Rattle.pn_text.proofs.Members.{here, in_cons, none_in, there}
use Rattle.pn_text.proofs.Orders.{not_before_self, not_both_before}
use Rattle.pn_lock.specs.Kept.{Rises}

above : (x z : List ℕ) (xs : List (List ℕ)) → Rises (x ∷ xs) → Contains xs z → slice_cmp nat_cmp x z ≡ Less
above x z xs h c = All-contains (λ y. slice_cmp nat_cmp x y ≡ Less) xs z (All-from_recursion (λ y. slice_cmp nat_cmp x y ≡ Less) xs (sorted_head (slice_cmp nat_cmp) x xs h)) c

heads : (x y : List ℕ) (xs ys : List (List ℕ)) → Rises (x ∷ xs) → Rises (y ∷ ys) → Contains (y ∷ ys) x → Contains (x ∷ xs) y → x ≡ y
heads x y xs ys h k i j = elim (in_cons y ys x i) [
  | inl is ↦ sym is
  | inr later ↦ elim (in_cons x xs y j) [
    | inl is ↦ is
    | inr after ↦ absurd (not_both_before x y (above x y xs h after) (above y x ys k later))
  ]
]

-- what both have behind one head
tails : (x : List ℕ) (xs ys : List (List ℕ)) → Rises (x ∷ xs) → ((z : List ℕ) → Contains (x ∷ xs) z → Contains (x ∷ ys) z) → (z : List ℕ) → Contains xs z → Contains ys z
tails x xs ys h f z c = elim (in_cons x ys z (f z (there x xs z c))) [
  | inl is ↦ absurd (not_before_self x (subst (λ (w : List ℕ). slice_cmp nat_cmp x w ≡ Less) (sym is) (above x z xs h c)))
  | inr rest ↦ rest
]

one_list : (xs ys : List (List ℕ)) → Rises xs → Rises ys → ((z : List ℕ) → Contains xs z → Contains ys z) → ((z : List ℕ) → Contains ys z → Contains xs z) → xs ≡ ys
one_list [] [] h k f g = refl
one_list [] (y ∷ ys) h k f g = absurd (none_in y (g y (here y ys)))
one_list (x ∷ xs) [] h k f g = absurd (none_in x (f x (here x xs)))
one_list (x ∷ xs) (y ∷ ys) h k f g =
    let same : x ≡ y = heads x y xs ys h k (f x (here x xs)) (g y (here y ys)) in
    ap (λ a. a ∷ xs) same ∙ ap (λ l. y ∷ l) (one_list xs ys (sorted_tail (slice_cmp nat_cmp) x xs h) (sorted_tail (slice_cmp nat_cmp) y ys k)
    (tails x xs ys h (λ z c. subst (λ (w : List ℕ). Contains (w ∷ ys) z) (sym same) (f z c)))
    (tails y ys xs k (λ z c. subst (λ (w : List ℕ). Contains (w ∷ xs) z) same (g z c))))

-- two orders of some keys that both rise
pub one_order : (keys xs ys : List (List ℕ)) → IsPermutation keys xs → IsPermutation keys ys → Rises xs → Rises ys → xs ≡ ys
one_order keys xs ys a b h k =
    let order = IsPermutation-trans xs keys ys (IsPermutation-sym keys xs a) b in
    one_list xs ys h k (λ z c. Contains-permutation xs ys z order c) (λ z c. Contains-permutation ys xs z (IsPermutation-sym xs ys order) c)
