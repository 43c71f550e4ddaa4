-- Lists that rise strictly and have the same members are the same.
use Rattle.std.proofs.Common.{◌≡◌, List, [], ◌∷◌, refl, sym, ap, ◌∙◌, arith, inl, inr}
use Rattle.std.specs.List.{Contains}
use Rattle.std.specs.List.Sorted.{IsStrictlySortedBy}
use Rattle.std.specs.declared.cmp.Ordering.{Ordering}
use Rattle.std.specs.declared.cmp.Ordering.TheVariants.{Less}
use Rattle.std.proofs.lemmas.List.Elements.{All-from_recursion, All-contains, Contains-append_right}
use Rattle.pn_text.proofs.Members.{none_in, in_cons}
use Rattle.std.proofs.lemmas.Map.Keys.{sorted_head, sorted_tail}

above : {K : Type 0} (R : K → K → Ordering) (x z : K) (xs : List K) → IsStrictlySortedBy R (x ∷ xs) → Contains xs z → R x z ≡ Less
above R x z xs h c = All-contains (λ y. R x y ≡ Less) xs z (All-from_recursion (λ y. R x y ≡ Less) xs (sorted_head R x xs h)) c

-- the members behind the first ones
behind : {K : Type 0} (R : K → K → Ordering) → ((a b : K) → R a b ≡ Less → R b a ≡ Less → ⊥) → (x y : K) (xs ys : List K) → x ≡ y → IsStrictlySortedBy R (x ∷ xs) → ((z : K) → Contains (x ∷ xs) z → Contains (y ∷ ys) z) → (z : K) → Contains xs z → Contains ys z
behind R asym x y xs ys same h f z c = elim (in_cons y ys z (f z (Contains-append_right (x ∷ []) xs z c))) [
  | inr rest ↦ rest
  | inl is ↦
      let less : R x z ≡ Less = above R x z xs h c in
      let self : R z z ≡ Less = ap (λ a. R a z) (sym (same ∙ is)) ∙ less in
      absurd (asym z z self self)
]

first_same : {K : Type 0} (R : K → K → Ordering) → ((a b : K) → R a b ≡ Less → R b a ≡ Less → ⊥) → (x y : K) (xs ys : List K) → IsStrictlySortedBy R (x ∷ xs) → IsStrictlySortedBy R (y ∷ ys) → Contains (y ∷ ys) x → Contains (x ∷ xs) y → x ≡ y
first_same R asym x y xs ys h k a b = elim (in_cons y ys x a) [
  | inl is ↦ sym is
  | inr later ↦ elim (in_cons x xs y b) [
    | inl is ↦ is
    | inr after ↦ absurd (asym x y (above R x y xs h after) (above R y x ys k later))
  ]
]

pub rising_same : {K : Type 0} (R : K → K → Ordering) → ((a b : K) → R a b ≡ Less → R b a ≡ Less → ⊥) → (xs ys : List K) → IsStrictlySortedBy R xs → IsStrictlySortedBy R ys
    → ((z : K) → Contains xs z → Contains ys z) → ((z : K) → Contains ys z → Contains xs z) → xs ≡ ys
rising_same R asym [] [] h k f g = refl
rising_same R asym [] (y ∷ ys) h k f g = absurd (none_in y (g y (0, omega arith, refl)))
rising_same R asym (x ∷ xs) [] h k f g = absurd (none_in x (f x (0, omega arith, refl)))
rising_same R asym (x ∷ xs) (y ∷ ys) h k f g =
    let same : x ≡ y = first_same R asym x y xs ys h k (f x (0, omega arith, refl)) (g y (0, omega arith, refl)) in
    ap (λ a. a ∷ xs) same ∙ ap (λ l. y ∷ l) (rising_same R asym xs ys (sorted_tail R x xs h) (sorted_tail R y ys k)
    (behind R asym x y xs ys same h f) (behind R asym y x ys xs (sym same) k g))
