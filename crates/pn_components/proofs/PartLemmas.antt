-- Lists of parts, the last one at the end.
use Rattle.std.proofs.Common.{◌≡◌, ◌<◌, ◌≤◌, ℕ, ◌+◌, List, [], ◌∷◌, ◌++◌, length, get_or, take, refl, sym, ◌∙◌, subst, arith, inl, inr}
use Rattle.std.specs.List.{AllPairs, Contains}
use Rattle.std.proofs.lemmas.List.{get_or_append_left, get_or_push, length_push, take_all, take_more}
use Rattle.std.proofs.lemmas.List.Elements.{Contains-append_left, Contains-push_cases}
use Rattle.pn_components.specs.declared.walk.Part.{Part}
use Rattle.pn_components.specs.Walks.{IsBefore}

pub split_last : {X : Type 0} (xs : List X) (n : ℕ) (d : X) → length xs ≡ n + 1 → xs ≡ take n xs ++ get_or xs n d ∷ []
split_last xs n d h = sym (take_all (n + 1) xs (omega arith)) ∙ take_more xs n d (omega arith)

pub all_before : (front : List Part) (x y : Part) → AllPairs IsBefore (front ++ x ∷ []) → Contains front y → IsBefore y x
all_before front x y h c =
    let old : get_or (front ++ x ∷ []) c.0 y ≡ y = get_or_append_left front (x ∷ []) y c.0 c.1 ∙ c.2 in
    let last : get_or (front ++ x ∷ []) (length front) y ≡ x = get_or_push front x y (length front) refl in
    subst (λ (p : Part). IsBefore p x) old
    (subst (λ (q : Part). IsBefore (get_or (front ++ x ∷ []) c.0 y) q) last (h c.0 (length front) y c.1 (omega (arith, length_push front x))))

pub front_rising : (front : List Part) (x : Part) → AllPairs IsBefore (front ++ x ∷ []) → AllPairs IsBefore front
front_rising front x h = λ i j d less within.
    let low : i < length front = omega (arith, less, within) in
    subst (λ (p : Part). IsBefore p (get_or front j d)) (get_or_append_left front (x ∷ []) d i low)
    (subst (λ (q : Part). IsBefore (get_or (front ++ x ∷ []) i d) q) (get_or_append_left front (x ∷ []) d j within) (h i j d less (omega (arith, within, length_push front x))))

-- all parts begin at that place or before it
pub first_after : (front : List Part) (x : Part) (n : ℕ) → AllPairs IsBefore (front ++ x ∷ []) → x.first ≤ n → (y : Part) → Contains (front ++ x ∷ []) y → y.first ≤ n
first_after front x n h le y c = elim (Contains-push_cases front x y c) [
  | inl old ↦ let b = (all_before front x y h old).0 in omega (arith, b, le)
  | inr is ↦ subst (λ (z : Part). z.first ≤ n) is le
]

pub waiting_after : (front : List Part) (x : Part) (n : ℕ) → AllPairs IsBefore (front ++ x ∷ []) → x.waiting ≤ n → (y : Part) → Contains (front ++ x ∷ []) y → y.waiting ≤ n
waiting_after front x n h le y c = elim (Contains-push_cases front x y c) [
  | inl old ↦ let b = (all_before front x y h old).1 in omega (arith, b, le)
  | inr is ↦ subst (λ (z : Part). z.waiting ≤ n) is le
]

-- what holds of each part but the last, and of the last
pub each_part : (P : Part → Type 0) (front : List Part) (x : Part) → ((y : Part) → Contains front y → P y) → P x → (y : Part) → Contains (front ++ x ∷ []) y → P y
each_part P front x old last y c = elim (Contains-push_cases front x y c) [
  | inl o ↦ old y o
  | inr is ↦ subst P is last
]

pub in_front : (front : List Part) (x y : Part) → Contains front y → Contains (front ++ x ∷ []) y
in_front front x y c = Contains-append_left front (x ∷ []) y c
