-- What is left of a list of which some members are left out.
use Rattle.std.proofs.Common.{◌≡◌, ℕ, Bool, true, false, List, [], ◌∷◌, map, refl, ap}
use Rattle.std.specs.Prelude.{cond, filter}
use Rattle.std.specs.List.{AllByRecursion}
use Rattle.std.specs.List.Sorted.{IsStrictlySortedBy}
use Rattle.pn_manifest.specs.Said.{AreRising}

below_left : {X : Type 0} (P : List ℕ → Type 0) (key : X → List ℕ) (p : X → Bool) (xs : List X) → AllByRecursion P (map key xs) → AllByRecursion P (map key (filter p xs))
below_left P key p [] h = h
below_left P key p (x ∷ xs) h = elim (p x) as (λ b. AllByRecursion P (map key (cond b (x ∷ filter p xs) (filter p xs)))) [
  | true ↦ (h.0, below_left P key p xs h.1)
  | false ↦ below_left P key p xs h.1
]

-- what is left of a list that rises does
pub left_rises : {X : Type 0} (key : X → List ℕ) (p : X → Bool) (xs : List X) → AreRising (map key xs) → AreRising (map key (filter p xs))
unfolding IsStrictlySortedBy
left_rises key p [] h = h
left_rises key p (x ∷ xs) h = elim (p x) as (λ b. AreRising (map key (cond b (x ∷ filter p xs) (filter p xs)))) [
  | true ↦ (below_left _ key p xs h.0, left_rises key p xs h.1)
  | false ↦ left_rises key p xs h.1
]

-- leaving out by a member's image
pub left_images : {X Y : Type 0} (f : X → Y) (p : Y → Bool) (xs : List X) → map f (filter (λ x. p (f x)) xs) ≡ filter p (map f xs)
left_images f p [] = refl
left_images f p (x ∷ xs) = elim (p (f x)) as (λ b. map f (cond b (x ∷ filter (λ x. p (f x)) xs) (filter (λ x. p (f x)) xs)) ≡ cond b (f x ∷ filter p (map f xs)) (filter p (map f xs))) [
  | true ↦ ap (λ ys. f x ∷ ys) (left_images f p xs)
  | false ↦ left_images f p xs
]
