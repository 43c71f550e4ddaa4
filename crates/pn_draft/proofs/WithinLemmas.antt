-- Paths below other ones.
use Rattle.std.proofs.Common.{◌≡◌, ℕ, inl, inr, List, [], ◌∷◌, ◌++◌, refl, sym, ap, ◌∙◌, subst, true}
use Rattle.std.specs.Prelude.{◌||◌}
use Rattle.pn_text.specs.Path.{Path, same_path}
use Rattle.pn_text.proofs.Paths.{same_path-Decides, same_path_refl}
use Rattle.pn_text.proofs.Bools.{or_right, or_cases}
use Rattle.pn_draft.specs.Drawing.{is_below, is_within}

pub below_from : (a p : Path) → is_below a p ≡ true → (s : Path) × (x : List ℕ) × (p ≡ s ++ x ∷ a)
below_from a [] h = cc
below_from a (x ∷ p) h = elim (or_cases (same_path p a) (is_below a p) h) [
  | inl same ↦ ([], x, ap (λ q. x ∷ q) ((same_path-Decides p a).0 same))
  | inr deep ↦ let rest = below_from a p deep in (x ∷ rest.0, rest.1, ap (λ q. x ∷ q) rest.2)
]

pub is_below_at : (s : Path) (x : List ℕ) (a : Path) → is_below a (s ++ x ∷ a) ≡ true
is_below_at [] x a = ap (λ b. b || is_below a a) (same_path_refl a)
is_below_at (y ∷ s) x a = or_right (same_path (s ++ x ∷ a) a) (is_below a (s ++ x ∷ a)) (is_below_at s x a)

pub within_from : (a p : Path) → is_within a p ≡ true → (s : Path) × (p ≡ s ++ a)
within_from a p h = elim (or_cases (same_path p a) (is_below a p) h) [
  | inl same ↦ ([], (same_path-Decides p a).0 same)
  | inr deep ↦ let rest = below_from a p deep in (rest.0 ++ rest.1 ∷ [], rest.2 ∙ regroup rest.0 rest.1 a)
] where
  regroup : (s : Path) (x : List ℕ) (a : Path) → s ++ x ∷ a ≡ (s ++ x ∷ []) ++ a
  regroup [] x a = refl
  regroup (y ∷ s) x a = ap (λ q. y ∷ q) (regroup s x a)

pub is_within_at : (s a : Path) → is_within a (s ++ a) ≡ true
is_within_at [] a = ap (λ b. b || is_below a a) (same_path_refl a)
is_within_at (y ∷ s) a = or_right (same_path (y ∷ (s ++ a)) a) (is_within a (s ++ a)) (is_within_at s a)

-- what is above a path is above its entries
pub below_deeper : (a : Path) (x : List ℕ) (p : Path) → is_below (x ∷ a) p ≡ true → is_below a p ≡ true
below_deeper a x p h =
    let from = below_from (x ∷ a) p h in
    subst (λ q. is_below a q ≡ true) (sym (from.2 ∙ regroup from.0 from.1 x a)) (is_below_at (from.0 ++ from.1 ∷ []) x a) where
      regroup : (s : Path) (y x : List ℕ) (a : Path) → s ++ y ∷ x ∷ a ≡ (s ++ y ∷ []) ++ x ∷ a
      regroup [] y x a = refl
      regroup (z ∷ s) y x a = ap (λ q. z ∷ q) (regroup s y x a)
