-- The text of a relative path is what its definition asks.
use Rattle.std.proofs.Common.{◌≡◌, inl, inr, ℕ, List, [], ◌∷◌, ◌++◌, length, refl, sym, ap, ◌∙◌, subst, true, false, append_assoc}
use Rattle.std.specs.Prelude.{drop, if◌then◌else◌}
use Rattle.pn_text.specs.Path.{Path, same_path}
use Rattle.pn_text.specs.Relative.{dots, IsSteps, IsRelative}
use Rattle.pn_text.proofs.Paths.{same_path-Decides}
use Rattle.pn_text.proofs.Bools.{true_false}
use Rattle.pn_text.proofs.Joins.{below_begins}
use Rattle.pn_draft.specs.Drawing.{is_within}
use Rattle.pn_draft.proofs.Marked.{within_cases}
use Rattle.pn_draft.proofs.WithinLemmas.{is_within_at}
use Rattle.pn_tree.specs.Relatives.{ups, base_of, downs, steps_text, relative_text}

within_root : (p : Path) → is_within [] p ≡ true
within_root [] = refl
within_root (x ∷ p) = within_root p

base_within : (from to : Path) → is_within (base_of from to) to ≡ true
base_within [] to = within_root to
base_within (x ∷ p) to = elim (is_within (x ∷ p) to) as (λ b. is_within (x ∷ p) to ≡ b → is_within (if b then x ∷ p else base_of p to) to ≡ true) [
  | true ↦ λ is. is
  | false ↦ λ other. base_within p to
] refl

from_parts : (from to : Path) → from ≡ ups from to ++ base_of from to
from_parts [] to = refl
from_parts (x ∷ p) to = elim (is_within (x ∷ p) to) as (λ b. x ∷ p ≡ (if b then [] else x ∷ ups p to) ++ (if b then x ∷ p else base_of p to)) [
  | true ↦ refl
  | false ↦ ap (λ q. x ∷ q) (from_parts p to)
]

to_parts : (base to : Path) → is_within base to ≡ true → to ≡ downs base to ++ base
to_parts base [] h = elim (within_cases base [] h) [ inl e ↦ e | inr b ↦ cc ]
to_parts base (y ∷ q) h = elim (same_path (y ∷ q) base) as (λ b. same_path (y ∷ q) base ≡ b → y ∷ q ≡ (if b then [] else y ∷ downs base q) ++ base) [
  | true ↦ λ is. (same_path-Decides (y ∷ q) base).0 is
  | false ↦ λ other. ap (λ p. y ∷ p) (to_parts base q (elim (within_cases base (y ∷ q) h) [
    | inl e ↦ let yes : same_path (y ∷ q) base ≡ true = (same_path-Decides (y ∷ q) base).1 e in absurd (true_false (same_path (y ∷ q) base) yes other)
    | inr deep ↦ deep
  ]))
] refl

no_push : {P : Type 0} (u : Path) (x : List ℕ) → [] ≡ u ++ x ∷ [] → P
no_push [] x e = cc
no_push (z ∷ u) x e = cc

left_step : (y : List ℕ) (p to : Path) (x : List ℕ) (u : Path) → ((v : Path) → ups p to ≡ v ++ x ∷ [] → is_within (x ∷ base_of p to) to ≡ false) → y ∷ ups p to ≡ u ++ x ∷ [] → is_within (y ∷ p) to ≡ false
    → is_within (x ∷ base_of p to) to ≡ false
left_step y p to x [] before e other =
    let head : y ≡ x = cc in
    let none : ups p to ≡ [] = cc in
    let whole : p ≡ base_of p to = from_parts p to ∙ ap (λ q. q ++ base_of p to) none in
    subst (λ q. is_within (x ∷ q) to ≡ false) whole (subst (λ z. is_within (z ∷ p) to ≡ false) head other)
left_step y p to x (z ∷ u) before e other = let tails : ups p to ≡ u ++ x ∷ [] = cc in before u tails

-- the last folder that was left is not above the path
left_behind : (from to : Path) (x : List ℕ) (u : Path) → ups from to ≡ u ++ x ∷ [] → is_within (x ∷ base_of from to) to ≡ false
left_behind [] to x u e = no_push u x e
left_behind (y ∷ p) to x u e = elim (is_within (y ∷ p) to) as (λ b. is_within (y ∷ p) to ≡ b → (if b then [] else y ∷ ups p to) ≡ u ++ x ∷ [] → is_within (x ∷ (if b then y ∷ p else base_of p to)) to ≡ false) [
  | true ↦ λ is e. no_push u x e
  | false ↦ λ other e. left_step y p to x u (λ v h. left_behind p to x v h) e other
] refl e

steps_spelled : (p : Path) → IsSteps p (steps_text p)
steps_spelled [] = refl
steps_spelled (x ∷ p) = let b = below_begins x p in ap (λ t. 47 ∷ drop 1 t) b.1 ∙ sym b.1

pub relative : (from to : Path) → IsRelative from to (relative_text from to)
relative from to =
    let whole = to_parts (base_of from to) to (base_within from to) in
    record {
      base = base_of from to;
      up = ups from to;
      down = downs (base_of from to) to;
      from_is = from_parts from to;
      to_is = whole;
      nearest = λ x u d up down.
          let deep : to ≡ d ++ x ∷ base_of from to = whole ∙ ap (λ q. q ++ base_of from to) down ∙ append_assoc d (x ∷ []) (base_of from to) in
          true_false (is_within (x ∷ base_of from to) to) (subst (λ q. is_within (x ∷ base_of from to) q ≡ true) (sym deep) (is_within_at d (x ∷ base_of from to))) (left_behind from to x u up);
      spelled = steps_spelled (downs (base_of from to) to ++ dots (length (ups from to)));
    }
