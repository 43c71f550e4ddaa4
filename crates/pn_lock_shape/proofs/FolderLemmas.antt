-- Folders, and where links lead.
use Rattle.std.proofs.Common.{◌≡◌, ℕ, ◌<◌, List, [], ◌∷◌, ◌++◌, length, get_or, drop, refl, ap, ◌∙◌, true, false, cond, arith, Some, None}
use Rattle.std.specs.Prelude.{◌==◌, ◌≢◌, MatchOption, Option, reverse}
use Rattle.std.specs.Borrow.{Bor}
use Rattle.std.specs.List.{list_any}
use Rattle.std.proofs.lemmas.List.{reverse-append, length-append}
use Rattle.std.proofs.lemmas.Str.Pattern.{IsSplitOnceResult, split_parts}
use Rattle.pn_text.specs.Path.{Path, parts_from, tail_of}
use Rattle.pn_text.specs.Relative.{IsSteps}
use Rattle.pn_text.proofs.Bytes.{no_slash}
use Rattle.pn_text.proofs.Paths.{parts_from-append, parts_from-flat}
use Rattle.pn_lock_shape.specs.Targets.{folder_text, parts_of}

-- the text of steps is that of the folder with these parts
pub steps_one : (p : Path) (text : List ℕ) → IsSteps p text → text ≡ folder_text p
steps_one [] text h = h
steps_one (x ∷ p) text h = ap (drop 1) h

-- parts behind other parts
parts_onto : (x : List ℕ) (p q : Path) (bs : List ℕ) → parts_from (x ∷ (p ++ q)) bs ≡ parts_from (x ∷ p) bs ++ q
parts_onto x p q [] = refl
parts_onto x p q (b ∷ bs) = elim (b == 47) as (λ c. parts_from (cond c ([] ∷ x ∷ (p ++ q)) ((x ++ b ∷ []) ∷ (p ++ q))) bs ≡ parts_from (cond c ([] ∷ x ∷ p) ((x ++ b ∷ []) ∷ p)) bs ++ q) [
  | true ↦ parts_onto [] (x ∷ p) q bs
  | false ↦ parts_onto (x ++ b ∷ []) p q bs
]

flat_tail : (x : List ℕ) → list_any (λ b. b == 47) x ≡ false → tail_of x ≡ x ∷ []
flat_tail x h = parts_from-flat x [] [] h

pub parts_flat : (x : List ℕ) → list_any (λ b. b == 47) x ≡ false → parts_of x ≡ x ∷ []
parts_flat x h = ap (λ (p : Path). reverse p) (flat_tail x h)

pub parts_cut : (x rest : List ℕ) → list_any (λ b. b == 47) x ≡ false → parts_of (x ++ 47 ∷ rest) ≡ x ∷ parts_of rest
parts_cut x rest h =
    let tail : tail_of (x ++ 47 ∷ rest) ≡ tail_of rest ++ x ∷ [] =
    parts_from-append x (47 ∷ rest) ([] ∷ []) ∙ ap (λ p. parts_from p (47 ∷ rest)) (flat_tail x h) ∙ parts_onto [] [] (x ∷ []) rest in
    ap (λ (p : Path). reverse p) tail ∙ reverse-append (tail_of rest) (x ∷ [])

pub first_is : (text : List ℕ) (r : Option (Bor (List ℕ) × Bor (List ℕ))) → IsSplitOnceResult 47 text r
    → MatchOption r (parts_of text ≡ text ∷ []) (λ x. (parts_of text ≡ x.0.now ∷ parts_of x.1.now) × (length x.1.now < length text))
first_is text r h = cut text r (split_parts 47 text r h (omega arith)) where
  cut : (text : List ℕ) (r : Option (Bor (List ℕ) × Bor (List ℕ)))
      → MatchOption r ((i : ℕ) → i < length text → get_or text i 0 ≢ 47) (λ x. (text ≡ x.0.now ++ 47 ∷ x.1.now) × ((i : ℕ) → i < length x.0.now → get_or x.0.now i 0 ≢ 47))
      → MatchOption r (parts_of text ≡ text ∷ []) (λ x. (parts_of text ≡ x.0.now ∷ parts_of x.1.now) × (length x.1.now < length text))
  cut text None h = parts_flat text (no_slash text h)
  cut text (Some x) h = (
    ap parts_of h.0 ∙ parts_cut x.0.now x.1.now (no_slash x.0.now h.1),
    omega (arith, ap length h.0, length-append x.0.now (47 ∷ x.1.now)),
  )
