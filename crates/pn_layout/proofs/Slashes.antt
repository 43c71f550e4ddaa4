-- Texts with `+` in place of slashes.
use Rattle.std.proofs.Common.{◌≡◌, ◌≢◌, ◌<◌, ℕ, List, [], ◌∷◌, ◌++◌, length, get_or, refl, sym, ap, ◌∙◌, true, false, arith, append_assoc, Some, None}
use Rattle.std.specs.Prelude.{◌==◌, ◌||◌, if◌then◌else◌, map, not, IsTrue, MatchOption, Option}
use Rattle.std.specs.Borrow.{Bor}
use Rattle.std.specs.List.{list_any}
use Rattle.std.proofs.lemmas.Bool.{eqb-true}
use Rattle.std.proofs.lemmas.List.{map-append}
use Rattle.std.proofs.lemmas.Str.Pattern.{IsSplitOnceResult, split_parts}
use Rattle.pn_text.specs.Path.{is_flat}
use Rattle.pn_text.proofs.Paths.{not_true}
use Rattle.pn_text.proofs.Bytes.{no_slash}
use Rattle.pn_layout.specs.Store.{plus_for_slash}

other_byte : (b : ℕ) → b ≢ 47 → (b == 47) ≡ false
other_byte b h = elim (b == 47) as (λ c. (b == 47) ≡ c → c ≡ false) [ true ↦ λ is. absurd (h (eqb-true b 47 is)) | false ↦ λ is. refl ] refl

pub split_slash : (bs : List ℕ) (r : Option (Bor (List ℕ) × Bor (List ℕ))) → IsSplitOnceResult 47 bs r
    → MatchOption r (IsTrue (is_flat bs)) (λ x. IsTrue (is_flat x.0.now) × (bs ≡ x.0.now ++ 47 ∷ x.1.now))
split_slash bs r h = found bs r (split_parts 47 bs r h (omega arith)) where
  found : (bs : List ℕ) (r : Option (Bor (List ℕ) × Bor (List ℕ)))
      → MatchOption r ((i : ℕ) → i < length bs → get_or bs i 0 ≢ 47) (λ x. (bs ≡ x.0.now ++ 47 ∷ x.1.now) × ((i : ℕ) → i < length x.0.now → get_or x.0.now i 0 ≢ 47))
      → MatchOption r (IsTrue (is_flat bs)) (λ x. IsTrue (is_flat x.0.now) × (bs ≡ x.0.now ++ 47 ∷ x.1.now))
  found bs None h = ap not (no_slash bs h)
  found bs (Some x) h = (ap not (no_slash x.0.now h.1), h.0)

same_byte : (b : ℕ) → (b == 47) ≡ false → plus_for_slash b ≡ b
same_byte b h = ap (λ c. if c then 43 else b) h

-- a text without slashes stays
pub flat_same : (xs : List ℕ) → list_any (λ b. b == 47) xs ≡ false → map plus_for_slash xs ≡ xs
flat_same [] h = refl
flat_same (x ∷ xs) h = elim (x == 47) as (λ c. (x == 47) ≡ c → (c || list_any (λ b. b == 47) xs) ≡ false → plus_for_slash x ∷ map plus_for_slash xs ≡ x ∷ xs) [
  | true ↦ λ is h. cc
  | false ↦ λ is h. ap (λ b. b ∷ map plus_for_slash xs) (same_byte x is) ∙ ap (λ bs. x ∷ bs) (flat_same xs h)
] refl h

-- one part and its slash further
pub plus_step : (all rest front back whole : List ℕ) → IsTrue (is_flat front) → rest ≡ front ++ 47 ∷ back → all ++ map plus_for_slash rest ≡ whole → ((all ++ front) ++ 43 ∷ []) ++ map plus_for_slash back ≡ whole
plus_step all rest front back whole flat is h =
    append_assoc (all ++ front) (43 ∷ []) (map plus_for_slash back)
    ∙ append_assoc all front (43 ∷ map plus_for_slash back)
    ∙ ap (λ f. all ++ (f ++ 43 ∷ map plus_for_slash back)) (sym (flat_same front (not_true _ flat)))
    ∙ ap (λ t. all ++ t) (sym (ap (map plus_for_slash) is ∙ map-append plus_for_slash front (47 ∷ back)))
    ∙ h

pub plus_all : (all rest whole : List ℕ) → IsTrue (is_flat rest) → all ++ map plus_for_slash rest ≡ whole → all ++ rest ≡ whole
plus_all all rest whole flat h = ap (λ t. all ++ t) (sym (flat_same rest (not_true _ flat))) ∙ h
