-- Spaces at the front and at the end of a text.
use Rattle.std.proofs.Common.{◌≡◌, ℕ, ◌+◌, ◌-◌, ◌<◌, ◌≤◌, ◌≢◌, length, get_or, take, arith, List, [], ◌∷◌, ◌++◌, Bool, true, false, refl, sym, ap, subst, ◌∙◌}
use Rattle.std.specs.Prelude.{◌==◌, if◌then◌else◌}
use Rattle.std.proofs.lemmas.Bool.{ne_eqb}
use Rattle.std.proofs.lemmas.List.{take_more}
use Rattle.std.specs.Str.{IsCharBoundary}
use Rattle.std.proofs.lemmas.Str.{IsCharBoundary-before_ascii}
use Rattle.pn_yaml.specs.Bytes.{is_blank, is_empty, trimmed, unindented}

blank_space : (front : List ℕ) → is_blank (front ++ 32 ∷ []) ≡ is_blank front
blank_space [] = refl
blank_space (b ∷ front) = elim (b == 32) as (λ v. is_empty (if v then unindented (front ++ 32 ∷ []) else b ∷ (front ++ 32 ∷ [])) ≡ is_empty (if v then unindented front else b ∷ front)) [
  | true ↦ blank_space front
  | false ↦ refl
]

trimmed_space : (front : List ℕ) → trimmed (front ++ 32 ∷ []) ≡ trimmed front
trimmed_space [] = refl
trimmed_space (b ∷ front) =
    ap (λ (v : Bool). if v then [] else b ∷ trimmed (front ++ 32 ∷ [])) (blank_space (b ∷ front))
    ∙ ap (λ (t : List ℕ). if is_blank (b ∷ front) then [] else b ∷ t) (trimmed_space front)

full : (front : List ℕ) (b : ℕ) → (b == 32) ≡ false → is_blank (front ++ b ∷ []) ≡ false
full [] b e = ap (λ (v : Bool). is_empty (if v then [] else b ∷ [])) e
full (a ∷ front) b e = elim (a == 32) as (λ v. is_empty (if v then unindented (front ++ b ∷ []) else a ∷ (front ++ b ∷ [])) ≡ false) [
  | true ↦ full front b e
  | false ↦ refl
]

trimmed_whole : (front : List ℕ) (b : ℕ) → (b == 32) ≡ false → trimmed (front ++ b ∷ []) ≡ front ++ b ∷ []
trimmed_whole [] b e = ap (λ (v : Bool). if v then [] else b ∷ []) (full [] b e)
trimmed_whole (a ∷ front) b e =
    ap (λ (v : Bool). if v then [] else a ∷ trimmed (front ++ b ∷ [])) (full (a ∷ front) b e)
    ∙ ap (λ (t : List ℕ). a ∷ t) (trimmed_whole front b e)

-- up to the place and the byte there
ended_by : (text : List ℕ) (n : ℕ) → 0 < n → n ≤ length text → take n text ≡ take (n - 1) text ++ get_or text (n - 1) 0 ∷ []
ended_by text n some l =
    let lt : n - 1 < length text = omega arith in
    let e : n - 1 + 1 ≡ n = omega arith in
    subst (λ (m : ℕ). take m text ≡ take (n - 1) text ++ get_or text (n - 1) 0 ∷ []) e (take_more text (n - 1) 0 lt)

-- a space at the end
pub trimmed_less : (text : List ℕ) (n : ℕ) → 0 < n → n ≤ length text → get_or text (n - 1) 0 ≡ 32 → trimmed (take n text) ≡ trimmed (take (n - 1) text)
trimmed_less text n some l e =
    ap trimmed (ended_by text n some l ∙ ap (λ (b : ℕ). take (n - 1) text ++ b ∷ []) e) ∙ trimmed_space (take (n - 1) text)

-- no space at the end
pub trimmed_all : (text : List ℕ) (n : ℕ) → 0 < n → n ≤ length text → get_or text (n - 1) 0 ≢ 32 → trimmed (take n text) ≡ take n text
trimmed_all text n some l ne =
    let ends = ended_by text n some l in
    ap trimmed ends ∙ trimmed_whole (take (n - 1) text) (get_or text (n - 1) 0) (ne_eqb _ _ ne) ∙ sym ends

pub space_cut : (text : List ℕ) (n : ℕ) → 0 < n → n ≤ length text → get_or text (n - 1) 0 ≡ 32 → IsCharBoundary text (n - 1)
space_cut text n some l e = IsCharBoundary-before_ascii text (n - 1) (omega arith) (omega (arith, e))
