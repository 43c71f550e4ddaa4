-- The parts of a folder's text.
use Rattle.std.proofs.Common.{◌≡◌, ◌≢◌, ℕ, suc, ◌<◌, ◌+◌, List, [], ◌∷◌, ◌++◌, length, get_or, refl, sym, ap, ◌∙◌, subst, true, false, cond, arith, append_assoc, append-nil, Some, None, length-append}
use Rattle.std.specs.Prelude.{◌==◌, MatchOption, Option, bytes_eq, codes, drop}
use Rattle.std.specs.List.{list_any}
use Rattle.std.specs.Borrow.{Bor}
use Rattle.std.proofs.lemmas.Bool.{eqb-true}
use Rattle.std.proofs.lemmas.Str.Pattern.{IsSplitOnceResult, split_parts}
use Rattle.std.proofs.lemmas.Slice.Eq.{bytes_eq-Decides}
use Rattle.pn_text.specs.Path.{Path, parts_from, tail_of, text_below}
use Rattle.pn_text.specs.Relative.{dots, slashes, IsSteps}
use Rattle.pn_text.proofs.Bools.{left_false, right_false}
use Rattle.pn_text.proofs.Bytes.{no_slash}
use Rattle.pn_text.proofs.Joins.{text_below-append}
use Rattle.pn_lock_print.specs.FolderParts.{HaveParted, folder_parts, onto_first, parts_of, parts_left}
use Rattle.pn_lock_print.specs.TargetTexts.{turned, steps_to, steps_text}

-- bytes before the first part
abbrev front : List ℕ → Path → Path
front x [] = x ∷ []
front x (y ∷ p) = (x ++ y) ∷ p

front_more : (x : List ℕ) (b : ℕ) (p : Path) → front (x ++ b ∷ []) p ≡ front x (onto_first b p)
front_more x b [] = refl
front_more x b (y ∷ p) = ap (λ z. z ∷ p) (append_assoc x (b ∷ []) y)

front_onto : (b : ℕ) (p : Path) → front [] (onto_first b p) ≡ onto_first b p
front_onto b [] = refl
front_onto b (y ∷ p) = refl

front_none : (text : List ℕ) → front [] (parts_of text) ≡ parts_of text
front_none [] = refl
front_none (b ∷ bs) = elim (b == 47) as (λ c. front [] (cond c ([] ∷ parts_of bs) (onto_first b (parts_of bs))) ≡ cond c ([] ∷ parts_of bs) (onto_first b (parts_of bs))) [
  | true ↦ refl
  | false ↦ front_onto b (parts_of bs)
]

-- the last part first, and the first part first
turned_from : (text x : List ℕ) (p : Path) → turned (parts_from (x ∷ p) text) [] ≡ turned p (front x (parts_of text))
turned_from [] x p = ap (λ z. turned p (z ∷ [])) (sym (append-nil x))
turned_from (b ∷ bs) x p = elim (b == 47) as (λ c. turned (parts_from (cond c ([] ∷ x ∷ p) ((x ++ b ∷ []) ∷ p)) bs) [] ≡ turned p (front x (cond c ([] ∷ parts_of bs) (onto_first b (parts_of bs))))) [
  | true ↦ turned_from bs [] (x ∷ p) ∙ ap (λ q. turned p (x ∷ q)) (front_none bs) ∙ ap (λ z. turned p (z ∷ parts_of bs)) (sym (append-nil x))
  | false ↦ turned_from bs (x ++ b ∷ []) p ∙ ap (turned p) (front_more x b (parts_of bs))
]

pub parts_turned : (text : List ℕ) → turned (tail_of text) [] ≡ parts_of text
parts_turned text = turned_from text [] [] ∙ front_none text

pub below_parts : (folder : List ℕ) → bytes_eq folder (codes ".") ≡ false → parts_of folder ≡ folder_parts folder
below_parts folder h = sym (parts_turned folder) ∙ ap (λ c. turned (cond c [] (tail_of folder)) []) (sym h)

-- ---- a text that is cut at its first slash

parts_flat : (x : List ℕ) → list_any (λ b. b == 47) x ≡ false → parts_of x ≡ x ∷ []
parts_flat [] h = refl
parts_flat (b ∷ bs) h =
    ap (λ c. cond c ([] ∷ parts_of bs) (onto_first b (parts_of bs))) (left_false (b == 47) (list_any (λ b. b == 47) bs) h)
    ∙ ap (onto_first b) (parts_flat bs (right_false (b == 47) (list_any (λ b. b == 47) bs) h))

parts_cut : (x rest : List ℕ) → list_any (λ b. b == 47) x ≡ false → parts_of (x ++ 47 ∷ rest) ≡ x ∷ parts_of rest
parts_cut [] rest h = refl
parts_cut (b ∷ bs) rest h =
    ap (λ c. cond c ([] ∷ parts_of (bs ++ 47 ∷ rest)) (onto_first b (parts_of (bs ++ 47 ∷ rest)))) (left_false (b == 47) (list_any (λ b. b == 47) bs) h)
    ∙ ap (onto_first b) (parts_cut bs rest (right_false (b == 47) (list_any (λ b. b == 47) bs) h))

pub first_is : (text : List ℕ) (r : Option (Bor (List ℕ) × Bor (List ℕ))) → IsSplitOnceResult 47 text r
    → MatchOption r (parts_of text ≡ text ∷ []) (λ x. (parts_of text ≡ x.0.now ∷ parts_of x.1.now) × (length x.1.now < length text))
first_is text r h = cut text r (split_parts 47 text r h (omega arith)) where
  cut : (text : List ℕ) (r : Option (Bor (List ℕ) × Bor (List ℕ)))
      → MatchOption r ((i : ℕ) → i < length text → get_or text i 0 ≢ 47) (λ x. (text ≡ x.0.now ++ 47 ∷ x.1.now) × ((i : ℕ) → i < length x.0.now → get_or x.0.now i 0 ≢ 47))
      → MatchOption r (parts_of text ≡ text ∷ []) (λ x. (parts_of text ≡ x.0.now ∷ parts_of x.1.now) × (length x.1.now < length text))
  cut text None h = parts_flat text (no_slash text h)
  cut text (Some x) h = (
    ap parts_of h.0 ∙ parts_cut x.0.now x.1.now (no_slash x.0.now h.1),
    omega (arith, ap length h.0, length-append x.0.now (47 ∷ x.1.now)),
  )

-- ---- the steps between two folders

-- each part after a slash, the first part first
abbrev slashed : Path → List ℕ
slashed [] = []
slashed (x ∷ p) = 47 ∷ (x ++ slashed p)

slashed_onto : (b : ℕ) (p : Path) (text : List ℕ) → slashed p ≡ 47 ∷ text → slashed (onto_first b p) ≡ 47 ∷ b ∷ text
slashed_onto b [] text h = cc
slashed_onto b (y ∷ p) text h = let e : y ++ slashed p ≡ text = cc in ap (λ t. 47 ∷ b ∷ t) e

slashed_parts : (text : List ℕ) → slashed (parts_of text) ≡ 47 ∷ text
slashed_parts [] = refl
slashed_parts (b ∷ bs) = elim (b == 47) as (λ c. (b == 47) ≡ c → slashed (cond c ([] ∷ parts_of bs) (onto_first b (parts_of bs))) ≡ 47 ∷ b ∷ bs) [
  | true ↦ λ is. ap (λ t. 47 ∷ t) (slashed_parts bs) ∙ ap (λ c. 47 ∷ c ∷ bs) (sym (eqb-true b 47 is))
  | false ↦ λ is. slashed_onto b (parts_of bs) bs (slashed_parts bs)
] refl

below_turned : (p q : Path) → text_below (turned p q) ≡ text_below q ++ slashed p
below_turned [] q = sym (append-nil (text_below q))
below_turned (x ∷ p) q = below_turned p (x ∷ q) ∙ append_assoc (text_below q) (47 ∷ x) (slashed p)

onto_length : (b : ℕ) (p : Path) (n : ℕ) → length p ≡ suc n → length (onto_first b p) ≡ suc n
onto_length b [] n h = cc
onto_length b (y ∷ p) n h = h

pub parts_length : (text : List ℕ) → length (parts_of text) ≡ suc (slashes text)
parts_length [] = refl
parts_length (b ∷ bs) = elim (b == 47) as (λ c. length (cond c ([] ∷ parts_of bs) (onto_first b (parts_of bs))) ≡ suc ((cond c 1 0) + slashes bs)) [
  | true ↦ omega (arith, parts_length bs)
  | false ↦ omega (arith, onto_length b (parts_of bs) (slashes bs) (parts_length bs))
]

pub steps_parted : (ups downs : Path) → HaveParted ups downs → steps_to ups downs ≡ turned downs [] ++ dots (length ups)
steps_parted [] downs h = sym (append-nil (turned downs []))
steps_parted (x ∷ ups) [] h = refl
steps_parted (x ∷ ups) (y ∷ downs) h = elim (bytes_eq x y) as (λ c. bytes_eq x y ≡ c → cond c (steps_to ups downs) (turned (y ∷ downs) [] ++ dots (suc (length ups))) ≡ turned (y ∷ downs) [] ++ dots (suc (length ups))) [
  | true ↦ λ is. absurd (h ((bytes_eq-Decides x y).0 is))
  | false ↦ λ is. refl
] refl

pub steps_same : (x y : List ℕ) (ups downs : Path) → x ≡ y → steps_to (x ∷ ups) (y ∷ downs) ≡ steps_to ups downs
steps_same x y ups downs h = ap (λ c. cond c (steps_to ups downs) (turned (y ∷ downs) [] ++ dots (suc (length ups)))) ((bytes_eq-Decides x y).1 h)

-- the text of steps up and then down
pub way_down : (ups : Path) (text : List ℕ) → HaveParted ups (parts_of text) → text_below (steps_to ups (parts_of text)) ≡ text_below (dots (length ups)) ++ 47 ∷ text
way_down ups text h =
    ap text_below (steps_parted ups (parts_of text) h) ∙ text_below-append (turned (parts_of text) []) (dots (length ups))
    ∙ ap (λ t. text_below (dots (length ups)) ++ t) (below_turned (parts_of text) [] ∙ slashed_parts text)

pub way_up : (ups : Path) → HaveParted ups [] → text_below (steps_to ups []) ≡ text_below (dots (length ups))
way_up ups h = ap text_below (steps_parted ups [] h)

-- the text of steps
pub steps_one : (p : Path) (text : List ℕ) → IsSteps p text → text ≡ steps_text p
steps_one [] text h = h
steps_one (x ∷ p) text h = ap (drop 1) h

pub way_some : (ups from to a b : Path) (downs : Option (List ℕ)) (text out : List ℕ) → downs ≡ Some text → HaveParted ups (parts_left downs) → steps_to ups (parts_left downs) ≡ steps_to from to → from ≡ a → to ≡ b
    → out ≡ (text_below (dots (length ups)) ++ 47 ∷ []) ++ text → out ≡ text_below (steps_to a b)
way_some ups from to a b downs text out is apart same f t e =
    let d : parts_left downs ≡ parts_of text = ap parts_left is in
    e ∙ append_assoc (text_below (dots (length ups))) (47 ∷ []) text ∙ sym (way_down ups text (subst (HaveParted ups) d apart)) ∙ ap (λ p. text_below (steps_to ups p)) (sym d)
    ∙ ap text_below (same ∙ ap (λ p. steps_to p to) f ∙ ap (steps_to a) t)

pub way_none : (ups from to a b : Path) (downs : Option (List ℕ)) (out : List ℕ) → downs ≡ None → HaveParted ups (parts_left downs) → steps_to ups (parts_left downs) ≡ steps_to from to → from ≡ a → to ≡ b
    → out ≡ text_below (dots (length ups)) → out ≡ text_below (steps_to a b)
way_none ups from to a b downs out is apart same f t e =
    let d : parts_left downs ≡ [] = ap parts_left is in
    e ∙ sym (way_up ups (subst (HaveParted ups) d apart)) ∙ ap (λ p. text_below (steps_to ups p)) (sym d) ∙ ap text_below (same ∙ ap (λ p. steps_to p to) f ∙ ap (steps_to a) t)
