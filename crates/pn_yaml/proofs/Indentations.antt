-- The spaces that a text begins with.
use Rattle.std.proofs.Common.{◌≡◌, ◌≢◌, ℕ, zero, suc, ◌+◌, ◌<◌, ◌≤◌, Bool, true, false, cond, eqb, List, [], ◌∷◌, length, get_or, drop, refl, arith}
use Rattle.std.specs.Str.{IsUtf8, IsCharBoundary}
use Rattle.std.proofs.lemmas.Bool.{eqb-true, eq-eqb, ne_eqb}
use Rattle.std.proofs.lemmas.Str.{IsCharBoundary-start, IsCharBoundary-after_ascii}
use Rattle.pn_yaml.specs.Bytes.{indentation, unindented}

pub indentation_step : (t : List ℕ) (i : ℕ) → i < length t → get_or t i 0 ≡ 32 → indentation (drop i t) ≡ suc (indentation (drop (suc i) t))
indentation_step [] i lt e = absurd (omega arith)
indentation_step (b ∷ t) zero lt e = rw (eq-eqb b 32 e) refl
indentation_step (b ∷ t) (suc i) lt e = indentation_step t i (omega arith) e

pub indentation_stop : (t : List ℕ) (i : ℕ) → i < length t → get_or t i 0 ≢ 32 → indentation (drop i t) ≡ 0
indentation_stop [] i lt e = absurd (omega arith)
indentation_stop (b ∷ t) zero lt e = rw (ne_eqb b 32 e) refl
indentation_stop (b ∷ t) (suc i) lt e = indentation_stop t i (omega arith) e

pub indentation_end : (t : List ℕ) (i : ℕ) → length t ≤ i → indentation (drop i t) ≡ 0
indentation_end [] zero le = refl
indentation_end [] (suc i) le = refl
indentation_end (b ∷ t) zero le = absurd (omega arith)
indentation_end (b ∷ t) (suc i) le = indentation_end t i (omega arith)

step-le : (c : Bool) (n m : ℕ) → n ≤ m → cond c (suc n) 0 ≤ suc m
step-le true n m h = omega arith
step-le false n m h = omega arith

pub indentation-le : (t : List ℕ) → indentation t ≤ length t
indentation-le [] = omega arith
indentation-le (b ∷ t) = step-le (eqb b 32) (indentation t) (length t) (indentation-le t)

unindented_step : (c : Bool) (b : ℕ) (t : List ℕ) → drop (indentation t) t ≡ unindented t → drop (cond c (suc (indentation t)) 0) (b ∷ t) ≡ cond c (unindented t) (b ∷ t)
unindented_step true b t h = h
unindented_step false b t h = refl

pub drop_indentation : (t : List ℕ) → drop (indentation t) t ≡ unindented t
drop_indentation [] = refl
drop_indentation (b ∷ t) = unindented_step (eqb b 32) b t (drop_indentation t)

space_step : (c : Bool) (b : ℕ) (t : List ℕ) (j : ℕ) → (c ≡ true → b ≡ 32) → ((i : ℕ) → i < indentation t → get_or t i 0 ≡ 32) → j < cond c (suc (indentation t)) 0 → get_or (b ∷ t) j 0 ≡ 32
space_step true b t zero is ih h = is refl
space_step true b t (suc j) is ih h = ih j (omega arith)
space_step false b t j is ih h = absurd (omega arith)

pub space_at : (t : List ℕ) (j : ℕ) → j < indentation t → get_or t j 0 ≡ 32
space_at [] j h = absurd (omega arith)
space_at (b ∷ t) j h = space_step (eqb b 32) b t j (eqb-true b 32) (space_at t) h

pub spaces_boundary : (t : List ℕ) (k : ℕ) → IsUtf8 t → k ≤ indentation t → IsCharBoundary t k
spaces_boundary t zero u h = IsCharBoundary-start t u
spaces_boundary t (suc j) u h =
    let lt : j < length t = omega (arith, indentation-le t) in
    let is : get_or t j 0 ≡ 32 = space_at t j (omega arith) in
    let e : j + 1 ≡ suc j = omega arith in
    rw e at (IsCharBoundary-after_ascii t j u lt (omega arith))
