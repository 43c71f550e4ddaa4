-- Marks of places.
use Rattle.std.proofs.Common.{◌≡◌, ◌<◌, ◌≤◌, ℕ, zero, suc, ◌+◌, List, [], ◌∷◌, length, get_or, set, map, replicate, refl, ap, cond, true, false, arith, inl, inr}
use Rattle.std.specs.Prelude.{◌⊎◌, nat_le}
use Rattle.std.proofs.lemmas.Bool.{leb-true, leb-false, le-leb, lt-leb}
use Rattle.pn_components.specs.declared.walk.Mark.{Mark}
use Rattle.pn_components.specs.declared.walk.Mark.TheVariants.{New, Open, Done}
use Rattle.pn_components.specs.Walks.{mark_of, unmet, work_at, work_in}

-- ---- a place is met

pub unmet-set : (marks : List Mark) (v i : ℕ) → v < length marks → mark_of marks v ≡ New → suc (unmet (set marks v (Open i))) ≡ unmet marks
unmet-set [] v i h e = absurd (omega arith)
unmet-set (New ∷ ms) zero i h e = refl
unmet-set (Open j ∷ ms) zero i h e = (cc)
unmet-set (Done n ∷ ms) zero i h e = (cc)
unmet-set (New ∷ ms) (suc v) i h e = ap suc (unmet-set ms v i (omega arith) e)
unmet-set (Open j ∷ ms) (suc v) i h e = unmet-set ms v i (omega arith) e
unmet-set (Done n ∷ ms) (suc v) i h e = unmet-set ms v i (omega arith) e

new_work : (row : List ℕ) (m : Mark) → m ≡ New → work_at row m ≡ 2 + length row
new_work row m e = ap (work_at row) e

pub work-set : (rows : List (List ℕ)) (marks : List Mark) (v i : ℕ) → v < length rows → v < length marks → mark_of marks v ≡ New
    → work_in rows (set marks v (Open i)) + (2 + length (get_or rows v [])) ≡ work_in rows marks
work-set [] marks v i h k e = absurd (omega arith)
work-set (row ∷ rows) [] v i h k e = absurd (omega arith)
work-set (row ∷ rows) (m ∷ ms) zero i h k e = omega (arith, new_work row m e)
work-set (row ∷ rows) (m ∷ ms) (suc v) i h k e = omega (arith, work-set rows ms v i (omega arith) (omega arith) e)

-- ---- no place is met

pub unmet-replicate : (n : ℕ) → unmet (replicate n New) ≡ n
unmet-replicate zero = refl
unmet-replicate (suc n) = ap suc (unmet-replicate n)

pub mark-replicate : (n v : ℕ) → mark_of (replicate n New) v ≡ New
mark-replicate zero v = refl
mark-replicate (suc n) zero = refl
mark-replicate (suc n) (suc v) = mark-replicate n v

-- ---- a component is closed

-- the mark after places of the stack were closed, from one place up to another
abbrev pub closed_mark : ℕ → ℕ → Mark → Mark
closed_mark first n New = New
closed_mark first n (Open i) = cond (nat_le first i) (Done n) (Open i)
closed_mark first n (Done m) = Done m

pub mark-map : (f : Mark → Mark) → f New ≡ New → (marks : List Mark) (v : ℕ) → mark_of (map f marks) v ≡ f (mark_of marks v)
mark-map f e [] zero = cc
mark-map f e [] (suc v) = cc
mark-map f e (m ∷ ms) zero = refl
mark-map f e (m ∷ ms) (suc v) = mark-map f e ms v

pub from_open : (first n : ℕ) (m : Mark) (i : ℕ) → closed_mark first n m ≡ Open i → (m ≡ Open i) × (i < first)
from_open first n New i e = absurd (cc e)
from_open first n (Done k) i e = absurd (cc e)
from_open first n (Open j) i e = (elim (nat_le first j) as (λ o. nat_le first j ≡ o → cond o (Done n) (Open j) ≡ Open i → (Open j ≡ Open i) × (i < first)) [
  | true ↦ λ t g. absurd (cc g)
  | false ↦ λ t g. (g, let same : j ≡ i = cc g in omega (arith, leb-false first j t, same))
]) refl e

pub from_done : (first n : ℕ) (m : Mark) (k : ℕ) → closed_mark first n m ≡ Done k → (m ≡ Done k) ⊎ ((i : ℕ) × (m ≡ Open i) × (first ≤ i) × (k ≡ n))
from_done first n New k e = absurd (cc e)
from_done first n (Done j) k e = inl e
from_done first n (Open j) k e = (elim (nat_le first j) as (λ o. nat_le first j ≡ o → cond o (Done n) (Open j) ≡ Done k → (Open j ≡ Done k) ⊎ ((i : ℕ) × (Open j ≡ Open i) × (first ≤ i) × (k ≡ n))) [
  | true ↦ λ t g. inr (j, refl, leb-true first j t, let same : n ≡ k = cc g in omega (arith, same))
  | false ↦ λ t g. absurd (cc g)
]) refl e

pub kept_open : (first n i : ℕ) → i < first → closed_mark first n (Open i) ≡ Open i
kept_open first n i h = ap (λ o. cond o (Done n) (Open i)) (lt-leb first i h)

pub now_done : (first n i : ℕ) → first ≤ i → closed_mark first n (Open i) ≡ Done n
now_done first n i h = ap (λ o. cond o (Done n) (Open i)) (le-leb first i h)

closed_new : (first n : ℕ) (m : Mark) (ms : List Mark) (r : ℕ) → unmet (map (closed_mark first n) ms) ≡ unmet ms → unmet (closed_mark first n m ∷ map (closed_mark first n) ms) ≡ unmet (m ∷ ms)
closed_new first n New ms r e = ap suc e
closed_new first n (Done k) ms r e = e
closed_new first n (Open i) ms r e = (elim (nat_le first i) as (λ o. unmet (cond o (Done n) (Open i) ∷ map (closed_mark first n) ms) ≡ unmet ms) [
  | true ↦ e
  | false ↦ e
])

pub unmet-closed : (first n : ℕ) (marks : List Mark) → unmet (map (closed_mark first n) marks) ≡ unmet marks
unmet-closed first n [] = refl
unmet-closed first n (m ∷ ms) = closed_new first n m ms 0 (unmet-closed first n ms)

closed_work : (first n : ℕ) (row : List ℕ) (m : Mark) → work_at row (closed_mark first n m) ≡ work_at row m
closed_work first n row New = refl
closed_work first n row (Done k) = refl
closed_work first n row (Open i) = elim (nat_le first i) as (λ o. work_at row (cond o (Done n) (Open i)) ≡ 0) [ true ↦ refl | false ↦ refl ]

pub work-closed : (first n : ℕ) (rows : List (List ℕ)) (marks : List Mark) → work_in rows (map (closed_mark first n) marks) ≡ work_in rows marks
work-closed first n [] marks = refl
work-closed first n (row ∷ rows) [] = refl
work-closed first n (row ∷ rows) (m ∷ ms) = omega (arith, closed_work first n row m, work-closed first n rows ms)
