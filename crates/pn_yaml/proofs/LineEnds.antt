-- Where lines end.
use Rattle.std.proofs.Common.{◌≡◌, ◌≢◌, ℕ, suc, ◌+◌, ◌<◌, ◌&&◌, Bool, true, false, cond, eqb, List, [], ◌∷◌, ◌++◌, length, get_or, subst, refl, ap, ◌∙◌, arith}
use Rattle.std.proofs.lemmas.Bool.{eqb-true, ne_eqb, and_parts, and_right}
use Rattle.pn_yaml.specs.Rows.{Row, unmarked, unreturned, lines_of, onto_line, numbered, passed, is_passed_over, met, ahead, unopened, first_ahead, is_three}
use Rattle.pn_yaml.specs.Cursor.{without_return}

abbrev row : ℕ → List ℕ → Row
row n bytes = record { line = n; bytes = bytes }

abbrev pub HasNone : ℕ → List ℕ → Type 0
HasNone c t = (i : ℕ) → i < length t → get_or t i 0 ≢ c

HasNone-tail : (c b : ℕ) (t : List ℕ) → HasNone c (b ∷ t) → HasNone c t
HasNone-tail c b t h i lt = h (suc i) (omega arith)

first_is : (c b : ℕ) (t : List ℕ) → HasNone c (b ∷ t) → eqb b c ≡ false
first_is c b t h = ne_eqb b c (h 0 (omega arith))

chop_one : (b : ℕ) (e : Bool) (rest : List ℕ) → eqb b 13 ≡ e → eqb b 10 ≡ false
    → lines_of (cond (e && true) (10 ∷ unreturned rest) (b ∷ 10 ∷ unreturned rest)) ≡ cond (e && true) [] (b ∷ []) ∷ lines_of (unreturned rest)
chop_one b true rest e f = refl
chop_one b false rest e f = rw f refl

pub lines_front : (x rest : List ℕ) → HasNone 10 x → lines_of (unreturned (x ++ 10 ∷ rest)) ≡ without_return x ∷ lines_of (unreturned rest)
lines_front [] rest h = refl
lines_front (b ∷ []) rest h = chop_one b (eqb b 13) rest refl (first_is 10 b [] h)
lines_front (b ∷ c ∷ x) rest h =
    let no : eqb b 10 ≡ false = first_is 10 b (c ∷ x) h in
    let nc : eqb c 10 ≡ false = first_is 10 c x (HasNone-tail 10 b (c ∷ x) h) in
    let ih : lines_of (unreturned ((c ∷ x) ++ 10 ∷ rest)) ≡ without_return (c ∷ x) ∷ lines_of (unreturned rest) = lines_front (c ∷ x) rest (HasNone-tail 10 b (c ∷ x) h) in
    rw (nc, and_right (eqb b 13) false refl, no) (ap (onto_line b) ih)

unreturned_none : (x : List ℕ) → HasNone 10 x → unreturned x ≡ x
unreturned_none [] h = refl
unreturned_none (b ∷ []) h = rw (and_right (eqb b 13) false refl) refl
unreturned_none (b ∷ c ∷ x) h =
    let nc : eqb c 10 ≡ false = first_is 10 c x (HasNone-tail 10 b (c ∷ x) h) in
    rw (nc, and_right (eqb b 13) false refl) (ap (λ (t : List ℕ). b ∷ t) (unreturned_none (c ∷ x) (HasNone-tail 10 b (c ∷ x) h)))

lines_none : (b : ℕ) (x : List ℕ) → HasNone 10 (b ∷ x) → lines_of (b ∷ x) ≡ (b ∷ x) ∷ []
lines_none b [] h = rw (first_is 10 b [] h) refl
lines_none b (c ∷ x) h = rw (first_is 10 b (c ∷ x) h) (ap (onto_line b) (lines_none c x (HasNone-tail 10 b (c ∷ x) h)))

pub lines_last : (x : List ℕ) → 0 < length x → HasNone 10 x → lines_of (unreturned x) ≡ x ∷ []
lines_last [] lt h = absurd (omega arith)
lines_last (b ∷ x) lt h = ap lines_of (unreturned_none (b ∷ x) h) ∙ lines_none b x h

pub without_return-push : (x : List ℕ) → without_return (x ++ 13 ∷ []) ≡ x
without_return-push [] = refl
without_return-push (b ∷ []) = rw (and_right (eqb b 13) false refl) refl
without_return-push (b ∷ c ∷ x) = rw (and_right (eqb b 13) false refl) (ap (λ (t : List ℕ). b ∷ t) (without_return-push (c ∷ x)))

pub without_return-none : (x : List ℕ) → ((front : List ℕ) → x ≢ front ++ 13 ∷ []) → without_return x ≡ x
without_return-none [] h = refl
without_return-none (b ∷ []) h =
    let no : eqb b 13 ≡ false = ne_eqb b 13 (λ e. h [] (ap (λ (c : ℕ). c ∷ []) e)) in
    rw no refl
without_return-none (b ∷ c ∷ x) h =
    rw (and_right (eqb b 13) false refl) (ap (λ (t : List ℕ). b ∷ t) (without_return-none (c ∷ x) (λ front e. h (b ∷ front) (ap (λ (t : List ℕ). b ∷ t) e))))

mark_step : (a b c : ℕ) (t : List ℕ) (m : Bool) → (eqb a 239 && eqb b 187 && eqb c 191) ≡ m → (((rest : List ℕ) → a ∷ b ∷ c ∷ t ≢ 239 ∷ 187 ∷ 191 ∷ rest)) → cond m t (a ∷ b ∷ c ∷ t) ≡ a ∷ b ∷ c ∷ t
mark_step a b c t false e h = refl
mark_step a b c t true e h =
    let p = and_parts (eqb a 239 && eqb b 187) (eqb c 191) e in
    let q = and_parts (eqb a 239) (eqb b 187) p.0 in
    let x : a ≡ 239 = eqb-true a 239 q.0 in
    let y : b ≡ 187 = eqb-true b 187 q.1 in
    let z : c ≡ 191 = eqb-true c 191 p.1 in
    absurd (h t (cc))

pub unmarked-none : (t : List ℕ) → ((rest : List ℕ) → t ≢ 239 ∷ 187 ∷ 191 ∷ rest) → unmarked t ≡ t
unmarked-none [] h = refl
unmarked-none (a ∷ []) h = refl
unmarked-none (a ∷ b ∷ []) h = refl
unmarked-none (a ∷ b ∷ c ∷ t) h = mark_step a b c t (eqb a 239 && eqb b 187 && eqb c 191) refl h

pub numbered_next : (n : ℕ) (t w rest : List ℕ) (number : ℕ) (bytes : List ℕ) (k : ℕ) → lines_of (unreturned t) ≡ w ∷ lines_of (unreturned rest) → number ≡ n → bytes ≡ w → k ≡ n + 1
    → numbered n (lines_of (unreturned t)) ≡ row number bytes ∷ numbered k (lines_of (unreturned rest))
numbered_next n t w rest number bytes k e m b s =
    let next : k ≡ suc n = omega arith in
    ap (numbered n) e ∙ rw (m, b, next) refl

pub passed_same : (rows : List Row) (r : Row) (below : List Row) → passed rows ≡ r ∷ below → is_passed_over r ≡ false
passed_same [] r below e = absurd cc
passed_same (s ∷ rows) r below e =
    elim (is_passed_over s) as (λ o. is_passed_over s ≡ o → cond o (passed rows) (s ∷ rows) ≡ r ∷ below → is_passed_over r ≡ false) [
      | true ↦ λ o f. passed_same rows r below f
      | false ↦ λ o f. let same : s ≡ r = cc in subst (λ (x : Row). is_passed_over x ≡ false) same o
    ] refl e

pub passed_other : (r : Row) (below : List Row) → is_passed_over r ≡ false → passed (r ∷ below) ≡ r ∷ below
passed_other r below over = rw over refl

unopened_other : (r : Row) (below : List Row) → is_three 45 r.bytes ≡ false → unopened (r ∷ below) ≡ r ∷ below
unopened_other r below other = rw other refl

pub first_ahead_same : (rows : List Row) (r : Row) (below : List Row) → passed rows ≡ r ∷ below → is_three 45 r.bytes ≡ false → first_ahead rows ≡ met (r ∷ below)
first_ahead_same rows r below e other =
    ap (λ (x : List Row). ahead (unopened x)) e ∙ ap ahead (unopened_other r below other) ∙ ap met (passed_other r below (passed_same rows r below e))
