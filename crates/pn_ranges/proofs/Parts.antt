-- Parts of versions: their grammar, and the automaton over them.
use Rattle.std.proofs.Common.{◌≡◌, ◌≤◌, ◌<◌, ◌^◌, ◌*◌, ◌+◌, ◌-◌, ℕ, suc, true, false, List, [], ◌∷◌, ◌++◌, Some, None, refl, sym, ap, subst, ◌∙◌, arith}
use Rattle.std.specs.Prelude.{◌==◌}
use Rattle.std.proofs.lemmas.Bool.Decides.{nat_tests}
use Rattle.pn_ranges.specs.Bytes.{is_wild, is_digit, front_of, behind, number_at, number_from}
use Rattle.pn_ranges.specs.Grammar.{IsNumber, IsPart}
use Rattle.pn_ranges.specs.Reading.{Begins}
use Rattle.pn_ranges.specs.Grammar as g
use Rattle.pn_ranges.specs.Places.{Turn, dot, whole, digits, part_step, is_large, first_fault}
use Rattle.pn_ranges.proofs.FrontOfLemmas.{front-behind, front-all, behind-stops, number-front, number-next, number-grows}
use Rattle.pn_ranges.proofs.FirstFaultLemmas.{fault-step, digits-run, digits-whole}

pub number-value : (n b : ℕ) (text rest : List ℕ) (all : ℕ) → number_from n text ≡ all → text ≡ b ∷ rest → is_digit b ≡ true → number_from (n * 10 + (b - 48)) rest ≡ all
number-value n b text rest all v t d = sym (number-next n b rest d) ∙ ap (number_from n) (sym t) ∙ v

-- a digit more makes a number too large
pub number-large : (n b : ℕ) (text rest : List ℕ) (all : ℕ) → number_from n text ≡ all → text ≡ b ∷ rest → is_digit b ≡ true → 2 ^ 64 ≤ n * 10 + (b - 48) → 2 ^ 64 ≤ all
number-large n b text rest all v t d l =
    let e = ap (number_from n) t ∙ number-next n b rest d in
    let m = number-grows rest (n * 10 + (b - 48)) in
    omega arith

pub zero-part : (text rest : List ℕ) (b : ℕ) → text ≡ b ∷ rest → b ≡ 48 → Begins IsPart text (Some 0) rest
zero-part text rest b t z = record {
  front = 48 ∷ [];
  split = t ∙ ap (λ x. x ∷ rest) z;
  spelled = g.number (48 ∷ []) 0 g.zero (omega arith);
}

pub wild-part : (text rest : List ℕ) (b : ℕ) → text ≡ b ∷ rest → is_wild b ≡ true → Begins IsPart text None rest
wild-part text rest b t w = record { front = b ∷ []; split = t; spelled = g.wild b w }

-- the digits at the front of a text are a number
pub front-number : (b : ℕ) (rest : List ℕ) → is_digit b ≡ true → (b == 48) ≡ false → IsNumber (front_of is_digit (b ∷ rest)) (number_at (b ∷ rest))
front-number b rest d z =
    let n : IsNumber (b ∷ front_of is_digit rest) (number_at (b ∷ front_of is_digit rest)) = g.counted b (front_of is_digit rest) d z (front-all is_digit rest) in
    let e : front_of is_digit (b ∷ rest) ≡ b ∷ front_of is_digit rest = rw d refl in
    subst (IsNumber (front_of is_digit (b ∷ rest))) (number-front (b ∷ rest) 0) (subst (λ t. IsNumber t (number_at t)) (sym e) n)

pub number-part : (text rest back : List ℕ) (b n : ℕ) → text ≡ b ∷ rest → is_digit b ≡ true → (b == 48) ≡ false → n ≡ number_at text → n < 2 ^ 64
    → back ≡ behind is_digit text → Begins IsPart text (Some n) back
number-part text rest back b n t d z v small r = record {
  front = front_of is_digit text;
  split = front-behind is_digit text ∙ ap (λ x. front_of is_digit text ++ x) (sym r);
  spelled = g.number (front_of is_digit text) n (subst (λ x. IsNumber (front_of is_digit text) x) (sym v) (subst (λ x. IsNumber (front_of is_digit x) (number_at x)) (sym t) (front-number b rest d z))) small;
}

-- the automaton over a number
pub number-goes : (e : Turn) (k : ℕ) (text rest back : List ℕ) (b : ℕ) → text ≡ b ∷ rest → is_digit b ≡ true → (b == 48) ≡ false → is_wild b ≡ false
    → number_at text < 2 ^ 64 → back ≡ behind is_digit text → first_fault (dot e k) text ≡ first_fault (whole e (suc k)) back
number-goes e k text rest back b t d z w small r =
    let next : part_step e k b ≡ Some (digits e (suc k)) = rw (z, w, d) refl in
    let same : number_at text ≡ number_at (b ∷ rest) = ap number_at t in
    let low : is_large (dot e k) (digits e (suc k)) (b ∷ rest) ≡ false = grind (arith, nat_tests) in
    let tail : behind is_digit (b ∷ rest) ≡ behind is_digit rest = rw d refl in
    ap (first_fault (dot e k)) t ∙ fault-step (dot e k) (digits e (suc k)) b rest next low
    ∙ digits-run e (suc k) rest ∙ ap (first_fault (digits e (suc k))) (sym tail ∙ ap (behind is_digit) (sym t))
    ∙ digits-whole e (suc k) (behind is_digit text) (behind-stops is_digit text) ∙ ap (first_fault (whole e (suc k))) (sym r)
