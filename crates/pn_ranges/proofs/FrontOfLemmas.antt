-- The front of a text for which a test holds, and numbers.
use Rattle.std.proofs.Common.{◌≡◌, ◌≤◌, ◌<◌, ◌*◌, ◌+◌, ◌-◌, ℕ, Bool, true, false, List, [], ◌∷◌, ◌++◌, length, refl, ap, ◌∙◌, arith, inl, inr, length-append}
use Rattle.std.specs.List.{list_all}
use Rattle.std.proofs.lemmas.Bool.{cases_Bool}
use Rattle.pn_ranges.specs.Bytes.{is_digit, front_of, behind, starts_with, number_from}

pub front-behind : (test : ℕ → Bool) (text : List ℕ) → text ≡ front_of test text ++ behind test text
front-behind test [] = refl
front-behind test (b ∷ rest) = elim (cases_Bool (test b)) [
  | inl holds ↦ rw holds (ap (λ r. b ∷ r) (front-behind test rest))
  | inr fails ↦ rw fails refl
]

pub front-all : (test : ℕ → Bool) (text : List ℕ) → list_all test (front_of test text) ≡ true
front-all test [] = refl
front-all test (b ∷ rest) = elim (cases_Bool (test b)) [
  | inl holds ↦ rw holds (rw holds (front-all test rest))
  | inr fails ↦ rw fails refl
]

pub behind-stops : (test : ℕ → Bool) (text : List ℕ) → starts_with test (behind test text) ≡ false
behind-stops test [] = refl
behind-stops test (b ∷ rest) = elim (cases_Bool (test b)) [
  | inl holds ↦ rw holds (behind-stops test rest)
  | inr fails ↦ rw fails fails
]

-- a text at which a test stops at once
pub behind-same : (test : ℕ → Bool) (text : List ℕ) → starts_with test text ≡ false → behind test text ≡ text
behind-same test [] h = refl
behind-same test (b ∷ rest) h = rw h refl

pub behind-next : (test : ℕ → Bool) (b : ℕ) (rest : List ℕ) → test b ≡ true → behind test (b ∷ rest) ≡ behind test rest
behind-next test b rest h = rw h refl

-- a text that begins with bytes for which a test holds
pub behind-append : (test : ℕ → Bool) (s text : List ℕ) → list_all test s ≡ true → behind test (s ++ text) ≡ behind test text
behind-append test [] text h = refl
behind-append test (b ∷ s) text h = elim (cases_Bool (test b)) [
  | inl holds ↦ rw holds (behind-append test s text (rw holds at h))
  | inr fails ↦ cc (rw fails at h)
]

pub number-next : (n b : ℕ) (rest : List ℕ) → is_digit b ≡ true → number_from n (b ∷ rest) ≡ number_from (n * 10 + (b - 48)) rest
unfolding number_from
number-next n b rest h = rw h refl

pub number-stops : (n : ℕ) (text : List ℕ) → starts_with is_digit text ≡ false → number_from n text ≡ n
unfolding number_from
number-stops n [] h = refl
number-stops n (b ∷ rest) h = rw h refl

-- digits only make a number larger
pub number-grows : (text : List ℕ) (n : ℕ) → n ≤ number_from n text
unfolding number_from
number-grows [] n = omega arith
number-grows (b ∷ rest) n = elim (cases_Bool (is_digit b)) [
  | inl holds ↦ let h = number-grows rest (n * 10 + (b - 48)) in rw holds (omega arith)
  | inr fails ↦ rw fails (omega arith)
]

-- a number is that of its digits
pub number-front : (text : List ℕ) (n : ℕ) → number_from n (front_of is_digit text) ≡ number_from n text
unfolding number_from
number-front [] n = refl
number-front (b ∷ rest) n = elim (cases_Bool (is_digit b)) [
  | inl holds ↦ rw holds (rw holds (number-front rest (n * 10 + (b - 48))))
  | inr fails ↦ rw fails refl
]

pub behind-le : (test : ℕ → Bool) (text : List ℕ) → length (behind test text) ≤ length text
behind-le test [] = omega arith
behind-le test (b ∷ rest) = elim (cases_Bool (test b)) [
  | inl holds ↦ let h = behind-le test rest in rw holds (omega arith)
  | inr fails ↦ rw fails (omega arith)
]

pub behind-shorter : (test : ℕ → Bool) (text rest back : List ℕ) (b : ℕ) → text ≡ b ∷ rest → test b ≡ true → back ≡ behind test text → length back < length text
behind-shorter test text rest back b t h e =
    let same : back ≡ behind test rest = e ∙ ap (behind test) t ∙ behind-next test b rest h in
    let s = ap (λ (x : List ℕ). length x) same in
    let l = ap (λ (x : List ℕ). length x) t in
    let k = behind-le test rest in
    omega arith

pub append-le : (text front rest : List ℕ) → text ≡ front ++ rest → length rest ≤ length text
append-le text front rest t = let l = ap (λ (x : List ℕ). length x) t ∙ length-append front rest in omega arith
