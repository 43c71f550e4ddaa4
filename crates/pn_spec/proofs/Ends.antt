-- Spaces at the ends of a text.
use Rattle.std.proofs.Common.{◌≡◌, ◌≢◌, ◌+◌, ◌-◌, ℕ, true, List, [], ◌∷◌, ◌++◌, length, take, drop, Option, Some, None, Bor, refl, sym, ap, ◌∙◌, inl, inr, arith}
use Rattle.std.specs.Prelude.{◌==◌, ◌||◌, ◌⊎◌, MatchOption}
use Rattle.std.specs.Str.Pattern.{FindsCharPrefix, FindsCharSuffix}
use Rattle.std.proofs.lemmas.Bool.{cases_Bool, eqb-true}
use Rattle.std.proofs.lemmas.Str.Pattern.{strip_prefix_char, strip_suffix_char}
use Rattle.pn_ranges.specs.Bytes.{behind, is_space}
use Rattle.pn_spec.specs.SpecTexts.{before_trimmed, trim_end}

space-is : (b : ℕ) → is_space b ≡ true → (b ≡ 32) ⊎ (b ≡ 9)
space-is b s = elim (cases_Bool (b == 32)) [
  | inl hit ↦ inl (eqb-true b 32 hit)
  | inr miss ↦ inr (eqb-true b 9 (sym (ap (λ x. x || (b == 9)) miss) ∙ s))
]

-- no space at the front
pub front-same : (t : List ℕ) → ((rest : List ℕ) → t ≢ 32 ∷ rest) → ((rest : List ℕ) → t ≢ 9 ∷ rest) → behind is_space t ≡ t
front-same [] h k = refl
front-same (b ∷ t) h k = elim (cases_Bool (is_space b)) [
  | inl hit ↦ elim (space-is b hit) [
    | inl e ↦ absurd (h t (ap (λ c. c ∷ t) e))
    | inr e ↦ absurd (k t (ap (λ c. c ∷ t) e))
  ]
  | inr miss ↦ rw miss refl
]

pub front-less : (text rest : List ℕ) (b : ℕ) → is_space b ≡ true → text ≡ b ∷ rest → behind is_space rest ≡ behind is_space text
front-less text rest b s e = sym (ap (behind is_space) e ∙ rw s refl)

-- no space at the end
pub end-same : (t : List ℕ) → ((front : List ℕ) → t ≢ front ++ 32 ∷ []) → ((front : List ℕ) → t ≢ front ++ 9 ∷ []) → trim_end t ≡ t
end-same [] h k = refl
end-same (b ∷ []) h k = elim (cases_Bool (is_space b)) [
  | inl hit ↦ elim (space-is b hit) [
    | inl e ↦ absurd (h [] (ap (λ c. c ∷ []) e))
    | inr e ↦ absurd (k [] (ap (λ c. c ∷ []) e))
  ]
  | inr miss ↦ rw miss refl
]
end-same (b ∷ c ∷ t) h k =
    ap (before_trimmed b) (end-same (c ∷ t) (λ front e. h (b ∷ front) (ap (λ x. b ∷ x) e)) (λ front e. k (b ∷ front) (ap (λ x. b ∷ x) e)))

end-last : (t : List ℕ) (b : ℕ) → is_space b ≡ true → trim_end (t ++ b ∷ []) ≡ trim_end t
end-last [] b s = rw s refl
end-last (c ∷ t) b s = ap (before_trimmed c) (end-last t b s)

pub end-less : (text front : List ℕ) (b : ℕ) → is_space b ≡ true → text ≡ front ++ b ∷ [] → trim_end front ≡ trim_end text
end-less text front b s e = sym (ap trim_end e ∙ end-last front b s)

-- a tab at an end, where no space is there
pub front-case : (text : List ℕ) (r : Option (Bor (List ℕ))) → FindsCharPrefix 32 text None
    → MatchOption r (FindsCharPrefix 9 text None) (λ x. (n : ℕ) × FindsCharPrefix 9 text (Some n) × (x.now ≡ drop n text) × (length x.now + n ≡ length text))
    → MatchOption r (behind is_space text ≡ text) (λ x. (b : ℕ) × (is_space b ≡ true) × (text ≡ b ∷ x.now))
front-case text None h f = front-same text (strip_prefix_char 32 text None h (omega arith)) (strip_prefix_char 9 text None f (omega arith))
front-case text (Some x) h f = (9, refl, strip_prefix_char 9 text (Some x) f (omega arith))

pub end-case : (text : List ℕ) (r : Option (Bor (List ℕ))) → FindsCharSuffix 32 text None
    → MatchOption r (FindsCharSuffix 9 text None) (λ x. (n : ℕ) × FindsCharSuffix 9 text (Some n) × (x.now ≡ take (length text - n) text) × (length x.now + n ≡ length text))
    → MatchOption r (trim_end text ≡ text) (λ x. (b : ℕ) × (is_space b ≡ true) × (text ≡ x.now ++ b ∷ []))
end-case text None h f = end-same text (strip_suffix_char 32 text None h (omega arith)) (strip_suffix_char 9 text None f (omega arith))
end-case text (Some x) h f = (9, refl, strip_suffix_char 9 text (Some x) f (omega arith))
