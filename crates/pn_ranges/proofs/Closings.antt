-- Where versions and ranges end.
use Rattle.std.proofs.Common.{◌≡◌, ℕ, true, false, List, [], ◌∷◌, ◌++◌, refl, sym, ap, ◌∙◌, inl, inr}
use Rattle.std.specs.Prelude.{◌==◌}
use Rattle.std.specs.List.{list_all}
use Rattle.std.proofs.lemmas.Bool.{and_parts, cases_Bool}
use Rattle.pn_ranges.specs.Bytes.{is_body, is_space, behind, starts_with}
use Rattle.pn_ranges.specs.Grammar.{AreGaps, AreSpaces}
use Rattle.pn_ranges.specs.Table.{Named, any, full, major, minor, all_fit, between, upper_limits}
use Rattle.pn_ranges.specs.Unread.{Closes, ends_range}
use Rattle.pn_ranges.proofs.Same.{behind-all}

-- behind a version
pub ends-body : (r : List ℕ) → ends_range r ≡ true → starts_with is_body r ≡ false
ends-body [] h = refl
ends-body (b ∷ r) h = elim (cases_Bool (is_space b)) [
  | inl space ↦ rw space refl
  | inr other ↦ rw (other, h) refl
]

pub closes-body : (r : List ℕ) → Closes r → starts_with is_body r ≡ false
closes-body [] h = refl
closes-body (b ∷ r) h = elim (cases_Bool (is_space b)) [
  | inl space ↦ rw space refl
  | inr other ↦ let bar : (b == 124) ≡ true = rw other at h in rw (other, bar) refl
]

pub apart-body : (s r : List ℕ) → AreSpaces s → (ends_range r ≡ false → starts_with is_space s ≡ true) → starts_with is_body (s ++ r) ≡ false
apart-body [] r a h = elim (cases_Bool (ends_range r)) [
  | inl ends ↦ ends-body r ends
  | inr more ↦ absurd (let y : false ≡ true = h more in cc)
]
apart-body (b ∷ s) r a h = rw (and_parts (is_space b) (list_all is_space s) a).0 refl

pub gap-body : (s r : List ℕ) → AreGaps s → starts_with is_body (s ++ r) ≡ false
gap-body [] r a = absurd (let y : false ≡ true = a.some in cc)
gap-body (b ∷ s) r a = rw a.some refl

pub closes-spaces : (r tail : List ℕ) → AreSpaces r → starts_with is_space tail ≡ false → ends_range tail ≡ true → Closes (r ++ tail)
closes-spaces r tail a h e = ap ends_range (behind-all is_space r tail a h) ∙ e

pub gap-starts : (s r : List ℕ) → AreGaps s → starts_with is_space (s ++ r) ≡ true
gap-starts [] r a = absurd (let y : false ≡ true = a.some in cc)
gap-starts (b ∷ s) r a = a.some

-- what is behind the spaces behind a version
pub gap-whole : (mid rest : List ℕ) → rest ≡ behind is_space mid → (starts_with is_space mid ≡ false → ends_range rest ≡ true) → starts_with is_body mid ≡ false
gap-whole [] rest r h = refl
gap-whole (b ∷ mid) rest r h = elim (cases_Bool (is_space b)) [
  | inl space ↦ rw space refl
  | inr other ↦ let same : rest ≡ b ∷ mid = r ∙ rw other refl in ends-body (b ∷ mid) (sym (ap ends_range same) ∙ h other)
]

pub between-upper : (low high : Named) → all_fit (between low high) ≡ true → all_fit (upper_limits high) ≡ true
between-upper any any h = refl
between-upper any (major a) h = h
between-upper any (minor a b) h = h
between-upper any (full a b c p) h = h
between-upper (major a) high h = (and_parts _ (all_fit (upper_limits high)) h).1
between-upper (minor a b) high h = (and_parts _ (all_fit (upper_limits high)) h).1
between-upper (full a b c p) high h = (and_parts _ (all_fit (upper_limits high)) h).1
