-- Identifiers: their grammar, and the automaton over them.
use Rattle.std.proofs.Common.{◌≡◌, ℕ, Bool, true, false, List, [], ◌∷◌, length, Some, refl, sym, ap, subst, ◌∙◌, arith, inl, inr}
use Rattle.std.specs.Prelude.{◌==◌, ◌&&◌}
use Rattle.std.specs.Char.{is_ascii_digit}
use Rattle.std.proofs.lemmas.Bool.{and_parts, and_right, cases_Bool}
use Rattle.std.proofs.lemmas.Bool.Decides.{nat_tests}
use Rattle.semver.specs.Grammar.{is_build_identifier, is_identifier_byte, is_pre_identifier, has_leading_zero}
use Rattle.semver.specs.Order.{is_numeric}
use Rattle.pn_ranges.specs.declared.fault.Stop.TheVariants.{Byte}
use Rattle.pn_ranges.specs.Bytes.{is_digit, front_of, behind, starts_with}
use Rattle.pn_ranges.specs.Reading.{Spanned}
use Rattle.pn_ranges.specs.Places.{Turn, hyphen, naught, zeros, pre, plus, build, first_fault}
use Rattle.pn_ranges.proofs.FrontOfLemmas.{front-behind, front-all, behind-stops}
use Rattle.pn_ranges.proofs.FirstFaultLemmas.{run}

digit-id : (b : ℕ) → is_digit b ≡ true → is_identifier_byte b ≡ true
digit-id b h = grind (arith, nat_tests)

-- the identifier at the front of a text
pub front-build : (b : ℕ) (rest : List ℕ) → is_identifier_byte b ≡ true → is_build_identifier (b ∷ front_of is_identifier_byte rest) ≡ true
front-build b rest h = rw (h, front-all is_identifier_byte rest) (grind (arith, nat_tests))

-- a front of digits alone ends where the digits do
numeric-ends : (rest : List ℕ) → is_numeric (front_of is_identifier_byte rest) ≡ true → starts_with is_identifier_byte (behind is_digit rest) ≡ false
numeric-ends [] h = refl
numeric-ends (b ∷ rest) h = elim (cases_Bool (is_identifier_byte b)) [
  | inl word ↦ elim (cases_Bool (is_digit b)) [
    | inl digit ↦ rw digit (numeric-ends rest (rw digit at (rw word at h)))
    | inr letter ↦ cc (rw letter at (rw word at h))
  ]
  | inr other ↦ elim (cases_Bool (is_digit b)) [
    | inl digit ↦ cc (sym (digit-id b digit) ∙ other)
    | inr letter ↦ rw letter other
  ]
]

-- behind no digit and in front of no more of it, a leading zero is the whole identifier
zero-ends : (rest : List ℕ) → starts_with is_digit rest ≡ false → is_numeric (front_of is_identifier_byte rest) ≡ true → front_of is_identifier_byte rest ≡ []
zero-ends [] d h = refl
zero-ends (b ∷ rest) d h = elim (cases_Bool (is_identifier_byte b)) [
  | inl word ↦ cc (rw d at (rw word at h))
  | inr other ↦ rw other refl
]

pre-good : (part : List ℕ) → is_build_identifier part ≡ true → (is_numeric part && has_leading_zero part) ≡ false → is_pre_identifier part ≡ true
pre-good part h z = rw (h, z) refl

not_numeric : (b : ℕ) (t : List ℕ) → is_numeric t ≡ false → is_numeric (b ∷ t) ≡ false
not_numeric b t h = and_right (is_ascii_digit b) (is_numeric t) h

front-pre : (b : ℕ) (rest : List ℕ) → is_identifier_byte b ≡ true → ((b == 48) && starts_with is_digit rest) ≡ false → is_pre_identifier (b ∷ front_of is_identifier_byte rest) ≡ true
front-pre b rest h z = pre-good (b ∷ front_of is_identifier_byte rest) (front-build b rest h) (elim (cases_Bool (b == 48)) [
  | inl zero ↦ elim (cases_Bool (is_numeric (front_of is_identifier_byte rest))) [
    | inl numeric ↦
        let none = zero-ends rest (rw zero at z) numeric in
        and_right (is_numeric (b ∷ front_of is_identifier_byte rest)) (has_leading_zero (b ∷ front_of is_identifier_byte rest)) (rw (none, zero) refl)
    | inr word ↦ ap (λ x. x && has_leading_zero (b ∷ front_of is_identifier_byte rest)) (not_numeric b (front_of is_identifier_byte rest) word)
  ]
  | inr other ↦ and_right (is_numeric (b ∷ front_of is_identifier_byte rest)) (has_leading_zero (b ∷ front_of is_identifier_byte rest)) (rw other refl)
])

front-zero : (b : ℕ) (rest : List ℕ) → is_identifier_byte b ≡ true → starts_with is_identifier_byte (behind is_digit rest) ≡ true → is_pre_identifier (b ∷ front_of is_identifier_byte rest) ≡ true
front-zero b rest h z = pre-good (b ∷ front_of is_identifier_byte rest) (front-build b rest h) (elim (cases_Bool (is_numeric (front_of is_identifier_byte rest))) [
  | inl numeric ↦ absurd (let e : true ≡ false = sym z ∙ numeric-ends rest numeric in cc)
  | inr word ↦ ap (λ x. x && has_leading_zero (b ∷ front_of is_identifier_byte rest)) (not_numeric b (front_of is_identifier_byte rest) word)
])

-- digits are identifier bytes
behind-over : (rest : List ℕ) → behind is_identifier_byte rest ≡ behind is_identifier_byte (behind is_digit rest)
behind-over [] = refl
behind-over (b ∷ rest) = elim (cases_Bool (is_digit b)) [
  | inl digit ↦ rw digit (behind-over rest)
  | inr letter ↦ rw letter (rw letter refl)
]

spans : (right : List ℕ → Bool) (text rest : List ℕ) (b : ℕ) → text ≡ b ∷ rest → right (b ∷ front_of is_identifier_byte rest) ≡ true → Spanned right text (behind is_identifier_byte rest)
spans right text rest b t h = record {
  front = b ∷ front_of is_identifier_byte rest;
  split = t ∙ ap (λ r. b ∷ r) (front-behind is_identifier_byte rest);
  passes = h;
}

pub pre-read : (text rest : List ℕ) (b : ℕ) → text ≡ b ∷ rest → is_identifier_byte b ≡ true → ((b == 48) && starts_with is_digit rest) ≡ false → Spanned is_pre_identifier text (behind is_identifier_byte rest)
pre-read text rest b t h z = spans is_pre_identifier text rest b t (front-pre b rest h z)

pub zero-read : (text rest : List ℕ) (b : ℕ) → text ≡ b ∷ rest → is_identifier_byte b ≡ true → starts_with is_identifier_byte (behind is_digit rest) ≡ true
    → Spanned is_pre_identifier text (behind is_identifier_byte (behind is_digit rest))
zero-read text rest b t h z = subst (Spanned is_pre_identifier text) (behind-over rest) (spans is_pre_identifier text rest b t (front-zero b rest h z))

pub build-read : (text rest : List ℕ) (b : ℕ) → text ≡ b ∷ rest → is_identifier_byte b ≡ true → Spanned is_build_identifier text (behind is_identifier_byte rest)
build-read text rest b t h = spans is_build_identifier text rest b t (front-build b rest h)

-- the automaton over identifiers
pre-run : (e : Turn) (text : List ℕ) → first_fault (pre e) text ≡ first_fault (pre e) (behind is_identifier_byte text)
pre-run e = run (pre e) is_identifier_byte (λ b h. rw h refl)

build-run : (e : Turn) (text : List ℕ) → first_fault (build e) text ≡ first_fault (build e) (behind is_identifier_byte text)
build-run e = run (build e) is_identifier_byte (λ b h. rw h refl)

zeros-run : (e : Turn) (text : List ℕ) → first_fault (zeros e) text ≡ first_fault (zeros e) (behind is_digit text)
zeros-run e = run (zeros e) is_digit (λ b h. rw h refl)

naught-pre : (e : Turn) (text : List ℕ) → starts_with is_digit text ≡ false → first_fault (naught e) text ≡ first_fault (pre e) text
naught-pre e [] h = refl
naught-pre e (b ∷ rest) h = rw h refl

naught-zeros : (e : Turn) (text : List ℕ) → starts_with is_digit text ≡ true → first_fault (naught e) text ≡ first_fault (zeros e) (behind is_digit text)
naught-zeros e [] h = cc h
naught-zeros e (b ∷ rest) h = rw h (zeros-run e rest)

zeros-pre : (e : Turn) (text : List ℕ) → starts_with is_digit text ≡ false → starts_with is_identifier_byte text ≡ true → first_fault (zeros e) text ≡ first_fault (pre e) text
zeros-pre e [] d h = cc h
zeros-pre e (b ∷ rest) d h = rw (h, d) refl

zeros-stop : (e : Turn) (text : List ℕ) → starts_with is_digit text ≡ false → starts_with is_identifier_byte text ≡ false → first_fault (zeros e) text ≡ Some (Byte (length text))
zeros-stop e [] d h = refl
zeros-stop e (b ∷ rest) d h = rw (h, d) refl

hyphen-naught : (e : Turn) (rest : List ℕ) (b : ℕ) → (b == 48) ≡ true → first_fault (hyphen e) (b ∷ rest) ≡ first_fault (naught e) rest
hyphen-naught e rest b z = rw z refl

pub pre-goes : (e : Turn) (text rest : List ℕ) (b : ℕ) → text ≡ b ∷ rest → is_identifier_byte b ≡ true → ((b == 48) && starts_with is_digit rest) ≡ false
    → first_fault (hyphen e) text ≡ first_fault (pre e) (behind is_identifier_byte rest)
pre-goes e text rest b t h z = ap (first_fault (hyphen e)) t ∙ elim (cases_Bool (b == 48)) [
  | inl zero ↦ hyphen-naught e rest b zero ∙ naught-pre e rest (rw zero at z) ∙ pre-run e rest
  | inr other ↦ rw (other, h) (pre-run e rest)
]

pub zero-goes : (e : Turn) (text rest : List ℕ) (b : ℕ) → text ≡ b ∷ rest → ((b == 48) && starts_with is_digit rest) ≡ true → starts_with is_identifier_byte (behind is_digit rest) ≡ true
    → first_fault (hyphen e) text ≡ first_fault (pre e) (behind is_identifier_byte (behind is_digit rest))
zero-goes e text rest b t z h =
    ap (first_fault (hyphen e)) t ∙ hyphen-naught e rest b (and_parts _ (starts_with is_digit rest) z).0 ∙ naught-zeros e rest (and_parts (b == 48) _ z).1
    ∙ zeros-pre e (behind is_digit rest) (behind-stops is_digit rest) h ∙ pre-run e (behind is_digit rest)

pub zero-stops : (e : Turn) (text rest : List ℕ) (b : ℕ) → text ≡ b ∷ rest → ((b == 48) && starts_with is_digit rest) ≡ true → starts_with is_identifier_byte (behind is_digit rest) ≡ false
    → first_fault (hyphen e) text ≡ Some (Byte (length (behind is_digit rest)))
zero-stops e text rest b t z h =
    ap (first_fault (hyphen e)) t ∙ hyphen-naught e rest b (and_parts _ (starts_with is_digit rest) z).0 ∙ naught-zeros e rest (and_parts (b == 48) _ z).1
    ∙ zeros-stop e (behind is_digit rest) (behind-stops is_digit rest) h

pub build-goes : (e : Turn) (text rest : List ℕ) (b : ℕ) → text ≡ b ∷ rest → is_identifier_byte b ≡ true → first_fault (plus e) text ≡ first_fault (build e) (behind is_identifier_byte rest)
build-goes e text rest b t h = ap (first_fault (plus e)) t ∙ rw h (build-run e rest)
