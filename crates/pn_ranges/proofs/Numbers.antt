-- Where a number begins: behind no digit, and where a wildcard may stand too.
use Rattle.std.proofs.Common.{◌≡◌, ℕ, suc, Bool, true, false, Option, Some, None, refl, sym, ap, ◌∙◌, arith, inl, inr}
use Rattle.std.specs.Prelude.{◌==◌, ◌&&◌, ◌||◌, nat_lt, if◌then◌else◌}
use Rattle.std.proofs.lemmas.Bool.{and_right, cases_Bool, eqb-true}
use Rattle.std.proofs.lemmas.Bool.Decides.{nat_tests}
use Rattle.semver.specs.Grammar.{is_identifier_byte}
use Rattle.pn_ranges.specs.Bytes.{is_space, is_lead, is_wild, is_digit}
use Rattle.pn_ranges.specs.Places.{Turn, State, after, after_step, comparator_step, end_step, is_digits, operand_step, part_step, pre_step, step, whole_step}
use Rattle.pn_ranges.specs.Places as p
use Rattle.pn_ranges.proofs.Accepts.{on_some}

-- where a part may begin
abbrev pub opens : State → Bool
opens p.start = true
opens (p.gap m) = true
opens p.far = true
opens (p.sign joins) = true
opens (p.equal e) = true
opens p.operand = true
opens (p.lead e) = true
opens (p.dot e k) = true
opens s = false

-- no digit makes an operator longer
abbrev pub ill : State → Bool
ill (p.sign joins) = is_digit joins
ill s = false

pick : (c : Bool) (x y : Option State) (f : State → Bool) → on_some x f ≡ false → on_some y f ≡ false → on_some (if c then x else y) f ≡ false
pick true x y f h k = h
pick false x y f h k = k

skip : (c : Bool) (x y : Option State) (f : State → Bool) → c ≡ false → on_some y f ≡ false → on_some (if c then x else y) f ≡ false
skip true x y f h k = cc h
skip false x y f h k = k

-- elsewhere no number begins
after-digits : (e : Turn) (b : ℕ) → on_some (after_step e b) is_digits ≡ false
after-digits e b = pick (is_space b) (Some (after e)) _ is_digits (turn e) (pick (b == 124) (Some p.bar) None is_digits refl refl) where
  turn : (e : Turn) → is_digits (after e) ≡ false
  turn p.first = refl
  turn p.later = refl
  turn p.upper = refl

whole-digits : (e : Turn) (k b : ℕ) → on_some (whole_step e k b) is_digits ≡ false
whole-digits e k b =
    pick ((b == 46) && nat_lt k 3) (Some (p.dot e k)) _ is_digits refl
    (pick ((b == 45) && (k == 3)) (Some (p.hyphen e)) _ is_digits refl (pick ((b == 43) && (k == 3)) (Some (p.plus e)) (after_step e b) is_digits refl (after-digits e b)))

pre-digits : (e : Turn) (b : ℕ) → on_some (pre_step e b) is_digits ≡ false
pre-digits e b = pick (b == 46) (Some (p.hyphen e)) _ is_digits refl (pick (b == 43) (Some (p.plus e)) (after_step e b) is_digits refl (after-digits e b))

pub closed-digits : (s : State) (b : ℕ) → opens s ≡ false → is_digits s ≡ false → on_some (step s b) is_digits ≡ false
closed-digits p.closed b o d = pick (is_space b) (Some p.closed) _ is_digits refl (pick (b == 124) (Some p.bar) None is_digits refl refl)
closed-digits p.bar b o d = pick (b == 124) (Some p.start) None is_digits refl refl
closed-digits p.dash b o d = pick (is_space b) (Some p.far) None is_digits refl refl
closed-digits (p.whole e k) b o d = whole-digits e k b
closed-digits (p.hyphen e) b o d = pick (b == 48) (Some (p.naught e)) _ is_digits refl (pick (is_identifier_byte b) (Some (p.pre e)) None is_digits refl refl)
closed-digits (p.naught e) b o d =
    pick (is_digit b) (Some (p.zeros e)) _ is_digits refl (pick (is_identifier_byte b) (Some (p.pre e)) (pre_step e b) is_digits refl (pre-digits e b))
closed-digits (p.zeros e) b o d = pick (is_digit b) (Some (p.zeros e)) _ is_digits refl (pick (is_identifier_byte b) (Some (p.pre e)) None is_digits refl refl)
closed-digits (p.pre e) b o d = pick (is_identifier_byte b) (Some (p.pre e)) (pre_step e b) is_digits refl (pre-digits e b)
closed-digits (p.plus e) b o d = pick (is_identifier_byte b) (Some (p.build e)) None is_digits refl refl
closed-digits (p.build e) b o d =
    pick (is_identifier_byte b) (Some (p.build e)) _ is_digits refl (pick (b == 46) (Some (p.plus e)) (after_step e b) is_digits refl (after-digits e b))
closed-digits (p.digits e k) b o d = cc d
closed-digits s b o d = cc o

-- behind a digit no part begins
digit-space : (b : ℕ) → is_digit b ≡ true → is_space b ≡ false
digit-space b h = grind (arith, nat_tests)

digit-lead : (b : ℕ) → is_digit b ≡ true → is_lead b ≡ false
digit-lead b h = grind (arith, nat_tests)

digit-angle : (b : ℕ) → is_digit b ≡ true → ((b == 60) || (b == 62)) ≡ false
digit-angle b h = grind (arith, nat_tests)

digit-126 : (b : ℕ) → is_digit b ≡ true → (b == 126) ≡ false
digit-126 b h = grind (arith, nat_tests)

digit-94 : (b : ℕ) → is_digit b ≡ true → (b == 94) ≡ false
digit-94 b h = grind (arith, nat_tests)

digit-61 : (b : ℕ) → is_digit b ≡ true → (b == 61) ≡ false
digit-61 b h = grind (arith, nat_tests)

digit-124 : (b : ℕ) → is_digit b ≡ true → (b == 124) ≡ false
digit-124 b h = grind (arith, nat_tests)

digit-45 : (b : ℕ) → is_digit b ≡ true → (b == 45) ≡ false
digit-45 b h = grind (arith, nat_tests)

digit-46 : (b : ℕ) → is_digit b ≡ true → (b == 46) ≡ false
digit-46 b h = grind (arith, nat_tests)

digit-other : (b c : ℕ) → is_digit b ≡ true → is_digit c ≡ false → (b == c) ≡ false
digit-other b c h k = elim (cases_Bool (b == c)) [
  | inr other ↦ other
  | inl same ↦ absurd (let x : true ≡ false = sym h ∙ ap is_digit (eqb-true b c same) ∙ k in cc x)
]

part-shut : (e : Turn) (k b : ℕ) → on_some (part_step e k b) opens ≡ false
part-shut e k b = pick ((b == 48) || is_wild b) (Some (p.whole e (suc k))) _ opens refl (pick (is_digit b) (Some (p.digits e (suc k))) None opens refl refl)

end-shut : (e : Turn) (b : ℕ) → is_digit b ≡ true → on_some (end_step e b) opens ≡ false
end-shut e b d = skip (is_lead b) (Some (p.lead e)) (part_step e 0 b) opens (digit-lead b d) (part-shut e 0 b)

comparator-shut : (e : Turn) (b : ℕ) → is_digit b ≡ true → on_some (comparator_step e b) opens ≡ false
comparator-shut e b d =
    skip ((b == 60) || (b == 62)) (Some (p.sign 61)) _ opens (digit-angle b d)
    (skip (b == 126) (Some (p.sign 62)) _ opens (digit-126 b d)
    (skip (b == 94) (Some p.operand) _ opens (digit-94 b d) (skip (b == 61) (Some (p.equal e)) (end_step e b) opens (digit-61 b d) (end-shut e b d))))

operand-shut : (b : ℕ) → is_digit b ≡ true → on_some (operand_step b) opens ≡ false
operand-shut b d = skip (is_space b) (Some p.operand) (end_step p.later b) opens (digit-space b d) (end-shut p.later b d)

after-shut : (e : Turn) (b : ℕ) → is_digit b ≡ true → on_some (after_step e b) opens ≡ false
after-shut e b d = skip (is_space b) (Some (after e)) _ opens (digit-space b d) (skip (b == 124) (Some p.bar) None opens (digit-124 b d) refl)

whole-shut : (e : Turn) (k b : ℕ) → is_digit b ≡ true → on_some (whole_step e k b) opens ≡ false
whole-shut e k b d =
    skip ((b == 46) && nat_lt k 3) (Some (p.dot e k)) _ opens (rw (digit-46 b d) refl)
    (pick ((b == 45) && (k == 3)) (Some (p.hyphen e)) _ opens refl (pick ((b == 43) && (k == 3)) (Some (p.plus e)) (after_step e b) opens refl (after-shut e b d)))

pre-shut : (e : Turn) (b : ℕ) → is_digit b ≡ true → on_some (pre_step e b) opens ≡ false
pre-shut e b d = pick (b == 46) (Some (p.hyphen e)) _ opens refl (pick (b == 43) (Some (p.plus e)) (after_step e b) opens refl (after-shut e b d))

pub digit-shut : (s : State) (b : ℕ) → ill s ≡ false → is_digit b ≡ true → on_some (step s b) opens ≡ false
digit-shut p.start b w d =
    skip (is_space b) (Some p.start) _ opens (digit-space b d) (skip (b == 124) (Some p.bar) (comparator_step p.first b) opens (digit-124 b d) (comparator-shut p.first b d))
digit-shut (p.gap m) b w d =
    skip (is_space b) (Some (p.gap m)) _ opens (digit-space b d)
    (skip (b == 124) (Some p.bar) _ opens (digit-124 b d)
    (skip (m && (b == 45)) (Some p.dash) (comparator_step p.later b) opens (and_right m (b == 45) (digit-45 b d)) (comparator-shut p.later b d)))
digit-shut p.closed b w d = skip (is_space b) (Some p.closed) _ opens (digit-space b d) (skip (b == 124) (Some p.bar) None opens (digit-124 b d) refl)
digit-shut p.bar b w d = skip (b == 124) (Some p.start) None opens (digit-124 b d) refl
digit-shut p.dash b w d = skip (is_space b) (Some p.far) None opens (digit-space b d) refl
digit-shut p.far b w d = skip (is_space b) (Some p.far) (end_step p.upper b) opens (digit-space b d) (end-shut p.upper b d)
digit-shut (p.sign joins) b w d = skip (b == joins) (Some p.operand) (operand_step b) opens (digit-other b joins d w) (operand-shut b d)
digit-shut (p.equal e) b w d = skip (is_space b) (Some p.operand) (end_step e b) opens (digit-space b d) (end-shut e b d)
digit-shut p.operand b w d = operand-shut b d
digit-shut (p.lead e) b w d = end-shut e b d
digit-shut (p.dot e k) b w d = part-shut e k b
digit-shut (p.whole e k) b w d = whole-shut e k b d
digit-shut (p.digits e k) b w d = pick (is_digit b) (Some (p.digits e k)) (whole_step e k b) opens refl (whole-shut e k b d)
digit-shut (p.hyphen e) b w d = pick (b == 48) (Some (p.naught e)) _ opens refl (pick (is_identifier_byte b) (Some (p.pre e)) None opens refl refl)
digit-shut (p.naught e) b w d =
    pick (is_digit b) (Some (p.zeros e)) _ opens refl (pick (is_identifier_byte b) (Some (p.pre e)) (pre_step e b) opens refl (pre-shut e b d))
digit-shut (p.zeros e) b w d = pick (is_digit b) (Some (p.zeros e)) _ opens refl (pick (is_identifier_byte b) (Some (p.pre e)) None opens refl refl)
digit-shut (p.pre e) b w d = pick (is_identifier_byte b) (Some (p.pre e)) (pre_step e b) opens refl (pre-shut e b d)
digit-shut (p.plus e) b w d = pick (is_identifier_byte b) (Some (p.build e)) None opens refl refl
digit-shut (p.build e) b w d =
    pick (is_identifier_byte b) (Some (p.build e)) _ opens refl (pick (b == 46) (Some (p.plus e)) (after_step e b) opens refl (after-shut e b d))

-- which operators are made longer
after-well : (e : Turn) (b : ℕ) → on_some (after_step e b) ill ≡ false
after-well e b = pick (is_space b) (Some (after e)) _ ill (turn e) (pick (b == 124) (Some p.bar) None ill refl refl) where
  turn : (e : Turn) → ill (after e) ≡ false
  turn p.first = refl
  turn p.later = refl
  turn p.upper = refl

part-well : (e : Turn) (k b : ℕ) → on_some (part_step e k b) ill ≡ false
part-well e k b = pick ((b == 48) || is_wild b) (Some (p.whole e (suc k))) _ ill refl (pick (is_digit b) (Some (p.digits e (suc k))) None ill refl refl)

end-well : (e : Turn) (b : ℕ) → on_some (end_step e b) ill ≡ false
end-well e b = pick (is_lead b) (Some (p.lead e)) (part_step e 0 b) ill refl (part-well e 0 b)

comparator-well : (e : Turn) (b : ℕ) → on_some (comparator_step e b) ill ≡ false
comparator-well e b =
    pick ((b == 60) || (b == 62)) (Some (p.sign 61)) _ ill refl
    (pick (b == 126) (Some (p.sign 62)) _ ill refl (pick (b == 94) (Some p.operand) _ ill refl (pick (b == 61) (Some (p.equal e)) (end_step e b) ill refl (end-well e b))))

operand-well : (b : ℕ) → on_some (operand_step b) ill ≡ false
operand-well b = pick (is_space b) (Some p.operand) (end_step p.later b) ill refl (end-well p.later b)

whole-well : (e : Turn) (k b : ℕ) → on_some (whole_step e k b) ill ≡ false
whole-well e k b =
    pick ((b == 46) && nat_lt k 3) (Some (p.dot e k)) _ ill refl
    (pick ((b == 45) && (k == 3)) (Some (p.hyphen e)) _ ill refl (pick ((b == 43) && (k == 3)) (Some (p.plus e)) (after_step e b) ill refl (after-well e b)))

pre-well : (e : Turn) (b : ℕ) → on_some (pre_step e b) ill ≡ false
pre-well e b = pick (b == 46) (Some (p.hyphen e)) _ ill refl (pick (b == 43) (Some (p.plus e)) (after_step e b) ill refl (after-well e b))

pub stays-well : (s : State) (b : ℕ) → on_some (step s b) ill ≡ false
stays-well p.start b = pick (is_space b) (Some p.start) _ ill refl (pick (b == 124) (Some p.bar) (comparator_step p.first b) ill refl (comparator-well p.first b))
stays-well (p.gap m) b =
    pick (is_space b) (Some (p.gap m)) _ ill refl (pick (b == 124) (Some p.bar) _ ill refl (pick (m && (b == 45)) (Some p.dash) (comparator_step p.later b) ill refl (comparator-well p.later b)))
stays-well p.closed b = pick (is_space b) (Some p.closed) _ ill refl (pick (b == 124) (Some p.bar) None ill refl refl)
stays-well p.bar b = pick (b == 124) (Some p.start) None ill refl refl
stays-well p.dash b = pick (is_space b) (Some p.far) None ill refl refl
stays-well p.far b = pick (is_space b) (Some p.far) (end_step p.upper b) ill refl (end-well p.upper b)
stays-well (p.sign joins) b = pick (b == joins) (Some p.operand) (operand_step b) ill refl (operand-well b)
stays-well (p.equal e) b = pick (is_space b) (Some p.operand) (end_step e b) ill refl (end-well e b)
stays-well p.operand b = operand-well b
stays-well (p.lead e) b = end-well e b
stays-well (p.dot e k) b = part-well e k b
stays-well (p.whole e k) b = whole-well e k b
stays-well (p.digits e k) b = pick (is_digit b) (Some (p.digits e k)) (whole_step e k b) ill refl (whole-well e k b)
stays-well (p.hyphen e) b = pick (b == 48) (Some (p.naught e)) _ ill refl (pick (is_identifier_byte b) (Some (p.pre e)) None ill refl refl)
stays-well (p.naught e) b = pick (is_digit b) (Some (p.zeros e)) _ ill refl (pick (is_identifier_byte b) (Some (p.pre e)) (pre_step e b) ill refl (pre-well e b))
stays-well (p.zeros e) b = pick (is_digit b) (Some (p.zeros e)) _ ill refl (pick (is_identifier_byte b) (Some (p.pre e)) None ill refl refl)
stays-well (p.pre e) b = pick (is_identifier_byte b) (Some (p.pre e)) (pre_step e b) ill refl (pre-well e b)
stays-well (p.plus e) b = pick (is_identifier_byte b) (Some (p.build e)) None ill refl refl
stays-well (p.build e) b = pick (is_identifier_byte b) (Some (p.build e)) _ ill refl (pick (b == 46) (Some (p.plus e)) (after_step e b) ill refl (after-well e b))

-- where a part may begin a wildcard may stand
pub record Wild (s : State) : Type 0 where
  pub next : State
  pub goes : step s 42 ≡ Some next
  pub tame : is_digits next ≡ false

pub wild : (s : State) → opens s ≡ true → Wild s
wild p.start o = record { next = p.whole p.first 1; goes = refl; tame = refl }
wild (p.gap true) o = record { next = p.whole p.later 1; goes = refl; tame = refl }
wild (p.gap false) o = record { next = p.whole p.later 1; goes = refl; tame = refl }
wild p.far o = record { next = p.whole p.upper 1; goes = refl; tame = refl }
wild (p.sign joins) o = elim (cases_Bool (42 == joins)) [
  | inl same ↦ record { next = p.operand; goes = rw same refl; tame = refl }
  | inr other ↦ record { next = p.whole p.later 1; goes = rw other refl; tame = refl }
]
wild (p.equal e) o = record { next = p.whole e 1; goes = refl; tame = refl }
wild p.operand o = record { next = p.whole p.later 1; goes = refl; tame = refl }
wild (p.lead e) o = record { next = p.whole e 1; goes = refl; tame = refl }
wild (p.dot e k) o = record { next = p.whole e (suc k); goes = refl; tame = refl }
wild s o = cc o
