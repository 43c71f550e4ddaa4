-- What may follow a byte more, in versions.
use Rattle.std.proofs.Common.{◌≡◌, ◌<◌, ◌^◌, ℕ, suc, Bool, true, false, List, [], ◌∷◌, ◌++◌, Option, Some, None, refl, sym, ap, subst, arith, inl, inr, append_assoc, append-nil}
use Rattle.std.specs.Prelude.{◌==◌, ◌&&◌, ◌||◌, not, nat_le, nat_lt}
use Rattle.std.specs.List.{list_all}
use Rattle.std.proofs.lemmas.Bool.{and_parts, and_right, cases_Bool, eqb-true, not-true, or_parts}
use Rattle.std.proofs.lemmas.Bool.Decides.{nat_tests}
use Rattle.semver.specs.Grammar.{is_build_identifier, is_identifier_byte, is_pre_identifier, has_leading_zero}
use Rattle.semver.specs.Order.{is_numeric}
use Rattle.pn_ranges.specs.Bytes.{is_space, is_lead, is_wild, is_digit, front_of, number_at}
use Rattle.pn_ranges.specs.Grammar.{AreIdentifiers, IsEnd, IsNumber, IsPart, IsPartial, IsTail}
use Rattle.pn_ranges.specs.Grammar as g
use Rattle.pn_ranges.specs.Places.{Turn, State, first, later, upper, after, digits, hyphen, naught, zeros, pre, plus, build, step, part_step, end_step, whole_step, pre_step, after_step, is_large, start}
use Rattle.pn_ranges.specs.Table.{named}
use Rattle.pn_ranges.proofs.Follow.{Bar, Builds, Closed, Digits, Ended, Follows, Gap, Gapped, InBuild, InPre, MayBuild, Parted, Pres, Rest, RestOf, Whole, is_behind_zero, is_behind_zeros}
use Rattle.pn_ranges.proofs.Follow as w
use Rattle.pn_ranges.proofs.Parts.{front-number}

pub bar-closed : (b : ℕ) (u : List ℕ) → (b == 124) ≡ true → Bar u → Closed (b ∷ u)
bar-closed b _ h (w.bar u a) = subst (λ z. Closed (z ∷ 124 ∷ u)) (sym (eqb-true b 124 h)) (w.bars u a)

gapped-follows : (b : ℕ) (u : List ℕ) → is_space b ≡ true → Gapped true u → Follows first (b ∷ u)
gapped-follows b _ h (w.gap _ u a) = w.first b u h a
gapped-follows b _ h (w.dashed u a) = w.dashed b u h a

gapped-gap : (m : Bool) (u : List ℕ) → m ≡ false → Gapped m u → Gap u
gapped-gap _ _ h (w.gap _ u a) = a
gapped-gap _ _ h (w.dashed u a) = cc h

after-follows : (e : Turn) (b : ℕ) (text u : List ℕ) → is_space b ≡ true → Rest (after e) text u → Follows e (b ∷ u)
after-follows first b text u h a = gapped-follows b u h a
after-follows later b text u h a = w.later b u h (gapped-gap false u refl a)
after-follows upper b text u h a = w.closed upper (b ∷ u) (w.space b u h a)

pub step-follows : (e : Turn) (b : ℕ) (text u : List ℕ) → RestOf (after_step e b) text u → Follows e (b ∷ u)
step-follows e b text u h = elim (cases_Bool (is_space b)) [
  | inl space ↦ after-follows e b text u space (rw space at h)
  | inr other ↦ elim (cases_Bool (b == 124)) [
    | inl mark ↦ w.closed e (b ∷ u) (bar-closed b u mark (rw (other, mark) at h))
    | inr none ↦ absurd (rw (other, none) at h)
  ]
]

-- a byte in front
pub at-byte : (P : List ℕ → Type 0) (b c : ℕ) (u : List ℕ) → (b == c) ≡ true → P (c ∷ u) → P (b ∷ u)
at-byte P b c u h x = subst (λ z. P (z ∷ u)) (sym (eqb-true b c h)) x

pre-step : (right : List ℕ → Bool) (e : Turn) (b : ℕ) (text u : List ℕ) → right [] ≡ true → RestOf (pre_step e b) text u → InPre right e (b ∷ u)
pre-step right e b text u r h = elim (cases_Bool (b == 46)) [
  | inl dots ↦ at-byte (InPre right e) b 46 u dots (w.dot [] u r (rw dots at h))
  | inr nodot ↦ elim (cases_Bool (b == 43)) [
    | inl mark ↦ at-byte (InPre right e) b 43 u mark (w.ends [] (43 ∷ u) r (w.plus u (rw (nodot, mark) at h)))
    | inr none ↦ w.ends [] (b ∷ u) r (w.none (b ∷ u) (step-follows e b text u (rw (nodot, none) at h)))
  ]
]

in-pre-more : (right wide : List ℕ → Bool) (e : Turn) (b : ℕ) (u : List ℕ) → ((x : List ℕ) → right x ≡ true → wide (b ∷ x) ≡ true) → InPre right e u → InPre wide e (b ∷ u)
in-pre-more right wide e b _ f (w.ends x v h m) = w.ends (b ∷ x) v (f x h) m
in-pre-more right wide e b _ f (w.dot x u h m) = w.dot (b ∷ x) u (f x h) m

in-pre-first : (right : List ℕ → Bool) (e : Turn) (b : ℕ) (u : List ℕ) → ((x : List ℕ) → right x ≡ true → is_pre_identifier (b ∷ x) ≡ true) → InPre right e u → Pres e (b ∷ u)
in-pre-first right e b _ f (w.ends x v h m) = w.pres (b ∷ x) v (g.one (b ∷ x) (f x h)) m
in-pre-first right e b _ f (w.dot x _ h (w.pres t v a m)) =
    subst (Pres e) (append_assoc (b ∷ x) (46 ∷ t) v) (w.pres ((b ∷ x) ++ 46 ∷ t) v (g.more (b ∷ x) t (f x h) a) m)

in-build-more : (e : Turn) (b : ℕ) (u : List ℕ) → is_identifier_byte b ≡ true → InBuild e u → InBuild e (b ∷ u)
in-build-more e b _ y (w.ends x v h m) = w.ends (b ∷ x) v (rw (y, h) refl) m
in-build-more e b _ y (w.dot x u h m) = w.dot (b ∷ x) u (rw (y, h) refl) m

build-good : (b : ℕ) (x : List ℕ) → is_identifier_byte b ≡ true → list_all is_identifier_byte x ≡ true → is_build_identifier (b ∷ x) ≡ true
build-good b x y h = rw (y, h) (grind (arith, nat_tests))

in-build-first : (e : Turn) (b : ℕ) (u : List ℕ) → is_identifier_byte b ≡ true → InBuild e u → Builds e (b ∷ u)
in-build-first e b _ y (w.ends x v h m) = w.builds (b ∷ x) v (g.one (b ∷ x) (build-good b x y h)) m
in-build-first e b _ y (w.dot x _ h (w.builds t v a m)) =
    subst (Builds e) (append_assoc (b ∷ x) (46 ∷ t) v) (w.builds ((b ∷ x) ++ 46 ∷ t) v (g.more (b ∷ x) t (build-good b x y h) a) m)

-- identifiers of pre-releases
pre-good : (x : List ℕ) → is_build_identifier x ≡ true → (is_numeric x && has_leading_zero x) ≡ false → is_pre_identifier x ≡ true
pre-good x h z = rw (h, z) refl

first-good : (b : ℕ) (x : List ℕ) → (b == 48) ≡ false → is_identifier_byte b ≡ true → list_all is_identifier_byte x ≡ true → is_pre_identifier (b ∷ x) ≡ true
first-good b x z y h = pre-good (b ∷ x) (build-good b x y h) (let led : has_leading_zero (b ∷ x) ≡ false = rw z refl in rw led (and_right (is_numeric (b ∷ x)) false refl))

mixed-good : (b : ℕ) (x : List ℕ) → is_identifier_byte b ≡ true → list_all is_identifier_byte x ≡ true → is_numeric x ≡ false → is_pre_identifier (b ∷ x) ≡ true
mixed-good b x y h n = pre-good (b ∷ x) (build-good b x y h) (let mixed : is_numeric (b ∷ x) ≡ false = rw n (and_right _ false refl) in rw mixed refl)

letter-mixed : (c : ℕ) (x : List ℕ) → is_digit c ≡ false → is_numeric (c ∷ x) ≡ false
letter-mixed c x d = rw d refl

number-mixed : (c : ℕ) (x : List ℕ) → is_numeric x ≡ false → is_numeric (c ∷ x) ≡ false
number-mixed c x n = rw n (and_right _ false refl)

digit-word : (b : ℕ) → is_digit b ≡ true → is_identifier_byte b ≡ true
digit-word b h = grind (arith, nat_tests)

zeros-digit : (b : ℕ) (x : List ℕ) → is_digit b ≡ true → is_behind_zeros x ≡ true → is_behind_zeros (b ∷ x) ≡ true
zeros-digit b x d h =
    let mixed = not-true (is_numeric x) (and_parts (list_all is_identifier_byte x) (not (is_numeric x)) h).1 in
    rw (digit-word b d, (and_parts (list_all is_identifier_byte x) (not (is_numeric x)) h).0, number-mixed b x mixed) refl

zeros-letter : (b : ℕ) (x : List ℕ) → is_identifier_byte b ≡ true → is_digit b ≡ false → list_all is_identifier_byte x ≡ true → is_behind_zeros (b ∷ x) ≡ true
zeros-letter b x y d h = let all : list_all is_identifier_byte (b ∷ x) ≡ true = rw (y, h) refl in rw (all, letter-mixed b x d) refl

zero-digit : (b : ℕ) (x : List ℕ) → is_digit b ≡ true → is_behind_zeros x ≡ true → is_behind_zero (b ∷ x) ≡ true
zero-digit b x d h =
    let k = zeros-digit b x d h in
    mixed-good 48 (b ∷ x) refl (and_parts (list_all is_identifier_byte (b ∷ x)) (not (is_numeric (b ∷ x))) k).0
    (not-true (is_numeric (b ∷ x)) (and_parts (list_all is_identifier_byte (b ∷ x)) (not (is_numeric (b ∷ x))) k).1)

zero-letter : (b : ℕ) (x : List ℕ) → is_identifier_byte b ≡ true → is_digit b ≡ false → list_all is_identifier_byte x ≡ true → is_behind_zero (b ∷ x) ≡ true
zero-letter b x y d h = mixed-good 48 (b ∷ x) refl (rw (y, h) refl) (letter-mixed b x d)

pub hyphen-step : (e : Turn) (b : ℕ) (text u : List ℕ) → RestOf (step (hyphen e) b) text u → Pres e (b ∷ u)
hyphen-step e b text u h = elim (cases_Bool (b == 48)) [
  | inl zero ↦ at-byte (Pres e) b 48 u zero (in-pre-first is_behind_zero e 48 u (λ x r. r) (rw zero at h))
  | inr other ↦ elim (cases_Bool (is_identifier_byte b)) [
    | inl word ↦ in-pre-first (list_all is_identifier_byte) e b u (λ x r. first-good b x other word r) (rw (other, word) at h)
    | inr none ↦ absurd (rw (other, none) at h)
  ]
]

pub naught-step : (e : Turn) (b : ℕ) (text u : List ℕ) → RestOf (step (naught e) b) text u → InPre is_behind_zero e (b ∷ u)
naught-step e b text u h = elim (cases_Bool (is_digit b)) [
  | inl digit ↦ in-pre-more is_behind_zeros is_behind_zero e b u (λ x r. zero-digit b x digit r) (rw digit at h)
  | inr letter ↦ elim (cases_Bool (is_identifier_byte b)) [
    | inl word ↦ in-pre-more (list_all is_identifier_byte) is_behind_zero e b u (λ x r. zero-letter b x word letter r) (rw (word, letter) at h)
    | inr none ↦ pre-step is_behind_zero e b text u refl (rw (none, letter) at h)
  ]
]

pub zeros-step : (e : Turn) (b : ℕ) (text u : List ℕ) → RestOf (step (zeros e) b) text u → InPre is_behind_zeros e (b ∷ u)
zeros-step e b text u h = elim (cases_Bool (is_digit b)) [
  | inl digit ↦ in-pre-more is_behind_zeros is_behind_zeros e b u (λ x r. zeros-digit b x digit r) (rw digit at h)
  | inr letter ↦ elim (cases_Bool (is_identifier_byte b)) [
    | inl word ↦ in-pre-more (list_all is_identifier_byte) is_behind_zeros e b u (λ x r. zeros-letter b x word letter r) (rw (word, letter) at h)
    | inr none ↦ absurd (rw (none, letter) at h)
  ]
]

pub pre-step-on : (e : Turn) (b : ℕ) (text u : List ℕ) → RestOf (step (pre e) b) text u → InPre (list_all is_identifier_byte) e (b ∷ u)
pre-step-on e b text u h = elim (cases_Bool (is_identifier_byte b)) [
  | inl word ↦ in-pre-more (list_all is_identifier_byte) (list_all is_identifier_byte) e b u (λ x r. rw (word, r) refl) (rw word at h)
  | inr none ↦ pre-step (list_all is_identifier_byte) e b text u refl (rw none at h)
]

pub plus-step : (e : Turn) (b : ℕ) (text u : List ℕ) → RestOf (step (plus e) b) text u → Builds e (b ∷ u)
plus-step e b text u h = elim (cases_Bool (is_identifier_byte b)) [
  | inl word ↦ in-build-first e b u word (rw word at h)
  | inr none ↦ absurd (rw none at h)
]

pub build-step : (e : Turn) (b : ℕ) (text u : List ℕ) → RestOf (step (build e) b) text u → InBuild e (b ∷ u)
build-step e b text u h = elim (cases_Bool (is_identifier_byte b)) [
  | inl word ↦ in-build-more e b u word (rw word at h)
  | inr other ↦ elim (cases_Bool (b == 46)) [
    | inl dots ↦ at-byte (InBuild e) b 46 u dots (w.dot [] u refl (rw (other, dots) at h))
    | inr none ↦ w.ends [] (b ∷ u) refl (step-follows e b text u (rw (other, none) at h))
  ]
]

-- parts
pub whole-step : (e : Turn) (k b : ℕ) (text u : List ℕ) → RestOf (whole_step e k b) text u → Whole e k (b ∷ u)
whole-step e k b text u h = elim (cases_Bool ((b == 46) && nat_lt k 3)) [
  | inl dots ↦ at-byte (Whole e k) b 46 u (and_parts (b == 46) (nat_lt k 3) dots).0 (dotted (and_parts (b == 46) (nat_lt k 3) dots).1 u (rw dots at h))
  | inr nodot ↦ elim (cases_Bool ((b == 45) && (k == 3))) [
    | inl minus ↦ at-byte (Whole e k) b 45 u (and_parts (b == 45) (k == 3) minus).0 (w.pre k u (and_parts (b == 45) (k == 3) minus).1 (rw (nodot, minus) at h))
    | inr nominus ↦ elim (cases_Bool ((b == 43) && (k == 3))) [
      | inl more ↦ at-byte (Whole e k) b 43 u (and_parts (b == 43) (k == 3) more).0 (w.plus k u (and_parts (b == 43) (k == 3) more).1 (rw (nodot, nominus, more) at h))
      | inr none ↦ w.ends k (b ∷ u) (step-follows e b text u (rw (nodot, nominus, none) at h))
    ]
  ]
] where
  dotted : nat_lt k 3 ≡ true → (u : List ℕ) → Parted e k u → Whole e k (46 ∷ u)
  dotted l _ (w.parted t v a i r) = w.dot k t v a l i r

-- a number in front of the text is below 2^64
abbrev pub Small : Option State → List ℕ → Type 0
Small next text = (s : State) → next ≡ Some s → is_large start s text ≡ false

small-number : (n : ℕ) → nat_le (2 ^ 64) n ≡ false → n < 2 ^ 64
small-number n h = grind (arith, nat_tests)

pub part-step : (e : Turn) (k b : ℕ) (text u : List ℕ) → Small (part_step e k b) (b ∷ text) → RestOf (part_step e k b) text u → Parted e k (b ∷ u)
part-step e k b text u small h = elim (cases_Bool ((b == 48) || is_wild b)) [
  | inl short ↦ elim (cases_Bool (b == 48)) [
    | inl zero ↦ at-byte (Parted e k) b 48 u zero (w.parted (48 ∷ []) u (Some 0) (g.number (48 ∷ []) 0 g.zero (omega arith)) (rw short at h))
    | inr other ↦ w.parted (b ∷ []) u None (g.wild b (rw other at short)) (rw short at h)
  ]
  | inr long ↦ elim (cases_Bool (is_digit b)) [
    | inl digit ↦
        let d : Digits e (suc k) text u = rw (long, digit) at h in
        let same : front_of is_digit (b ∷ text) ≡ b ∷ front_of is_digit text = rw digit refl in
        let fits : nat_le (2 ^ 64) (number_at (b ∷ text)) ≡ false = small (digits e (suc k)) (rw (long, digit) refl) in
        let i : IsPart (b ∷ front_of is_digit text) (Some (number_at (b ∷ text))) =
        subst (λ z. IsPart z (Some (number_at (b ∷ text)))) same
        (g.number (front_of is_digit (b ∷ text)) (number_at (b ∷ text)) (front-number b text digit (or_parts (b == 48) (is_wild b) long).0) (small-number (number_at (b ∷ text)) fits)) in
        subst (λ z. Parted e k (b ∷ z)) (sym d.split) (w.parted (b ∷ front_of is_digit text) d.rest (Some (number_at (b ∷ text))) i d.whole)
    | inr none ↦ absurd (rw (long, none) at h)
  ]
]

pub digits-step : (e : Turn) (k b : ℕ) (text u : List ℕ) → RestOf (step (digits e k) b) text u → Digits e k (b ∷ text) (b ∷ u)
digits-step e k b text u h = elim (cases_Bool (is_digit b)) [
  | inl digit ↦
      let d : Digits e k text u = rw digit at h in
      record { rest = d.rest; split = rw digit (ap (λ z. b ∷ z) d.split); whole = d.whole }
  | inr other ↦ record { rest = b ∷ u; split = rw other refl; whole = whole-step e k b text u (rw other at h) }
]

-- versions from their parts
tail-pre : (e : Turn) (u : List ℕ) → Pres e u → (t1 t2 t3 : List ℕ) (a b c : Option ℕ) → IsPart t1 a → IsPart t2 b → IsPart t3 c
    → Ended e (t1 ++ 46 ∷ (t2 ++ 46 ∷ (t3 ++ 45 ∷ u)))
tail-pre e _ (w.pres t v x (w.none _ f)) t1 t2 t3 a b c i j k =
    let same : (t1 ++ 46 ∷ (t2 ++ 46 ∷ (t3 ++ 45 ∷ (t ++ [])))) ++ v ≡ t1 ++ 46 ∷ (t2 ++ 46 ∷ (t3 ++ 45 ∷ (t ++ v))) = simp (append_assoc, append-nil) in
    subst (Ended e) same (w.ended _ v (named a b c t) (g.end [] _ _ refl (g.three t1 t2 t3 (45 ∷ (t ++ [])) t a b c i j k (g.pre t [] x g.absent))) f)
tail-pre e _ (w.pres t _ x (w.plus _ (w.builds s v y f))) t1 t2 t3 a b c i j k =
    let same : (t1 ++ 46 ∷ (t2 ++ 46 ∷ (t3 ++ 45 ∷ (t ++ 43 ∷ s)))) ++ v ≡ t1 ++ 46 ∷ (t2 ++ 46 ∷ (t3 ++ 45 ∷ (t ++ 43 ∷ (s ++ v)))) = simp append_assoc in
    subst (Ended e) same (w.ended _ v (named a b c t) (g.end [] _ _ refl (g.three t1 t2 t3 (45 ∷ (t ++ 43 ∷ s)) t a b c i j k (g.pre t (43 ∷ s) x (g.build s y)))) f)

three-ended : (e : Turn) (u : List ℕ) → Whole e 3 u → (t1 t2 t3 : List ℕ) (a b c : Option ℕ) → IsPart t1 a → IsPart t2 b → IsPart t3 c
    → Ended e (t1 ++ 46 ∷ (t2 ++ 46 ∷ (t3 ++ u)))
three-ended e _ (w.ends _ v f) t1 t2 t3 a b c i j k =
    let same : (t1 ++ 46 ∷ (t2 ++ 46 ∷ (t3 ++ []))) ++ v ≡ t1 ++ 46 ∷ (t2 ++ 46 ∷ (t3 ++ v)) = simp (append_assoc, append-nil) in
    subst (Ended e) same (w.ended _ v (named a b c []) (g.end [] _ _ refl (g.three t1 t2 t3 [] [] a b c i j k (g.bare [] g.absent))) f)
three-ended e _ (w.dot _ t v x l y r) t1 t2 t3 a b c i j k = absurd (let z : false ≡ true = l in cc)
three-ended e _ (w.pre _ u l p) t1 t2 t3 a b c i j k = tail-pre e u p t1 t2 t3 a b c i j k
three-ended e _ (w.plus _ _ l (w.builds s v y f)) t1 t2 t3 a b c i j k =
    let same : (t1 ++ 46 ∷ (t2 ++ 46 ∷ (t3 ++ 43 ∷ s))) ++ v ≡ t1 ++ 46 ∷ (t2 ++ 46 ∷ (t3 ++ 43 ∷ (s ++ v))) = simp append_assoc in
    subst (Ended e) same (w.ended _ v (named a b c []) (g.end [] _ _ refl (g.three t1 t2 t3 (43 ∷ s) [] a b c i j k (g.bare (43 ∷ s) (g.build s y)))) f)

two-ended : (e : Turn) (u : List ℕ) → Whole e 2 u → (t1 t2 : List ℕ) (a b : Option ℕ) → IsPart t1 a → IsPart t2 b → Ended e (t1 ++ 46 ∷ (t2 ++ u))
two-ended e _ (w.ends _ v f) t1 t2 a b i j = subst (Ended e) (append_assoc t1 (46 ∷ t2) v) (w.ended (t1 ++ 46 ∷ t2) v (named a b None []) (g.end [] (t1 ++ 46 ∷ t2) _ refl (g.two t1 t2 a b i j)) f)
two-ended e _ (w.dot _ t v c l k r) t1 t2 a b i j = three-ended e v r t1 t2 t a b c i j k
two-ended e _ (w.pre _ u l p) t1 t2 a b i j = absurd (let z : false ≡ true = l in cc)
two-ended e _ (w.plus _ u l p) t1 t2 a b i j = absurd (let z : false ≡ true = l in cc)

one-ended : (e : Turn) (u : List ℕ) → Whole e 1 u → (t : List ℕ) (a : Option ℕ) → IsPart t a → Ended e (t ++ u)
one-ended e _ (w.ends _ v f) t a i = w.ended t v (named a None None []) (g.end [] t _ refl (g.one t a i)) f
one-ended e _ (w.dot _ s v b l j r) t a i = two-ended e v r t s a b i j
one-ended e _ (w.pre _ u l p) t a i = absurd (let z : false ≡ true = l in cc)
one-ended e _ (w.plus _ u l p) t a i = absurd (let z : false ≡ true = l in cc)

parted-ended : (e : Turn) (u : List ℕ) → Parted e 0 u → Ended e u
parted-ended e _ (w.parted t v a i r) = one-ended e v r t a i

ended-lead : (e : Turn) (b : ℕ) (u : List ℕ) → is_lead b ≡ true → Ended e u → Ended e (b ∷ u)
ended-lead e b _ h (w.ended _ v _ (g.end l t n all p) f) = w.ended (b ∷ (l ++ t)) v n (g.end (b ∷ l) t n (rw (h, all) refl) p) f

pub end-step : (e : Turn) (b : ℕ) (text u : List ℕ) → Small (end_step e b) (b ∷ text) → RestOf (end_step e b) text u → Ended e (b ∷ u)
end-step e b text u small h = elim (cases_Bool (is_lead b)) [
  | inl mark ↦ ended-lead e b u mark (rw mark at h)
  | inr other ↦ parted-ended e (b ∷ u) (part-step e 0 b text u (rw other at small) (rw other at h))
]
