-- The automaton goes through each text in the form of range sets.
use Rattle.std.proofs.Common.{◌≡◌, ℕ, suc, Bool, true, false, List, [], ◌∷◌, ◌++◌, length, Option, Some, None, refl, sym, ap, subst, ◌∙◌, arith, inl, inr, append_assoc}
use Rattle.std.specs.Prelude.{◌==◌, ◌&&◌, not, nat_le, nat_lt, ◌<◌, ◌^◌, ◌*◌, ◌+◌, ◌-◌}
use Rattle.std.specs.List.{list_all}
use Rattle.std.proofs.lemmas.Bool.{and_parts, cases_Bool, not-false, not-true, or_parts}
use Rattle.std.proofs.lemmas.Bool.Decides.{nat_tests}
use Rattle.semver.specs.Grammar.{is_identifier_byte}
use Rattle.pn_ranges.specs.Bytes.{is_space, is_lead, is_wild, is_digit, is_stop, number_at, number_from, starts_with}
use Rattle.semver.specs.Grammar.{is_build_identifier, is_pre_identifier, has_leading_zero}
use Rattle.semver.specs.Order.{is_numeric}
use Rattle.pn_ranges.specs.Grammar.{AreGaps, AreIdentifiers, AreSpaces, IsBuild, IsComparator, IsEnd, IsNumber, IsPart, IsPartial, IsSign, IsTail}
use Rattle.pn_ranges.specs.Grammar as g
use Rattle.pn_ranges.specs.Table.{Named}
use Rattle.pn_ranges.specs.Places.{Turn, State, lead, dot, whole, digits, hyphen, naught, zeros, pre, plus, build, step, part_step, end_step, whole_step, pre_step, after_step, may_end, is_digits, is_large}

abbrev pub on_some : Option State → (State → Bool) → Bool
on_some None f = false
on_some (Some s) f = f s

-- whether no number of 2^64 or more begins with this step
abbrev pub small : State → State → List ℕ → Bool
small s next text = not (is_large s next text)

-- the same where no number goes on
abbrev pub fresh : State → List ℕ → Bool
fresh next text = not (is_digits next && true && nat_le (2 ^ 64) (number_at text))

-- whether the automaton goes through a text and may end behind it
abbrev pub accepts : State → List ℕ → Bool
accepts s [] = may_end s
accepts s (b ∷ rest) = on_some (step s b) (λ n. small s n (b ∷ rest) && accepts n rest)

-- the same for one step of one's own
abbrev pub goes : Bool → (ℕ → Option State) → List ℕ → Bool
goes may f [] = may
goes may f (b ∷ rest) = on_some (f b) (λ n. fresh n (b ∷ rest) && accepts n rest)

-- a step that goes on wherever another does
pub by-more : (may might : Bool) (f g : ℕ → Option State) (test : ℕ → Bool) → (may ≡ true → might ≡ true)
    → ((b : ℕ) → test b ≡ false → f b ≡ None) → ((b : ℕ) → test b ≡ true → g b ≡ f b)
    → (text : List ℕ) → goes may f text ≡ true → goes might g text ≡ true
by-more may might f g test ends none same [] h = ends h
by-more may might f g test ends none same (b ∷ rest) h = elim (cases_Bool (test b)) [
  | inl holds ↦ ap (λ o. on_some o (λ n. fresh n (b ∷ rest) && accepts n rest)) (same b holds) ∙ h
  | inr fails ↦ absurd (let x : false ≡ true = ap (λ o. on_some o (λ n. fresh n (b ∷ rest) && accepts n rest)) (sym (none b fails)) ∙ h in cc)
]

pub accepts-goes : (s : State) (text : List ℕ) → is_digits s ≡ false → goes (may_end s) (step s) text ≡ accepts s text
accepts-goes s [] d = refl
accepts-goes s (b ∷ rest) d = ap (λ v. on_some (step s b) (λ n. not (is_digits n && not v && nat_le (2 ^ 64) (number_at (b ∷ rest))) && accepts n rest)) (sym d)

never-large : (d x : Bool) → not (d && not d && x) ≡ true
never-large true x = refl
never-large false x = refl

no-large : (d x : Bool) → not (d && false && x) ≡ true
no-large true x = refl
no-large false x = refl

-- bytes at which the automaton stays where it is
pub stays-on : (s : State) (test : ℕ → Bool) → ((b : ℕ) → test b ≡ true → step s b ≡ Some s) → (run rest : List ℕ) → list_all test run ≡ true
    → accepts s rest ≡ true → accepts s (run ++ rest) ≡ true
stays-on s test stay [] rest all h = h
stays-on s test stay (b ∷ run) rest all h = elim (cases_Bool (test b)) [
  | inl holds ↦
      ap (λ o. on_some o (λ n. small s n (b ∷ (run ++ rest)) && accepts n (run ++ rest))) (stay b holds)
      ∙ ap (λ v. v && accepts s (run ++ rest)) (never-large (is_digits s) (nat_le (2 ^ 64) (number_at (b ∷ (run ++ rest)))))
      ∙ stays-on s test stay run rest (rw holds at all) h
  | inr fails ↦ absurd (let x : false ≡ true = rw fails at all in cc)
]

-- the bytes of one kind are none of another
pub stop-digit : (b : ℕ) → is_stop b ≡ true → is_digit b ≡ false
stop-digit b h = grind (arith, nat_tests)

stop-word : (b : ℕ) → is_stop b ≡ true → is_identifier_byte b ≡ false
stop-word b h = grind (arith, nat_tests)

stop-46 : (b : ℕ) → is_stop b ≡ true → (b == 46) ≡ false
stop-46 b h = grind (arith, nat_tests)

stop-45 : (b : ℕ) → is_stop b ≡ true → (b == 45) ≡ false
stop-45 b h = grind (arith, nat_tests)

stop-43 : (b : ℕ) → is_stop b ≡ true → (b == 43) ≡ false
stop-43 b h = grind (arith, nat_tests)

word-stop : (b : ℕ) → is_identifier_byte b ≡ true → is_stop b ≡ false
word-stop b h = grind (arith, nat_tests)

word-46 : (b : ℕ) → is_identifier_byte b ≡ true → (b == 46) ≡ false
word-46 b h = grind (arith, nat_tests)

word-43 : (b : ℕ) → is_identifier_byte b ≡ true → (b == 43) ≡ false
word-43 b h = grind (arith, nat_tests)

digit-wild : (b : ℕ) → is_digit b ≡ true → is_wild b ≡ false
digit-wild b h = grind (arith, nat_tests)

digit-45 : (b : ℕ) → is_digit b ≡ true → (b == 45) ≡ false
digit-45 b h = grind (arith, nat_tests)

digit-word : (b : ℕ) → is_digit b ≡ true → is_identifier_byte b ≡ true
digit-word b h = grind (arith, nat_tests)

word-digit : (b : ℕ) → is_identifier_byte b ≡ false → is_digit b ≡ false
word-digit b h = grind (arith, nat_tests)

lead-digit : (b : ℕ) → is_lead b ≡ true → is_digit b ≡ false
lead-digit b h = grind (arith, nat_tests)

lead-wild : (b : ℕ) → is_lead b ≡ true → is_wild b ≡ false
lead-wild b h = grind (arith, nat_tests)

lead-48 : (b : ℕ) → is_lead b ≡ true → (b == 48) ≡ false
lead-48 b h = grind (arith, nat_tests)

pub space-lead : (b : ℕ) → is_space b ≡ true → is_lead b ≡ false
space-lead b h = grind (arith, nat_tests)

pub space-digit : (b : ℕ) → is_space b ≡ true → is_digit b ≡ false
space-digit b h = grind (arith, nat_tests)

pub space-wild : (b : ℕ) → is_space b ≡ true → is_wild b ≡ false
space-wild b h = grind (arith, nat_tests)

pub space-48 : (b : ℕ) → is_space b ≡ true → (b == 48) ≡ false
space-48 b h = grind (arith, nat_tests)

-- where a step is none
after-none : (e : Turn) (b : ℕ) → is_stop b ≡ false → after_step e b ≡ None
after-none e b h = rw ((or_parts (is_space b) (b == 124) h).0, (or_parts (is_space b) (b == 124) h).1) refl

whole-none : (e : Turn) (k b : ℕ) → is_digit b ≡ true → whole_step e k b ≡ None
whole-none e k b h = rw (word-46 b (digit-word b h), digit-45 b h, word-43 b (digit-word b h)) (after-none e b (word-stop b (digit-word b h)))

pre-none : (e : Turn) (b : ℕ) → is_identifier_byte b ≡ true → pre_step e b ≡ None
pre-none e b h = rw (word-46 b h, word-43 b h) (after-none e b (word-stop b h))

part-none : (e : Turn) (k b : ℕ) → is_lead b ≡ true → part_step e k b ≡ None
part-none e k b h = rw (lead-48 b h, lead-wild b h, lead-digit b h) refl

pub end-none : (e : Turn) (b : ℕ) → is_space b ≡ true → end_step e b ≡ None
end-none e b h = rw (space-lead b h, space-48 b h, space-wild b h, space-digit b h) refl

-- what may come behind a version may come behind its parts
whole-after : (e : Turn) (k : ℕ) (text : List ℕ) → goes true (after_step e) text ≡ true → goes true (whole_step e k) text ≡ true
whole-after e k = by-more true true (after_step e) (whole_step e k) is_stop (λ h. h) (after-none e) (λ b h. rw (stop-46 b h, stop-45 b h, stop-43 b h) refl)

from-digits : (e : Turn) (k : ℕ) (o : Option State) (text rest : List ℕ) → on_some o (λ n. fresh n text && accepts n rest) ≡ true
    → on_some o (λ n. small (digits e k) n text && accepts n rest) ≡ true
from-digits e k None text rest h = h
from-digits e k (Some n) text rest h =
    ap (λ v. v && accepts n rest) (no-large (is_digits n) (nat_le (2 ^ 64) (number_at text))) ∙ (and_parts (fresh n text) (accepts n rest) h).1

digits-whole : (e : Turn) (k : ℕ) (text : List ℕ) → goes true (whole_step e k) text ≡ true → accepts (digits e k) text ≡ true
digits-whole e k [] h = refl
digits-whole e k (b ∷ rest) h = elim (cases_Bool (is_digit b)) [
  | inl digit ↦ absurd (let x : false ≡ true = ap (λ o. on_some o (λ n. fresh n (b ∷ rest) && accepts n rest)) (sym (whole-none e k b digit)) ∙ h in cc)
  | inr other ↦ rw other (from-digits e k (whole_step e k b) (b ∷ rest) rest h)
]

-- behind a part no digit comes
whole-digit : (e : Turn) (k : ℕ) (text : List ℕ) → goes true (whole_step e k) text ≡ true → starts_with is_digit text ≡ false
whole-digit e k [] h = refl
whole-digit e k (b ∷ rest) h = elim (cases_Bool (is_digit b)) [
  | inl digit ↦ absurd (let x : false ≡ true = ap (λ o. on_some o (λ n. fresh n (b ∷ rest) && accepts n rest)) (sym (whole-none e k b digit)) ∙ h in cc)
  | inr other ↦ other
]

-- the digits of a number alone give its value
pub number-of : (n : ℕ) (t rest : List ℕ) → starts_with is_digit rest ≡ false → list_all is_digit t ≡ true → number_from n (t ++ rest) ≡ number_from n t
unfolding number_from
number-of n [] [] h all = refl
number-of n [] (b ∷ rest) h all = rw h refl
number-of n (b ∷ t) rest h all = elim (cases_Bool (is_digit b)) [
  | inl digit ↦ rw digit (number-of (n * 10 + (b - 48)) t rest h (rw digit at all))
  | inr other ↦ absurd (let x : false ≡ true = rw other at all in cc)
]

is-small : (m n : ℕ) → m ≡ n → n < 2 ^ 64 → nat_le (2 ^ 64) m ≡ false
is-small m n e h = grind (arith, nat_tests)

pre-after : (e : Turn) (text : List ℕ) → goes true (after_step e) text ≡ true → goes true (pre_step e) text ≡ true
pre-after e = by-more true true (after_step e) (pre_step e) is_stop (λ h. h) (after-none e) (λ b h. rw (stop-46 b h, stop-43 b h) refl)

build-after : (e : Turn) (text : List ℕ) → goes true (after_step e) text ≡ true → goes true (step (build e)) text ≡ true
build-after e = by-more true true (after_step e) (step (build e)) is_stop (λ h. h) (after-none e) (λ b h. rw (stop-word b h, stop-46 b h) refl)

pre-pre : (e : Turn) (text : List ℕ) → goes true (pre_step e) text ≡ true → goes true (step (pre e)) text ≡ true
pre-pre e = by-more true true (pre_step e) (step (pre e)) (λ b. not (is_identifier_byte b)) (λ h. h)
    (λ b h. pre-none e b (not-false (is_identifier_byte b) h)) (λ b h. rw (not-true (is_identifier_byte b) h) refl)

naught-pre : (e : Turn) (text : List ℕ) → goes true (pre_step e) text ≡ true → goes true (step (naught e)) text ≡ true
naught-pre e = by-more true true (pre_step e) (step (naught e)) (λ b. not (is_identifier_byte b)) (λ h. h)
    (λ b h. pre-none e b (not-false (is_identifier_byte b) h))
    (λ b h. let w = not-true (is_identifier_byte b) h in rw (w, word-digit b w) refl)

-- parts
part-goes : (t : List ℕ) (a : Option ℕ) → IsPart t a → (e : Turn) (k : ℕ) (rest : List ℕ) → goes true (whole_step e (suc k)) rest ≡ true
    → accepts (dot e k) (t ++ rest) ≡ true
part-goes _ _ (g.wild b w) e k rest h = elim (cases_Bool (b == 48)) [
  | inl zero ↦ rw zero (sym (accepts-goes (whole e (suc k)) rest refl) ∙ h)
  | inr other ↦ rw (other, w) (sym (accepts-goes (whole e (suc k)) rest refl) ∙ h)
]
part-goes _ _ (g.number t n i low) e k rest h = number t n i low where
  number : (t : List ℕ) (n : ℕ) → IsNumber t n → n < 2 ^ 64 → accepts (dot e k) (t ++ rest) ≡ true
  number _ _ g.zero low = sym (accepts-goes (whole e (suc k)) rest refl) ∙ h
  number _ _ (g.counted b bs d z all) low = elim (cases_Bool (is_wild b)) [
    | inl wild ↦ absurd (let x : true ≡ false = sym wild ∙ digit-wild b d in cc)
    | inr tame ↦
        let value = number-of 0 (b ∷ bs) rest (whole-digit e (suc k) rest h) (rw (d, all) refl) in
        let fits = is-small (number_at (b ∷ (bs ++ rest))) (number_at (b ∷ bs)) value low in
        rw (z, tame, d) (ap (λ v. not v && accepts (digits e (suc k)) (bs ++ rest)) fits
        ∙ stays-on (digits e (suc k)) is_digit (λ b y. rw y refl) bs rest all (digits-whole e (suc k) rest h))
  ]

-- identifiers
one-build : (e : Turn) (x rest : List ℕ) → is_build_identifier x ≡ true → goes true (step (build e)) rest ≡ true → accepts (plus e) (x ++ rest) ≡ true
one-build e [] rest h r = cc h
one-build e (b ∷ x) rest h r =
    let all = (and_parts (nat_lt 0 (length (b ∷ x))) (list_all is_identifier_byte (b ∷ x)) h).1 in
    rw (and_parts (is_identifier_byte b) (list_all is_identifier_byte x) all).0
    (stays-on (build e) is_identifier_byte (λ b y. rw y refl) x rest (and_parts (is_identifier_byte b) (list_all is_identifier_byte x) all).1 (sym (accepts-goes (build e) rest refl) ∙ r))

builds-go : (t : List ℕ) → AreIdentifiers is_build_identifier t → (e : Turn) (rest : List ℕ) → goes true (step (build e)) rest ≡ true → accepts (plus e) (t ++ rest) ≡ true
builds-go _ (g.one x h) e rest r = one-build e x rest h r
builds-go _ (g.more x t h a) e rest r = subst (λ y. accepts (plus e) y ≡ true) (sym (append_assoc x (46 ∷ t) rest))
    (one-build e x (46 ∷ (t ++ rest)) h (builds-go t a e rest r))

pre-run : (e : Turn) (s rest : List ℕ) → list_all is_identifier_byte s ≡ true → goes true (pre_step e) rest ≡ true → accepts (pre e) (s ++ rest) ≡ true
pre-run e s rest all h = stays-on (pre e) is_identifier_byte (λ b y. rw y refl) s rest all (sym (accepts-goes (pre e) rest refl) ∙ pre-pre e rest h)

zeros-go : (e : Turn) (x rest : List ℕ) → list_all is_identifier_byte x ≡ true → is_numeric x ≡ false → goes true (pre_step e) rest ≡ true → accepts (zeros e) (x ++ rest) ≡ true
zeros-go e [] rest all n r = cc n
zeros-go e (b ∷ x) rest all n r =
    let word = (and_parts (is_identifier_byte b) (list_all is_identifier_byte x) all).0 in
    let more = (and_parts (is_identifier_byte b) (list_all is_identifier_byte x) all).1 in
    elim (cases_Bool (is_digit b)) [
      | inl digit ↦ rw digit (zeros-go e x rest more (rw digit at n) r)
      | inr letter ↦ rw (word, letter) (pre-run e x rest more r)
    ]

digit-48 : (b : ℕ) → (b == 48) ≡ true → is_digit b ≡ true
digit-48 b h = grind (arith, nat_tests)

long-number : (b c : ℕ) (x : List ℕ) → (b == 48) ≡ true → is_digit c ≡ true → is_pre_identifier (b ∷ c ∷ x) ≡ true → is_numeric x ≡ false
long-number b c x z d h = elim (cases_Bool (is_numeric x)) [
  | inr other ↦ other
  | inl number ↦
      let k : not (is_numeric (b ∷ c ∷ x) && has_leading_zero (b ∷ c ∷ x)) ≡ true = (and_parts (is_build_identifier (b ∷ c ∷ x)) _ h).1 in
      let all : is_numeric (b ∷ c ∷ x) ≡ true = rw (digit-48 b z, d) number in
      let led : has_leading_zero (b ∷ c ∷ x) ≡ true = rw z (grind (arith, nat_tests)) in
      absurd (let y : false ≡ true = rw (all, led) at k in cc)
]

naught-go : (e : Turn) (b : ℕ) (x rest : List ℕ) → (b == 48) ≡ true → is_pre_identifier (b ∷ x) ≡ true → list_all is_identifier_byte x ≡ true
    → goes true (pre_step e) rest ≡ true → accepts (naught e) (x ++ rest) ≡ true
naught-go e b [] rest z h all r = sym (accepts-goes (naught e) rest refl) ∙ naught-pre e rest r
naught-go e b (c ∷ x) rest z h all r =
    let word = (and_parts (is_identifier_byte c) (list_all is_identifier_byte x) all).0 in
    let more = (and_parts (is_identifier_byte c) (list_all is_identifier_byte x) all).1 in
    elim (cases_Bool (is_digit c)) [
      | inl digit ↦ rw digit (zeros-go e x rest more (long-number b c x z digit h) r)
      | inr letter ↦ rw (word, letter) (pre-run e x rest more r)
    ]

one-pre : (e : Turn) (x rest : List ℕ) → is_pre_identifier x ≡ true → goes true (pre_step e) rest ≡ true → accepts (hyphen e) (x ++ rest) ≡ true
one-pre e [] rest h r = cc h
one-pre e (b ∷ x) rest h r =
    let good = (and_parts (nat_lt 0 (length (b ∷ x))) (list_all is_identifier_byte (b ∷ x)) (and_parts (is_build_identifier (b ∷ x)) _ h).0).1 in
    let more = (and_parts (is_identifier_byte b) (list_all is_identifier_byte x) good).1 in
    elim (cases_Bool (b == 48)) [
      | inl zero ↦ rw zero (naught-go e b x rest zero h more r)
      | inr other ↦ rw (other, (and_parts (is_identifier_byte b) (list_all is_identifier_byte x) good).0) (pre-run e x rest more r)
    ]

pres-go : (t : List ℕ) → AreIdentifiers is_pre_identifier t → (e : Turn) (rest : List ℕ) → goes true (pre_step e) rest ≡ true → accepts (hyphen e) (t ++ rest) ≡ true
pres-go _ (g.one x h) e rest r = one-pre e x rest h r
pres-go _ (g.more x t h a) e rest r = subst (λ y. accepts (hyphen e) y ≡ true) (sym (append_assoc x (46 ∷ t) rest))
    (one-pre e x (46 ∷ (t ++ rest)) h (pres-go t a e rest r))

-- what may stand behind three parts
build-goes : (t : List ℕ) → IsBuild t → (e : Turn) (rest : List ℕ) → goes true (after_step e) rest ≡ true → goes true (pre_step e) (t ++ rest) ≡ true
build-goes _ g.absent e rest h = pre-after e rest h
build-goes _ (g.build u a) e rest h = builds-go u a e rest (build-after e rest h)

tail-goes : (s p : List ℕ) → IsTail s p → (e : Turn) (rest : List ℕ) → goes true (after_step e) rest ≡ true → goes true (whole_step e 3) (s ++ rest) ≡ true
tail-goes _ _ (g.bare t b) e rest h = bare t b where
  bare : (t : List ℕ) → IsBuild t → goes true (whole_step e 3) (t ++ rest) ≡ true
  bare _ g.absent = whole-after e 3 rest h
  bare _ (g.build u a) = builds-go u a e rest (build-after e rest h)
tail-goes _ _ (g.pre p t a b) e rest h = subst (λ y. accepts (hyphen e) y ≡ true) (sym (append_assoc p t rest)) (pres-go p a e (t ++ rest) (build-goes t b e rest h))

-- versions
partial-goes : (t : List ℕ) (n : Named) → IsPartial t n → (e : Turn) (rest : List ℕ) → goes true (after_step e) rest ≡ true → accepts (dot e 0) (t ++ rest) ≡ true
partial-goes _ _ (g.one t a i) e rest h = part-goes t a i e 0 rest (whole-after e 1 rest h)
partial-goes _ _ (g.two t u a b i j) e rest h = subst (λ y. accepts (dot e 0) y ≡ true) (sym (append_assoc t (46 ∷ u) rest))
    (part-goes t a i e 0 (46 ∷ (u ++ rest)) (part-goes u b j e 1 rest (whole-after e 2 rest h)))
partial-goes _ _ (g.three t u w s p a b c i j k l) e rest h =
    let same : t ++ 46 ∷ (u ++ 46 ∷ (w ++ (s ++ rest))) ≡ (t ++ 46 ∷ (u ++ 46 ∷ (w ++ s))) ++ rest = simp append_assoc in
    subst (λ y. accepts (dot e 0) y ≡ true) same
    (part-goes t a i e 0 (46 ∷ (u ++ 46 ∷ (w ++ (s ++ rest)))) (part-goes u b j e 1 (46 ∷ (w ++ (s ++ rest)))
    (part-goes w c k e 2 (s ++ rest) (tail-goes s p l e rest h))))

lead-dot : (e : Turn) (text : List ℕ) → accepts (dot e 0) text ≡ true → accepts (lead e) text ≡ true
lead-dot e text h = sym (accepts-goes (lead e) text refl) ∙ by-more false false (part_step e 0) (end_step e) (λ b. not (is_lead b)) (λ h. h)
    (λ b y. part-none e 0 b (not-false (is_lead b) y)) (λ b y. rw (not-true (is_lead b) y) refl) text (accepts-goes (dot e 0) text refl ∙ h)

pub end-goes : (t : List ℕ) (n : Named) → IsEnd t n → (e : Turn) (rest : List ℕ) → goes true (after_step e) rest ≡ true → accepts (lead e) (t ++ rest) ≡ true
end-goes _ n (g.end l t _ all p) e rest h = subst (λ y. accepts (lead e) y ≡ true) (sym (append_assoc l t rest))
    (stays-on (lead e) is_lead (λ b y. rw y refl) l (t ++ rest) all (lead-dot e (t ++ rest) (partial-goes t n p e rest h)))
