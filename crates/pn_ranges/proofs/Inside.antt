-- Faults that stand within a version: no version is read there.
use Rattle.std.proofs.Common.{◌≡◌, ◌≤◌, ◌^◌, ◌*◌, ◌+◌, ◌-◌, ℕ, true, false, List, [], ◌∷◌, ◌++◌, length, Option, Some, None, Result, Ok, Err, IfErr, OnErr, refl, sym, ap, subst, ◌∙◌, arith, inl, inr}
use Rattle.std.specs.Prelude.{◌==◌, ◌&&◌, not, nat_le}
use Rattle.std.specs.List.{list_all}
use Rattle.std.specs.Result.{IsErrAnd}
use Rattle.std.proofs.lemmas.Bool.{and_parts, and_right, cases_Bool, not-false, not-true}
use Rattle.std.proofs.lemmas.Bool.Decides.{nat_tests}
use Rattle.semver.specs.Grammar.{is_build_identifier, is_pre_identifier}
use Rattle.pn_ranges.specs.declared.fault.Stop.{Stop}
use Rattle.pn_ranges.specs.declared.fault.Stop.TheVariants as stop
use Rattle.pn_ranges.specs.Bytes.{is_body, is_digit, is_lead, is_space, is_stop, behind, front_of, number_at, number_from, starts_with}
use Rattle.pn_ranges.specs.Grammar.{AreIdentifiers, IsEnd, IsPart}
use Rattle.pn_ranges.specs.Places.{State, lead, later, step, after_step, is_digits, is_large, fault_after, first_fault}
use Rattle.pn_ranges.specs.Reading.{Begins, Fronted, left_of, signed}
use Rattle.pn_ranges.specs.Refusals.{IsLeftOf}
use Rattle.pn_ranges.specs.Table.{Named}
use Rattle.pn_ranges.specs.Unread.{NoCompared, NoEnd, NoUpper}
use Rattle.pn_ranges.proofs.Accepts.{accepts, end-goes, goes, on_some, small, stop-digit}
use Rattle.pn_ranges.proofs.Closings.{gap-starts}
use Rattle.pn_ranges.proofs.Faults.{fault-left}
use Rattle.pn_ranges.proofs.FrontOfLemmas.{behind-append, behind-le, behind-same, behind-stops, front-all, front-behind, number-stops}
use Rattle.pn_ranges.proofs.Same.{all-weaken, behind-all, build-id, comparator-shape, digit-body, end-body, head-same, ids-body, lead-body, part-body, pre-id, shape-at}
use Rattle.pn_ranges.proofs.FirstFaultLemmas.{fault-step}

-- a fault behind bytes of the same version
pub inside-behind : (text front rest : List ℕ) (n : ℕ) → text ≡ front ++ rest → list_all is_body front ≡ true → length (behind is_body rest) ≤ n → length (behind is_body text) ≤ n
inside-behind text front rest n split all h =
    let e = ap (λ (y : List ℕ). length (behind is_body y)) split ∙ ap (λ (y : List ℕ). length y) (behind-append is_body front rest all) in omega arith

pub part-inside : (text rest : List ℕ) (a : Option ℕ) (n : ℕ) → Begins IsPart text a rest → length (behind is_body rest) ≤ n → length (behind is_body text) ≤ n
part-inside text rest a n f h = inside-behind text f.front rest n f.split (part-body f.front a f.spelled) h

pub byte-inside : (text rest : List ℕ) (b n : ℕ) → text ≡ b ∷ rest → is_body b ≡ true → length (behind is_body rest) ≤ n → length (behind is_body text) ≤ n
byte-inside text rest b n e i h = inside-behind text (b ∷ []) rest n e (rw i refl) h

pub pres-inside : (text rest : List ℕ) (n : ℕ) → Fronted (AreIdentifiers is_pre_identifier) text rest → length (behind is_body rest) ≤ n → length (behind is_body text) ≤ n
pres-inside text rest n f h = inside-behind text f.front rest n f.split (ids-body is_pre_identifier pre-id f.front f.is) h

pub builds-inside : (text rest : List ℕ) (n : ℕ) → Fronted (AreIdentifiers is_build_identifier) text rest → length (behind is_body rest) ≤ n → length (behind is_body text) ≤ n
builds-inside text rest n f h = inside-behind text f.front rest n f.split (ids-body is_build_identifier build-id f.front f.is) h

pub digits-inside : (text rest : List ℕ) (b : ℕ) → text ≡ b ∷ rest → (b == 48) ≡ true → length (behind is_body text) ≤ length (behind is_digit rest)
digits-inside text rest b e z =
    let one : is_body b ≡ true = zero-body b z in
    let all = all-weaken is_digit is_body digit-body (front_of is_digit rest) (front-all is_digit rest) in
    byte-inside text rest b (length (behind is_digit rest)) e one
    (inside-behind rest (front_of is_digit rest) (behind is_digit rest) (length (behind is_digit rest)) (front-behind is_digit rest) all (behind-le is_body (behind is_digit rest))) where
      zero-body : (b : ℕ) → (b == 48) ≡ true → is_body b ≡ true
      zero-body b h = grind (arith, nat_tests)

-- a refusal that is passed on
pub exit_inside : {T : Type 0} (text : List ℕ) (r : Result T Stop) (x : Stop) → IsErrAnd r (λ y. y ≡ x) → length (behind is_body text) ≤ left_of x
    → IfErr r (λ s. length (behind is_body text) ≤ left_of s)
exit_inside text (Ok v) x h l = tt
exit_inside text (Err s) x h l = subst (λ z. length (behind is_body text) ≤ left_of z) (sym h) l

pub exit_none : {T : Type 0} (none : Type 0) (r : Result T Stop) → none → OnErr r none
exit_none none (Ok v) n = tt
exit_none none (Err s) n = n

-- the automaton behind what it goes through with something else behind it
number-same : (t : List ℕ) (n b : ℕ) (r y : List ℕ) → is_digit b ≡ false → number_from n (t ++ b ∷ r) ≡ number_from n (t ++ b ∷ y)
unfolding number_from
number-same [] n b r y h = rw h refl
number-same (c ∷ t) n b r y h = elim (cases_Bool (is_digit c)) [
  | inl digit ↦ rw digit (number-same t (n * 10 + (c - 48)) b r y h)
  | inr other ↦ rw other refl
]

none-number : (b : ℕ) (r : List ℕ) → is_digit b ≡ false → nat_le (2 ^ 64) (number_at (b ∷ r)) ≡ false
none-number b r h = let e : number_at (b ∷ r) ≡ 0 = number-stops 0 (b ∷ r) h in rw e refl

pub past : (u : List ℕ) (s : State) (b : ℕ) (r y : List ℕ) → is_digit b ≡ false → accepts s (u ++ b ∷ y) ≡ true → (q : State) × (first_fault s (u ++ b ∷ r) ≡ first_fault q r)
past [] s b r y d h = elim (step s b) as (λ o. step s b ≡ o → on_some o (λ n. small s n (b ∷ y) && accepts n y) ≡ true → (q : State) × (first_fault s (b ∷ r) ≡ first_fault q r)) [
  | None ↦ λ e k. absurd (let w : false ≡ true = k in cc)
  | Some n ↦ λ e k. (n, fault-step s n b r e (and_right (is_digits n && not (is_digits s)) (nat_le (2 ^ 64) (number_at (b ∷ r))) (none-number b r d)))
] refl h
past (c ∷ u) s b r y d h =
    elim (step s c) as (λ o. step s c ≡ o → on_some o (λ n. small s n (c ∷ (u ++ b ∷ y)) && accepts n (u ++ b ∷ y)) ≡ true
    → (q : State) × (first_fault s (c ∷ (u ++ b ∷ r)) ≡ first_fault q r)) [
      | None ↦ λ e k. absurd (let w : false ≡ true = k in cc)
      | Some n ↦ λ e k.
          let i = past u n b r y d (and_parts (small s n (c ∷ (u ++ b ∷ y))) (accepts n (u ++ b ∷ y)) k).1 in
          let fits : is_large s n (c ∷ (u ++ b ∷ y)) ≡ false = not-true (is_large s n (c ∷ (u ++ b ∷ y))) (and_parts (small s n (c ∷ (u ++ b ∷ y))) (accepts n (u ++ b ∷ y)) k).0 in
          let same : is_large s n (c ∷ (u ++ b ∷ r)) ≡ is_large s n (c ∷ (u ++ b ∷ y)) =
          ap (λ z. is_digits n && not (is_digits s) && nat_le (2 ^ 64) z) (number-same (c ∷ u) 0 b r y d) in
          (i.0, fault-step s n c (u ++ b ∷ r) e (same ∙ fits) ∙ i.1)
    ] refl h

pub accepted : (text : List ℕ) (s : State) → accepts s text ≡ true → first_fault s text ≡ None
accepted [] s h = rw h refl
accepted (b ∷ rest) s h = elim (step s b) as (λ o. step s b ≡ o → on_some o (λ n. small s n (b ∷ rest) && accepts n rest) ≡ true → first_fault s (b ∷ rest) ≡ None) [
  | None ↦ λ e k. absurd (let w : false ≡ true = k in cc)
  | Some n ↦ λ e k.
      fault-step s n b rest e (not-true (is_large s n (b ∷ rest)) (and_parts (small s n (b ∷ rest)) (accepts n rest) k).0)
      ∙ accepted rest n (and_parts (small s n (b ∷ rest)) (accepts n rest) k).1
] refl h

pub left-within : (n : ℕ) (s : Stop) → IsLeftOf n s → left_of s ≤ n
left-within n (stop.Byte k) h = h
left-within n (stop.Number k) h = h
left-within n stop.Memory h = omega arith

-- what may stand behind a version
record Behind (b : ℕ) : Type 0 where
  more : List ℕ
  goes : goes true (after_step later) (b ∷ more) ≡ true

stop-goes : (b : ℕ) → is_stop b ≡ true → Behind b
stop-goes b h = elim (cases_Bool (is_space b)) [
  | inl space ↦ record { more = []; goes = rw space refl }
  | inr other ↦ let bar : (b == 124) ≡ true = rw other at h in record { more = 124 ∷ []; goes = rw (other, bar) refl }
]

-- a fault within a version
pub no-end : (text : List ℕ) (s : Stop) → first_fault (lead later) text ≡ Some s → length (behind is_body text) ≤ left_of s → NoEnd text
no-end text s f l t [] n i ends e =
    let g : accepts (lead later) (t ++ []) ≡ true = end-goes t n i later [] refl in
    let w : None ≡ Some s = sym (accepted (t ++ []) (lead later) g) ∙ ap (first_fault (lead later)) (sym e) ∙ f in
    cc w
no-end text s f l t (b ∷ r) n i ends e =
    let is : is_stop b ≡ true = not-false (is_stop b) ends in
    let k = stop-goes b is in
    let p = past t (lead later) b r k.more (stop-digit b is) (end-goes t n i later (b ∷ k.more) k.goes) in
    let left = left-within (length r) s (fault-left r p.0 s (sym p.1 ∙ ap (first_fault (lead later)) (sym e) ∙ f)) in
    let same = ap (λ (y : List ℕ). length (behind is_body y)) e ∙ ap (λ (y : List ℕ). length y) (behind-all is_body t (b ∷ r) (end-body t n i) ends) in
    absurd (omega arith)

-- a version behind which more of one stands
pub whole-end : (text rest : List ℕ) (n : Named) → Begins IsEnd text n rest → first_fault (lead later) text ≡ fault_after later rest → starts_with is_body rest ≡ true → NoEnd text
whole-end text [] n a f h = cc h
whole-end text (b ∷ r) n a f h =
    no-end text (stop.Byte (length (b ∷ r))) (f ∙ body-stop b r h)
    (inside-behind text a.front (b ∷ r) (length (b ∷ r)) a.split (end-body a.front n a.spelled) (behind-le is_body (b ∷ r))) where
      no-space : (b : ℕ) → is_body b ≡ true → is_space b ≡ false
      no-space b h = grind (arith, nat_tests)

      no-bar : (b : ℕ) → is_body b ≡ true → (b == 124) ≡ false
      no-bar b h = grind (arith, nat_tests)

      body-stop : (b : ℕ) (r : List ℕ) → is_body b ≡ true → fault_after later (b ∷ r) ≡ Some (stop.Byte (length (b ∷ r)))
      body-stop b r h = rw (no-space b h, no-bar b h) refl

pub led-inside : (text after : List ℕ) (n : ℕ) → after ≡ behind is_lead text → length (behind is_body after) ≤ n → length (behind is_body text) ≤ n
led-inside text after n h l = inside-behind text (front_of is_lead text) after n (front-behind is_lead text ∙ ap (λ y. front_of is_lead text ++ y) (sym h))
    (all-weaken is_lead is_body lead-body (front_of is_lead text) (front-all is_lead text)) l

-- the same behind an operator and spaces
pub no-compared : (text operand start : List ℕ) → operand ≡ (signed text).1 → start ≡ behind is_space operand → NoEnd start → NoCompared text
no-compared text operand start o b none = λ t rest x n c ends e.
    let k = shape-at text (t ++ rest) rest x n e (comparator-shape t x n c rest) in
    let same : behind is_space text ≡ text = ap (behind is_space) e ∙ behind-same is_space (behind is_space (t ++ rest)) (behind-stops is_space (t ++ rest)) ∙ sym e in
    none k.end rest n k.is ends (b ∙ ap (behind is_space) (o ∙ ap (λ (z : List ℕ). (signed z).1) (sym same)) ∙ k.split)

-- the same behind spaces
pub no-upper : (text start : List ℕ) → start ≡ behind is_space text → NoEnd start → NoUpper text
no-upper text start b none = λ s t rest n a i ends e.
    none t rest n i ends (b ∙ ap (behind is_space) e ∙ behind-append is_space s (t ++ rest) a.spaces ∙ head-same t rest n i)

pub no-gap : (text : List ℕ) → starts_with is_space text ≡ false → NoUpper text
no-gap text h = λ s t rest n a i ends e. let w : true ≡ false = sym (gap-starts s (t ++ rest) a) ∙ ap (starts_with is_space) (sym e) ∙ h in cc w
