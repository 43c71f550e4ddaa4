-- Where the automaton stops, in the words of the grammar.
use Rattle.std.proofs.Common.{◌≡◌, ◌<◌, ◌+◌, ◌-◌, ℕ, suc, true, false, List, [], ◌∷◌, ◌++◌, length, take, Some, None, refl, sym, ap, subst, ◌∙◌, arith, inl, inr, append_assoc}
use Rattle.std.specs.Prelude.{if◌then◌else◌}
use Rattle.std.proofs.lemmas.Bool.{and_right, cases_Bool}
use Rattle.pn_ranges.specs.declared.fault.Stop.TheVariants as stop
use Rattle.pn_ranges.specs.Bytes.{is_digit, front_of}
use Rattle.pn_ranges.specs.Forms.{AreForms, IsFront}
use Rattle.pn_ranges.specs.Forms as f
use Rattle.pn_ranges.specs.Grammar.{AreComparators, AreRanges, IsEnd, IsRange}
use Rattle.pn_ranges.specs.Grammar as g
use Rattle.pn_ranges.specs.Limits.{Limit}
use Rattle.pn_ranges.specs.PlaceLaw.{IsLongAt, StopsAt, PlaceLaw}
use Rattle.pn_ranges.specs.Places.{State, Turn, step, may_end, is_digits, is_large, on_step, first_fault}
use Rattle.pn_ranges.specs.Places as p
use Rattle.pn_ranges.specs.Refusals.{StopsByte, StopsNumber}
use Rattle.std.specs.Prelude.{nat_le, not, ◌&&◌}
use Rattle.std.proofs.Common.{◌^◌, ◌*◌, ◌≤◌, Bool, drop}
use Rattle.std.proofs.lemmas.Bool.{leb-true}
use Rattle.std.proofs.lemmas.Bool.Decides.{nat_tests}
use Rattle.pn_ranges.specs.Bytes.{number_at, number_from}
use Rattle.pn_ranges.specs.Table.{named}
use Rattle.pn_ranges.proofs.Accepts.{accepts, on_some, small}
use Rattle.pn_ranges.proofs.Passes.{forms-go}
use Rattle.pn_ranges.proofs.Follow.{Digits, Rest, RestOf}
use Rattle.pn_ranges.proofs.Follow as w
use Rattle.pn_ranges.proofs.FollowParts.{build-step, digits-step, end-step, hyphen-step, naught-step, part-step, plus-step, pre-step-on, whole-step, zeros-step}
use Rattle.pn_ranges.proofs.FollowRanges.{bar-step, closed-step, dash-step, equal-step, far-step, gap-step, operand-step, sign-step, start-step}
use Rattle.pn_ranges.proofs.Numbers.{closed-digits, digit-shut, ill, opens, stays-well, wild}

-- a text in which the automaton stops behind so many bytes
data StopsIn : State → List ℕ → ℕ → Type 0 where
  early : (s : State) → may_end s ≡ false → StopsIn s [] 0
  here : (s : State) (b : ℕ) (rest : List ℕ) → step s b ≡ None → StopsIn s (b ∷ rest) 0
  later : (s next : State) (b at : ℕ) (rest : List ℕ) → step s b ≡ Some next → is_large s next (b ∷ rest) ≡ false → StopsIn next rest at → StopsIn s (b ∷ rest) (suc at)

record Stopped (s : State) (text : List ℕ) (left : ℕ) : Type 0 where
  at : ℕ
  split : at + left ≡ length text
  is : StopsIn s text at

left-of : (m n : ℕ) → Some (stop.Byte m) ≡ Some (stop.Byte n) → 0 + n ≡ m
left-of m n h = let e : m ≡ n = cc h in omega arith

stopped : (text : List ℕ) (s : State) (n : ℕ) → first_fault s text ≡ Some (stop.Byte n) → Stopped s text n
stopped [] s n h = elim (may_end s) as (λ v. may_end s ≡ v → (if v then None else Some (stop.Byte 0)) ≡ Some (stop.Byte n) → Stopped s [] n) [
  | true ↦ λ e k. cc k
  | false ↦ λ e k. record { at = 0; split = left-of 0 n k; is = early s e }
] refl h
stopped (b ∷ rest) s n h =
    elim (step s b) as (λ o. step s b ≡ o → on_step o (λ m. if is_large s m (b ∷ rest) then Some (stop.Number (length (b ∷ rest))) else first_fault m rest) (Some (stop.Byte (length (b ∷ rest)))) ≡ Some (stop.Byte n)
    → Stopped s (b ∷ rest) n) [
      | None ↦ λ e k. record { at = 0; split = left-of (length (b ∷ rest)) n k; is = here s b rest e }
      | Some m ↦ λ e k. elim (is_large s m (b ∷ rest)) as (λ v. is_large s m (b ∷ rest) ≡ v → (if v then Some (stop.Number (length (b ∷ rest))) else first_fault m rest) ≡ Some (stop.Byte n) → Stopped s (b ∷ rest) n) [
        | true ↦ λ l j. cc j
        | false ↦ λ l j.
            let i = stopped rest m n j in
            let more : suc i.at + n ≡ suc (length rest) = let a = i.split in omega arith in
            record { at = suc i.at; split = more; is = later s m b i.at rest e l i.is }
      ] refl k
    ] refl h

-- no text goes on there
none-past : (s : State) (text : List ℕ) (at : ℕ) → StopsIn s text at → at < length text → (more : List ℕ) → accepts s (take (at + 1) text ++ more) ≡ false
none-past s _ _ (early _ e) l more = absurd (omega arith)
none-past s _ _ (here _ b rest e) l more = ap (λ o. on_some o (λ n. small s n (b ∷ (take 0 rest ++ more)) && accepts n (take 0 rest ++ more))) e
none-past s _ _ (later _ next b at rest e large i) l more =
    let same : suc at + 1 ≡ suc (at + 1) = omega arith in
    let inner : at < length rest = omega arith in
    let behind = take (at + 1) rest ++ more in
    subst (λ z. accepts s (take z (b ∷ rest) ++ more) ≡ false) (sym same)
    (ap (λ o. on_some o (λ n. small s n (b ∷ behind) && accepts n behind)) e ∙ ap (λ v. small s next (b ∷ behind) && v) (none-past next rest at i inner more)
    ∙ and_right (small s next (b ∷ behind)) false refl)

none-whole : (s : State) (text : List ℕ) (at : ℕ) → StopsIn s text at → accepts s text ≡ false
none-whole s _ _ (early _ e) = e
none-whole s _ _ (here _ b rest e) = ap (λ o. on_some o (λ n. small s n (b ∷ rest) && accepts n rest)) e
none-whole s _ _ (later _ next b at rest e large i) =
    ap (λ o. on_some o (λ n. small s n (b ∷ rest) && accepts n rest)) e ∙ ap (λ v. small s next (b ∷ rest) && v) (none-whole next rest at i)
    ∙ and_right (small s next (b ∷ rest)) false refl

-- some text goes on in each state
zero-end : IsEnd (48 ∷ []) (named (Some 0) None None [])
zero-end = g.end [] (48 ∷ []) _ refl (g.one (48 ∷ []) (Some 0) (g.number (48 ∷ []) 0 g.zero (omega arith)))

zero-ended : (e : Turn) → w.Ended e (48 ∷ [])
zero-ended e = w.ended (48 ∷ []) [] _ zero-end (w.closed e [] w.ends)

zero-operand : w.Operand (48 ∷ [])
zero-operand = w.operand [] (48 ∷ []) [] _ refl zero-end (w.closed p.later [] w.ends)

given : (s : State) (text : List ℕ) → (is_digits s ≡ true → front_of is_digit text ≡ []) → (u : List ℕ) × Rest s text u
given p.start text n = ([], f.one [] [] [] refl f.empty refl)
given (p.gap m) text n = ([], w.gap m [] (w.closed [] w.ends))
given p.closed text n = ([], w.ends)
given p.bar text n = (124 ∷ [], w.bar [] (f.one [] [] [] refl f.empty refl))
given p.dash text n = (32 ∷ 48 ∷ [], w.dash 32 (48 ∷ []) refl (w.end (48 ∷ []) [] _ zero-end w.ends))
given p.far text n = (48 ∷ [], w.end (48 ∷ []) [] _ zero-end w.ends)
given (p.sign joins) text n = (joins ∷ 48 ∷ [], w.joined (48 ∷ []) zero-operand)
given (p.equal e) text n = (48 ∷ [], w.ended (48 ∷ []) (zero-ended e))
given p.operand text n = (48 ∷ [], zero-operand)
given (p.lead e) text n = (48 ∷ [], zero-ended e)
given (p.dot e k) text n = (48 ∷ [], w.parted (48 ∷ []) [] (Some 0) (g.number (48 ∷ []) 0 g.zero (omega arith)) (w.ends (suc k) [] (w.closed e [] w.ends)))
given (p.whole e k) text n = ([], w.ends k [] (w.closed e [] w.ends))
given (p.digits e k) text n = ([], record { rest = []; split = ap (λ z. z ++ []) (sym (n refl)); whole = w.ends k [] (w.closed e [] w.ends) })
given (p.hyphen e) text n = (48 ∷ [], w.pres (48 ∷ []) [] (g.one (48 ∷ []) refl) (w.none [] (w.closed e [] w.ends)))
given (p.naught e) text n = ([], w.ends [] [] refl (w.none [] (w.closed e [] w.ends)))
given (p.zeros e) text n = (97 ∷ [], w.ends (97 ∷ []) [] refl (w.none [] (w.closed e [] w.ends)))
given (p.pre e) text n = ([], w.ends [] [] refl (w.none [] (w.closed e [] w.ends)))
given (p.plus e) text n = (48 ∷ [], w.builds (48 ∷ []) [] (g.one (48 ∷ []) refl) (w.closed e [] w.ends))
given (p.build e) text n = ([], w.ends [] [] refl (w.closed e [] w.ends))

-- and so does one with a byte more
rest-step : (s : State) (b : ℕ) (text u : List ℕ) → ((n : State) → step s b ≡ Some n → is_large s n (b ∷ text) ≡ false) → RestOf (step s b) text u → Rest s (b ∷ text) (b ∷ u)
rest-step p.start b text u small h = start-step b text u small h
rest-step (p.gap m) b text u small h = gap-step m b text u small h
rest-step p.closed b text u small h = closed-step b text u h
rest-step p.bar b text u small h = bar-step b text u h
rest-step p.dash b text u small h = dash-step b text u h
rest-step p.far b text u small h = far-step b text u small h
rest-step (p.sign joins) b text u small h = sign-step joins b text u small h
rest-step (p.equal e) b text u small h = equal-step e b text u small h
rest-step p.operand b text u small h = operand-step b text u small h
rest-step (p.lead e) b text u small h = end-step e b text u small h
rest-step (p.dot e k) b text u small h = part-step e k b text u small h
rest-step (p.whole e k) b text u small h = whole-step e k b text u h
rest-step (p.digits e k) b text u small h = digits-step e k b text u h
rest-step (p.hyphen e) b text u small h = hyphen-step e b text u h
rest-step (p.naught e) b text u small h = naught-step e b text u h
rest-step (p.zeros e) b text u small h = zeros-step e b text u h
rest-step (p.pre e) b text u small h = pre-step-on e b text u h
rest-step (p.plus e) b text u small h = plus-step e b text u h
rest-step (p.build e) b text u small h = build-step e b text u h

digits-go : (s : State) (b : ℕ) → is_digit b ≡ true → step s b ≡ None → is_digits s ≡ true → ⊥
digits-go (p.digits t k) b digit e d = let x : Some (p.digits t k) ≡ None = rw digit at e in cc x
digits-go s b digit e d = cc d

digits-stop : (s : State) (b : ℕ) (rest : List ℕ) → step s b ≡ None → is_digits s ≡ true → front_of is_digit (b ∷ rest) ≡ []
digits-stop s b rest e d = elim (cases_Bool (is_digit b)) [
  | inr other ↦ rw other refl
  | inl digit ↦ absurd (digits-go s b digit e d)
]

up-to : (s : State) (text : List ℕ) (at : ℕ) → StopsIn s text at → (u : List ℕ) × Rest s text (take at text ++ u)
up-to s _ _ (early _ e) = given s [] (λ d. refl)
up-to s _ _ (here _ b rest e) = given s (b ∷ rest) (digits-stop s b rest e)
up-to s _ _ (later _ next b at rest e large i) =
    let k = up-to next rest at i in
    let small : (n : State) → step s b ≡ Some n → is_large s n (b ∷ rest) ≡ false = λ n h. let same : next ≡ n = cc in subst (λ z. is_large s z (b ∷ rest) ≡ false) same large in
    (k.0, rest-step s b rest (take at rest ++ k.0) small (subst (λ o. RestOf o rest (take at rest ++ k.0)) (sym e) k.1))

-- ranges are of this form
comparators-form : (t : List ℕ) (k : ℕ) (ls : List Limit) → AreComparators t k ls → f.AreCompared t
comparators-form _ _ _ (g.one t x n c fit) = f.one t x n c
comparators-form _ _ _ (g.more t s u x n k ls c fit a d) = f.more t s u x n c a (comparators-form u k ls d)

pub range-form : (t : List ℕ) (k : ℕ) (ls : List Limit) → IsRange t k ls → f.IsForm t
range-form _ _ _ g.empty = f.empty
range-form _ _ _ (g.comparators t k ls c) = f.comparators t (comparators-form t k ls c)
range-form _ _ _ (g.hyphen a s r b low high i p q j fit) = f.hyphen a s r b low high i p q j

pub ranges-form : (t : List ℕ) (k : ℕ) (ls : List (List Limit)) → AreRanges t k ls → AreForms t
ranges-form _ _ _ (g.one s t r k ls a i b) = f.one s t r a (range-form t k ls i) b
ranges-form _ _ _ (g.more s t r u k m ls lss a i b c) = f.more s t r u a (range-form t k ls i) b (ranges-form u m lss c)

goes-on : (text : List ℕ) (at : ℕ) → StopsByte text at → StopsAt text at
goes-on text at h =
    let s = stopped text p.start (length text - at) h.first in
    let same : s.at ≡ at = let a = s.split in let b = h.within in omega arith in
    let i : StopsIn p.start text at = subst (StopsIn p.start text) same s.is in
    record {
      within = h.within;
      front = up-to p.start text at i;
      byte = λ l m. let x : true ≡ false = sym (forms-go (take (at + 1) text ++ m.0) m.1) ∙ none-past p.start text at i l m.0 in cc;
      early = λ e a. let x : true ≡ false = sym (forms-go text a) ∙ none-whole p.start text at i in cc;
    }

-- a text in which a number of 2^64 or more begins behind so many bytes
data LargeIn : State → List ℕ → ℕ → Type 0 where
  here : (s next : State) (b : ℕ) (rest : List ℕ) → step s b ≡ Some next → is_large s next (b ∷ rest) ≡ true → LargeIn s (b ∷ rest) 0
  later : (s next : State) (b at : ℕ) (rest : List ℕ) → step s b ≡ Some next → is_large s next (b ∷ rest) ≡ false → LargeIn next rest at → LargeIn s (b ∷ rest) (suc at)

record Large (s : State) (text : List ℕ) (left : ℕ) : Type 0 where
  at : ℕ
  split : at + left ≡ length text
  is : LargeIn s text at

number-of : (m n : ℕ) → Some (stop.Number m) ≡ Some (stop.Number n) → 0 + n ≡ m
number-of m n h = let e : m ≡ n = cc h in omega arith

large : (text : List ℕ) (s : State) (n : ℕ) → first_fault s text ≡ Some (stop.Number n) → Large s text n
large [] s n h = elim (may_end s) as (λ v. (if v then None else Some (stop.Byte 0)) ≡ Some (stop.Number n) → Large s [] n) [
  | true ↦ λ k. cc k
  | false ↦ λ k. cc k
] h
large (b ∷ rest) s n h =
    elim (step s b) as (λ o. step s b ≡ o → on_step o (λ m. if is_large s m (b ∷ rest) then Some (stop.Number (length (b ∷ rest))) else first_fault m rest) (Some (stop.Byte (length (b ∷ rest)))) ≡ Some (stop.Number n)
    → Large s (b ∷ rest) n) [
      | None ↦ λ e k. cc k
      | Some m ↦ λ e k. elim (is_large s m (b ∷ rest)) as (λ v. is_large s m (b ∷ rest) ≡ v → (if v then Some (stop.Number (length (b ∷ rest))) else first_fault m rest) ≡ Some (stop.Number n) → Large s (b ∷ rest) n) [
        | true ↦ λ l j. record { at = 0; split = number-of (length (b ∷ rest)) n j; is = here s m b rest e l }
        | false ↦ λ l j.
            let i = large rest m n j in
            let more : suc i.at + n ≡ suc (length rest) = let a = i.split in omega arith in
            record { at = suc i.at; split = more; is = later s m b i.at rest e l i.is }
      ] refl k
    ] refl h

none-large : (s : State) (text : List ℕ) (at : ℕ) → LargeIn s text at → accepts s text ≡ false
none-large s _ _ (here _ next b rest e l) =
    ap (λ o. on_some o (λ n. small s n (b ∷ rest) && accepts n rest)) e ∙ ap (λ v. not v && accepts next rest) l
none-large s _ _ (later _ next b at rest e l i) =
    ap (λ o. on_some o (λ n. small s n (b ∷ rest) && accepts n rest)) e ∙ ap (λ v. small s next (b ∷ rest) && v) (none-large next rest at i)
    ∙ and_right (small s next (b ∷ rest)) false refl

-- what is of the form has no fault
pub no-byte : (text : List ℕ) (n : ℕ) → AreForms text → first_fault p.start text ≡ Some (stop.Byte n) → ⊥
no-byte text n a h = let s = stopped text p.start n h in let x : true ≡ false = sym (forms-go text a) ∙ none-whole p.start text s.at s.is in cc x

pub no-number : (text : List ℕ) (n : ℕ) → AreForms text → first_fault p.start text ≡ Some (stop.Number n) → ⊥
no-number text n a h = let s = large text p.start n h in let x : true ≡ false = sym (forms-go text a) ∙ none-large p.start text s.at s.is in cc x

-- one digit is a small number
one-digit : (b : ℕ) → nat_le (2 ^ 64) (number_at (b ∷ [])) ≡ false
unfolding number_from
one-digit b = elim (cases_Bool (is_digit b)) [
  | inl digit ↦ rw digit (small b digit)
  | inr other ↦ rw other (grind (arith, nat_tests))
] where
  small : (b : ℕ) → is_digit b ≡ true → nat_le (2 ^ 64) (0 * 10 + (b - 48)) ≡ false
  small b h = grind (arith, nat_tests)

no-text : (s : State) → is_digits s ≡ true → Rest s [] []
no-text (p.digits e k) h = record { rest = []; split = refl; whole = w.ends k [] (w.closed e [] w.ends) }
no-text s h = cc h

any-text : (s : State) (text other u : List ℕ) → is_digits s ≡ false → Rest s text u → Rest s other u
any-text (p.digits e k) text other u d h = cc d
any-text s text other u d h = h

large-digits : (a b c : Bool) → (a && not b && c) ≡ true → (a ≡ true) × (b ≡ false) × (c ≡ true)
large-digits true false true h = (refl, refl, refl)
large-digits true false false h = cc h
large-digits true true c h = cc h
large-digits false b c h = cc h

to-digit : (s : State) (text : List ℕ) (at : ℕ) → LargeIn s text at → (u : List ℕ) × Rest s text (take (at + 1) text ++ u)
to-digit s _ _ (here _ next b rest e l) =
    let d = large-digits (is_digits next) (is_digits s) (nat_le (2 ^ 64) (number_at (b ∷ rest))) l in
    let small : (n : State) → step s b ≡ Some n → is_large s n (b ∷ []) ≡ false = λ n h. and_right (is_digits n && not (is_digits s)) (nat_le (2 ^ 64) (number_at (b ∷ []))) (one-digit b) in
    ([], any-text s (b ∷ []) (b ∷ rest) (b ∷ []) d.1 (rest-step s b [] [] small (subst (λ o. RestOf o [] []) (sym e) (no-text next d.0))))
to-digit s _ _ (later _ next b at rest e l i) =
    let k = to-digit next rest at i in
    let small : (n : State) → step s b ≡ Some n → is_large s n (b ∷ rest) ≡ false = λ n h. let same : next ≡ n = cc in subst (λ z. is_large s z (b ∷ rest) ≡ false) same l in
    let same : suc at + 1 ≡ suc (at + 1) = omega arith in
    (k.0, subst (λ z. Rest s (b ∷ rest) (take z (b ∷ rest) ++ k.0)) (sym same) (rest-step s b rest (take (at + 1) rest ++ k.0) small (subst (λ o. RestOf o rest (take (at + 1) rest ++ k.0)) (sym e) k.1)))

-- where the number begins a part may
opens-large : (s next : State) (b : ℕ) (rest : List ℕ) → step s b ≡ Some next → is_large s next (b ∷ rest) ≡ true → opens s ≡ true
opens-large s next b rest e l =
    let d = large-digits (is_digits next) (is_digits s) (nat_le (2 ^ 64) (number_at (b ∷ rest))) l in
    elim (cases_Bool (opens s)) [
      | inl o ↦ o
      | inr n ↦ absurd (let x : false ≡ true = sym (closed-digits s b n d.1) ∙ ap (λ o. on_some o is_digits) e ∙ d.0 in cc x)
    ]

to-wild : (s : State) (text : List ℕ) (at : ℕ) → LargeIn s text at → (u : List ℕ) × Rest s text (take at text ++ 42 ∷ u)
to-wild s _ _ (here _ next b rest e l) =
    let d = large-digits (is_digits next) (is_digits s) (nat_le (2 ^ 64) (number_at (b ∷ rest))) l in
    let w = wild s (opens-large s next b rest e l) in
    let k = given w.next [] (λ h. let x : true ≡ false = sym h ∙ w.tame in cc) in
    let small : (n : State) → step s 42 ≡ Some n → is_large s n (42 ∷ []) ≡ false = λ n h. and_right (is_digits n && not (is_digits s)) (nat_le (2 ^ 64) (number_at (42 ∷ []))) (one-digit 42) in
    (k.0, any-text s (42 ∷ []) (b ∷ rest) (42 ∷ k.0) d.1 (rest-step s 42 [] k.0 small (subst (λ o. RestOf o [] k.0) (sym w.goes) k.1)))
to-wild s _ _ (later _ next b at rest e l i) =
    let k = to-wild next rest at i in
    let small : (n : State) → step s b ≡ Some n → is_large s n (b ∷ rest) ≡ false = λ n h. let same : next ≡ n = cc in subst (λ z. is_large s z (b ∷ rest) ≡ false) same l in
    (k.0, rest-step s b rest (take at rest ++ 42 ∷ k.0) small (subst (λ o. RestOf o rest (take at rest ++ 42 ∷ k.0)) (sym e) k.1))

-- no digit stands right before it
begins : (s next : State) (b at : ℕ) (rest : List ℕ) → ill s ≡ false → step s b ≡ Some next → LargeIn next rest at → take at rest ≡ [] → is_digit b ≡ false
begins s next b _ _ w e (here _ m c rest k l) h = elim (cases_Bool (is_digit b)) [
  | inr other ↦ other
  | inl digit ↦ absurd (let x : false ≡ true = sym (digit-shut s b w digit) ∙ ap (λ o. on_some o opens) e ∙ opens-large next m c rest k l in cc x)
]
begins s next b _ _ w e (later _ m c at rest k l i) h = cc h

apart : (s : State) (text : List ℕ) (at : ℕ) → ill s ≡ false → LargeIn s text at → (before : List ℕ) (c : ℕ) → take at text ≡ before ++ c ∷ [] → is_digit c ≡ false
apart s _ _ w (here _ next b rest e l) [] c h = cc h
apart s _ _ w (here _ next b rest e l) (d ∷ before) c h = cc h
apart s _ _ w (later _ next b at rest e l i) [] c h =
    let same : b ≡ c = cc h in
    let none : take at rest ≡ [] = cc h in
    subst (λ z. is_digit z ≡ false) same (begins s next b at rest w e i none)
apart s _ _ w (later _ next b at rest e l i) (d ∷ before) c h =
    let later : take at rest ≡ before ++ c ∷ [] = cc h in
    apart next rest at (sym (ap (λ o. on_some o ill) e) ∙ stays-well s b) i before c later

long : (s : State) (text : List ℕ) (at : ℕ) → LargeIn s text at → nat_le (2 ^ 64) (number_at (drop at text)) ≡ true
long s _ _ (here _ next b rest e l) = (large-digits (is_digits next) (is_digits s) (nat_le (2 ^ 64) (number_at (b ∷ rest))) l).2
long s _ _ (later _ next b at rest e l i) = long next rest at i

long-at : (text : List ℕ) (at : ℕ) → at ≤ length text → first_fault p.start text ≡ Some (stop.Number (length text - at)) → IsLongAt text at
long-at text at h e =
    let s = large text p.start (length text - at) e in
    let same : s.at ≡ at = let a = s.split in omega arith in
    let i : LargeIn p.start text at = subst (LargeIn p.start text) same s.is in
    let k = to-wild p.start text at i in
    record {
      front = to-digit p.start text at i;
      part = (k.0, subst AreForms (sym (append_assoc (take at text) (42 ∷ []) k.0)) k.1);
      apart = apart p.start text at refl i;
      long = leb-true (2 ^ 64) (number_at (drop at text)) (long p.start text at i);
    }

numbered : (text : List ℕ) (at : ℕ) → StopsNumber text at → IsLongAt text at
numbered text at h = long-at text at h.within h.first

pub place : PlaceLaw
place = record { form = ranges-form; place = goes-on; number = numbered }
