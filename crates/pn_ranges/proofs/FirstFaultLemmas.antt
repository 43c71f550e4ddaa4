-- Steps of the automaton.
use Rattle.std.proofs.Common.{◌≡◌, ℕ, Bool, true, false, List, [], ◌∷◌, length, Option, Some, Result, Ok, Err, IfErr, refl, sym, ap, ◌∙◌, inl, inr}
use Rattle.std.specs.Prelude.{◌==◌, ◌&&◌, not, nat_lt, if◌then◌else◌}
use Rattle.std.specs.Result.{IsErrAnd}
use Rattle.std.proofs.lemmas.Bool.{cases_Bool}
use Rattle.pn_ranges.specs.declared.fault.Stop.{Stop}
use Rattle.pn_ranges.specs.declared.fault.Stop.TheVariants.{Byte, Number}
use Rattle.pn_ranges.specs.Bytes.{is_space, is_digit, behind, starts_with}
use Rattle.pn_ranges.specs.Places.{Turn, State, first, later, upper, after, bar, dot, whole, digits, hyphen, plus, step, whole_step, after_step, is_digits, is_large, on_step, first_fault, fault_after}
use Rattle.pn_ranges.proofs.FrontOfLemmas.{behind-next, behind-same}

-- one byte on
pub fault-step : (s next : State) (b : ℕ) (rest : List ℕ) → step s b ≡ Some next → is_large s next (b ∷ rest) ≡ false → first_fault s (b ∷ rest) ≡ first_fault next rest
fault-step s next b rest h small =
    ap (λ o. on_step o (λ n. if is_large s n (b ∷ rest) then Some (Number (length (b ∷ rest))) else first_fault n rest) (Some (Byte (length (b ∷ rest))))) h
    ∙ ap (λ v. if v then Some (Number (length (b ∷ rest))) else first_fault next rest) small

pub after-not_digits : (e : Turn) → is_digits (after e) ≡ false
after-not_digits first = refl
after-not_digits later = refl
after-not_digits upper = refl

on-after : (e : Turn) (b : ℕ) (f g : State → Option Stop) (d : Option Stop) → ((s : State) → is_digits s ≡ false → f s ≡ g s)
    → on_step (after_step e b) f d ≡ on_step (after_step e b) g d
on-after e b f g d h = elim (cases_Bool (is_space b)) [
  | inl space ↦ rw space (h (after e) (after-not_digits e))
  | inr nospace ↦ elim (cases_Bool (b == 124)) [
    | inl bars ↦ rw (nospace, bars) (h bar refl)
    | inr nobar ↦ rw (nospace, nobar) refl
  ]
]

-- no number begins behind a part
on-whole : (e : Turn) (k b : ℕ) (f g : State → Option Stop) (d : Option Stop) → ((s : State) → is_digits s ≡ false → f s ≡ g s)
    → on_step (whole_step e k b) f d ≡ on_step (whole_step e k b) g d
on-whole e k b f g d h = elim (cases_Bool ((b == 46) && nat_lt k 3)) [
  | inl dots ↦ rw dots (h (dot e k) refl)
  | inr nodot ↦ elim (cases_Bool ((b == 45) && (k == 3))) [
    | inl minus ↦ rw (nodot, minus) (h (hyphen e) refl)
    | inr nominus ↦ elim (cases_Bool ((b == 43) && (k == 3))) [
      | inl more ↦ rw (nodot, nominus, more) (h (plus e) refl)
      | inr nomore ↦ rw (nodot, nominus, nomore) (on-after e b f g d h)
    ]
  ]
]

no-large : (d x : Bool) → (d && not d && x) ≡ false
no-large true x = refl
no-large false x = refl

-- bytes at which the automaton stays where it is
pub run : (s : State) (test : ℕ → Bool) → ((b : ℕ) → test b ≡ true → step s b ≡ Some s) → (text : List ℕ) → first_fault s text ≡ first_fault s (behind test text)
run s test stays [] = refl
run s test stays (b ∷ rest) = elim (cases_Bool (test b)) [
  | inl holds ↦ fault-step s s b rest (stays b holds) (no-large (is_digits s) _) ∙ run s test stays rest ∙ ap (first_fault s) (sym (behind-next test b rest holds))
  | inr fails ↦ ap (first_fault s) (sym (behind-same test (b ∷ rest) fails))
]

-- the digits of a number
pub digits-run : (e : Turn) (k : ℕ) (text : List ℕ) → first_fault (digits e k) text ≡ first_fault (digits e k) (behind is_digit text)
digits-run e k text = run (digits e k) is_digit (λ b h. rw h refl) text

pub digits-whole : (e : Turn) (k : ℕ) (text : List ℕ) → starts_with is_digit text ≡ false → first_fault (digits e k) text ≡ first_fault (whole e k) text
digits-whole e k [] h = refl
digits-whole e k (b ∷ rest) h = rw h (on-whole e k b _ _ _ (λ s d. rw d refl))

-- behind a whole version nothing but spaces, `|` or the end comes
pub after-same : (s : State) (e : Turn) (b : ℕ) (rest : List ℕ)
    → on_step (after_step e b) (λ n. if is_large s n (b ∷ rest) then Some (Number (length (b ∷ rest))) else first_fault n rest) (Some (Byte (length (b ∷ rest))))
    ≡ fault_after e (b ∷ rest)
after-same s e b rest = on-after e b _ _ _ (λ n h. rw h refl)

-- a refusal that is passed on
pub exit_stops : {T : Type 0} (f : Turn → Option Stop) (r : Result T Stop) (x : Stop) → IsErrAnd r (λ y. y ≡ x) → ((e : Turn) → f e ≡ Some x) → IfErr r (λ s. (e : Turn) → f e ≡ Some s)
exit_stops f (Ok v) x h stops = tt
exit_stops f (Err s) x h stops = λ e. stops e ∙ ap (λ (z : Stop). Some z) (sym h)

-- the same where no space comes first
pub space_exit : {T : Type 0} (text : List ℕ) (f : Turn → Option Stop) (r : Result T Stop) (x : Stop) → IsErrAnd r (λ y. y ≡ x) → ((e : Turn) → starts_with is_space text ≡ false → f e ≡ Some x)
    → IfErr r (λ s. (e : Turn) → starts_with is_space text ≡ false → f e ≡ Some s)
space_exit text f (Ok v) x h stops = tt
space_exit text f (Err s) x h stops = λ e n. stops e n ∙ ap (λ (z : Stop). Some z) (sym h)
