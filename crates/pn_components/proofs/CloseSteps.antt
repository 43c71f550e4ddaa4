-- Places of the stack are closed one after the other.
use Rattle.std.proofs.Common.{◌≡◌, ◌≢◌, ◌<◌, ◌≤◌, ℕ, zero, suc, ◌+◌, List, [], ◌∷◌, length, get_or, set, map, refl, sym, ap, ◌∙◌, cond, true, false, inl, inr, arith}
use Rattle.std.specs.Prelude.{nat_le, nat_lt, ◌&&◌, Bool}
use Rattle.std.proofs.lemmas.Bool.{cases_eq, cases_lt, le-leb, lt-leb, lt-ltb, le-ltb}
use Rattle.std.proofs.lemmas.List.{ext_get_or, get_or-set_same, get_or-set_other, length-map, length-set}
use Rattle.pn_components.specs.declared.walk.Mark.{Mark}
use Rattle.pn_components.specs.declared.walk.Mark.TheVariants.{New, Open, Done}
use Rattle.pn_components.specs.Walks.{mark_of}
use Rattle.pn_components.proofs.MarkLemmas.{closed_mark, mark-map}

-- the mark after the places of the stack from one up to another were closed
abbrev pub closed_upto : ℕ → ℕ → ℕ → Mark → Mark
closed_upto first n up New = New
closed_upto first n up (Open i) = cond (nat_le first i && nat_lt i up) (Done n) (Open i)
closed_upto first n up (Done m) = Done m

pub marked_within : (marks : List Mark) (v : ℕ) → mark_of marks v ≢ New → v < length marks
marked_within [] zero h = absurd (h refl)
marked_within [] (suc v) h = absurd (h refl)
marked_within (m ∷ ms) zero h = omega arith
marked_within (m ∷ ms) (suc v) h = let r = marked_within ms v h in omega arith

pub map_same : (f g : Mark → Mark) (marks : List Mark) → ((v : ℕ) → v < length marks → f (mark_of marks v) ≡ g (mark_of marks v)) → map f marks ≡ map g marks
map_same f g [] h = refl
map_same f g (m ∷ ms) h =
    let first : f m ≡ g m = h 0 (omega arith) in
    let rest = map_same f g ms (λ v lt. h (suc v) (omega (arith, lt))) in
    cc (first, rest)

map_id : (marks : List Mark) → map (λ (m : Mark). m) marks ≡ marks
map_id [] = refl
map_id (m ∷ ms) = ap (λ (r : List Mark). m ∷ r) (map_id ms)

no_room : (first i : ℕ) → (nat_le first i && nat_lt i first) ≡ false
no_room first i = elim (cases_lt i first) [
  | inl low ↦ ap (λ (b : Bool). b && nat_lt i first) (lt-leb first i low)
  | inr high ↦ ap (λ (b : Bool). nat_le first i && b) (le-ltb i first high) ∙ none (nat_le first i)
] where
  none : (b : Bool) → (b && false) ≡ false
  none true = refl
  none false = refl

none_closed : (first n : ℕ) (m : Mark) → closed_upto first n first m ≡ m
none_closed first n New = refl
none_closed first n (Done k) = refl
none_closed first n (Open i) = ap (λ (b : Bool). cond b (Done n) (Open i)) (no_room first i)

pub upto_none : (first n : ℕ) (marks : List Mark) → map (closed_upto first n first) marks ≡ marks
upto_none first n marks = map_same (closed_upto first n first) (λ (m : Mark). m) marks (λ v lt. none_closed first n (mark_of marks v)) ∙ map_id marks

-- nothing changes at a mark that isn't the next one
other_step : (first n up : ℕ) (m : Mark) → m ≢ Open up → closed_upto first n up m ≡ closed_upto first n (up + 1) m
other_step first n up New ne = refl
other_step first n up (Done k) ne = refl
other_step first n up (Open i) ne = ap (λ (b : Bool). cond (nat_le first i && b) (Done n) (Open i)) (elim (cases_lt i up) [
  | inl low ↦ lt-ltb i up low ∙ sym (lt-ltb i (up + 1) (omega (arith, low)))
  | inr high ↦
      let far : i ≢ up = λ (e : i ≡ up). ne (ap Open e) in
      le-ltb i up high ∙ sym (le-ltb i (up + 1) (above far high))
]) where
  above : i ≢ up → up ≤ i → up + 1 ≤ i
  above far high = omega (arith, far, high)

this_step : (first n up : ℕ) → first ≤ up → closed_upto first n (up + 1) (Open up) ≡ Done n
this_step first n up h =
    ap (λ (b : Bool). cond (b && nat_lt up (up + 1)) (Done n) (Open up)) (le-leb first up h) ∙ ap (λ (b : Bool). cond b (Done n) (Open up)) (lt-ltb up (up + 1) (omega arith))

pub upto_more : (first n up v : ℕ) (marks : List Mark) → first ≤ up → mark_of marks v ≡ Open up → ((w : ℕ) → mark_of marks w ≡ Open up → w ≡ v)
    → set (map (closed_upto first n up) marks) v (Done n) ≡ map (closed_upto first n (up + 1)) marks
upto_more first n up v marks le is only =
    let f = closed_upto first n up in
    let g = closed_upto first n (up + 1) in
    let within : v < length marks = marked_within marks v (λ e. cc (is, e)) in
    ext_get_or New (set (map f marks) v (Done n)) (map g marks) (length-set (map f marks) v (Done n) ∙ length-map marks f ∙ sym (length-map marks g))
    (λ w lt. elim (cases_eq w v) [
      | inl e ↦
          ap (λ (x : ℕ). get_or (set (map f marks) v (Done n)) x New) e ∙ get_or-set_same (map f marks) v (Done n) New (omega (arith, within, length-map marks f))
          ∙ sym (mark-map g refl marks w ∙ ap g (ap (mark_of marks) e ∙ is) ∙ this_step first n up le)
      | inr ne ↦
          get_or-set_other (map f marks) v w (Done n) New ne ∙ mark-map f refl marks w
          ∙ other_step first n up (mark_of marks w) (λ e. ne (only w e)) ∙ sym (mark-map g refl marks w)
    ])

all_closed : (first n up : ℕ) (m : Mark) → ((i : ℕ) → m ≡ Open i → i < up) → closed_upto first n up m ≡ closed_mark first n m
all_closed first n up New h = refl
all_closed first n up (Done k) h = refl
all_closed first n up (Open i) h = ap (λ (b : Bool). cond (nat_le first i && b) (Done n) (Open i)) (lt-ltb i up (h i refl)) ∙ ap (λ (b : Bool). cond b (Done n) (Open i)) (right (nat_le first i)) where
  right : (b : Bool) → (b && true) ≡ b
  right true = refl
  right false = refl

pub upto_all : (first n up : ℕ) (marks : List Mark) → ((v i : ℕ) → mark_of marks v ≡ Open i → i < up) → map (closed_upto first n up) marks ≡ map (closed_mark first n) marks
upto_all first n up marks h = map_same (closed_upto first n up) (closed_mark first n) marks (λ v lt. all_closed first n up (mark_of marks v) (h v))
