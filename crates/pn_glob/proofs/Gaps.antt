-- Gaps and what is tried behind them.
use Rattle.std.proofs.Common.{◌≡◌, ℕ, Bool, true, false, List, [], ◌∷◌, refl, sym, ap, subst, ◌∙◌, inl, inr, arith}
use Rattle.std.specs.Prelude.{◌==◌, ◌&&◌, ◌||◌, ◌⊎◌, if◌then◌else◌}
use Rattle.std.proofs.lemmas.Bool.{and_from, and_parts, cases_Bool, eqb-true, or_cases, or_left, or_right}
use Rattle.std.proofs.lemmas.Bool.Decides.{nat_tests}
use Rattle.pn_glob.specs.Gaps.{Rules, any_later, any_rest, first_and, is_end, matches}
use Rattle.pn_glob.specs.WhatIsLeft.{at_gap}

pub or_false : (a b : Bool) → a ≡ false → (a || b) ≡ b
or_false true b h = cc h
or_false false b h = refl

pub rest-here : {A : Type 0} (skip : A → Bool) (f : List A → Bool) (t : List A) → f t ≡ true → any_rest skip f t ≡ true
rest-here skip f [] h = h
rest-here skip f (a ∷ t) h = or_left (f (a ∷ t)) _ h

pub rest-later : {A : Type 0} (skip : A → Bool) (f : List A → Bool) (t : List A) → any_later skip f t ≡ true → any_rest skip f t ≡ true
rest-later skip f [] h = cc h
rest-later skip f (a ∷ t) h = or_right (f (a ∷ t)) _ h

pub rest-split : {A : Type 0} (skip : A → Bool) (f : List A → Bool) (t : List A) → any_rest skip f t ≡ true → (f t ≡ true) ⊎ (any_later skip f t ≡ true)
rest-split skip f [] h = inl h
rest-split skip f (a ∷ t) h = or_cases (f (a ∷ t)) _ h

-- what is tried later is found later by a test that the first one leads to
pub rest-step : {A : Type 0} (skip : A → Bool) (f g : List A → Bool) → ((t : List A) → f t ≡ true → any_later skip g t ≡ true)
    → (t : List A) → any_rest skip f t ≡ true → any_later skip g t ≡ true
rest-step skip f g lead [] h = lead [] h
rest-step skip f g lead (a ∷ t) h = elim (or_cases (f (a ∷ t)) (skip a && any_rest skip f t) h) [
  | inl this ↦ lead (a ∷ t) this
  | inr later ↦ and_from (skip a) (any_rest skip g t) (and_parts (skip a) _ later).0
      (rest-later skip g t (rest-step skip f g lead t (and_parts (skip a) _ later).1))
]

-- two gaps are one
pub rest-join : {A : Type 0} (skip : A → Bool) (g : List A → Bool) (t : List A) → any_rest skip (any_rest skip g) t ≡ true → any_rest skip g t ≡ true
rest-join skip g [] h = h
rest-join skip g (a ∷ t) h = elim (or_cases (any_rest skip g (a ∷ t)) (skip a && any_rest skip (any_rest skip g) t) h) [
  | inl this ↦ this
  | inr later ↦ or_right (g (a ∷ t)) _ (and_from (skip a) (any_rest skip g t) (and_parts (skip a) _ later).0 (rest-join skip g t (and_parts (skip a) _ later).1))
]

-- a test that the gap's items pass alike
pub rest-alike : {A : Type 0} (skip : A → Bool) (f g : List A → Bool) → ((t : List A) → f t ≡ g t) → (t : List A) → any_rest skip f t ≡ any_rest skip g t
rest-alike skip f g same [] = same []
rest-alike skip f g same (a ∷ t) = ap (λ z. z || (skip a && any_rest skip f t)) (same (a ∷ t)) ∙ ap (λ z. g (a ∷ t) || (skip a && z)) (rest-alike skip f g same t)

pub later-alike : {A : Type 0} (skip : A → Bool) (f g : List A → Bool) → ((t : List A) → f t ≡ g t) → (t : List A) → any_later skip f t ≡ any_later skip g t
later-alike skip f g same [] = refl
later-alike skip f g same (a ∷ t) = ap (λ z. skip a && z) (rest-alike skip f g same t)

if_true : {A : Type 0} (b : Bool) (x y : A) → b ≡ true → (if b then x else y) ≡ x
if_true true x y h = refl
if_true false x y h = cc h

if_false : {A : Type 0} (b : Bool) (x y : A) → b ≡ false → (if b then x else y) ≡ y
if_false true x y h = cc h
if_false false x y h = refl

pub gap-is : {C A : Type 0} (r : Rules C A) (c : C) (p : List C) → r.is_gap c ≡ true → (t : List A) → matches r (c ∷ p) t ≡ any_rest r.may_skip (matches r p) t
gap-is r c p h t = if_true (r.is_gap c) _ _ h

pub piece-is : {C A : Type 0} (r : Rules C A) (c : C) (p : List C) → r.is_gap c ≡ false → (t : List A) → matches r (c ∷ p) t ≡ first_and (r.fits c) (matches r p) t
piece-is r c p h t = if_false (r.is_gap c) _ _ h

-- A piece that fits an item that may be skipped fits only such.
abbrev pub Steady : {C A : Type 0} → Rules C A → Type 0
Steady {C} {A} r = (c : C) (a b : A) → r.is_gap c ≡ false → r.fits c a ≡ true → r.may_skip a ≡ true → r.fits c b ≡ true → r.may_skip b ≡ true

first-later : {C A : Type 0} (r : Rules C A) (c : C) (p : List C) → ((b : A) → r.fits c b ≡ true → r.may_skip b ≡ true) → r.is_gap c ≡ false
    → (t : List A) → matches r (c ∷ p) t ≡ true → any_later r.may_skip (matches r p) t ≡ true
first-later r c p steady g [] h = cc (sym (piece-is r c p g []) ∙ h)
first-later r c p steady g (b ∷ t) h =
    let both = sym (piece-is r c p g (b ∷ t)) ∙ h in
    and_from (r.may_skip b) _ (steady b (and_parts (r.fits c b) (matches r p t) both).0) (rest-here r.may_skip (matches r p) t (and_parts (r.fits c b) (matches r p t) both).1)

pub later-step : {C A : Type 0} (r : Rules C A) → Steady r → (c : C) (p : List C) (a : A) (t : List A) → r.is_gap c ≡ false → r.fits c a ≡ true
    → any_later r.may_skip (matches r (c ∷ p)) (a ∷ t) ≡ true → any_later r.may_skip (matches r p) t ≡ true
later-step r steady c p a t g f h = rest-step r.may_skip (matches r (c ∷ p)) (matches r p)
    (first-later r c p (λ b. steady c a b g f (and_parts (r.may_skip a) _ h).0) g) t (and_parts (r.may_skip a) _ h).1

-- what is found later is found at once where a gap comes next
pub later-gap : {C A : Type 0} (r : Rules C A) (c : C) (p : List C) (t : List A) → r.is_gap c ≡ true
    → any_later r.may_skip (matches r (c ∷ p)) t ≡ true → matches r (c ∷ p) t ≡ true
later-gap r c p t g h = gap-is r c p g t
    ∙ rest-join r.may_skip (matches r p) t (rest-later r.may_skip (any_rest r.may_skip (matches r p)) t
    (sym (later-alike r.may_skip (matches r (c ∷ p)) (any_rest r.may_skip (matches r p)) (gap-is r c p g) t) ∙ h))

pub piece-step : {C A : Type 0} (r : Rules C A) (c : C) (p : List C) (a : A) (t : List A) → r.is_gap c ≡ false → r.fits c a ≡ true
    → matches r (c ∷ p) (a ∷ t) ≡ matches r p t
piece-step r c p a t g f = piece-is r c p g (a ∷ t) ∙ ap (λ z. z && matches r p t) f

pub piece-end : {C A : Type 0} (r : Rules C A) (c : C) (p : List C) → r.is_gap c ≡ false → matches r (c ∷ p) [] ≡ false
piece-end r c p g = piece-is r c p g []

pub piece-unfit : {C A : Type 0} (r : Rules C A) (c : C) (p : List C) (a : A) (t : List A) → r.is_gap c ≡ false → r.fits c a ≡ false
    → matches r (c ∷ p) (a ∷ t) ≡ false
piece-unfit r c p a t g f = piece-is r c p g (a ∷ t) ∙ ap (λ z. z && matches r p t) f

-- where the pieces before a gap fit first, nothing later is needed
pub rest-found : {A : Type 0} (skip : A → Bool) (f : List A → Bool) (t : List A) (m : Bool) → f t ≡ m → (any_later skip f t ≡ true → m ≡ true) → any_rest skip f t ≡ m
rest-found skip f t true e h = rest-here skip f t e
rest-found skip f t false e h = elim (cases_Bool (any_rest skip f t)) [
  | inl holds ↦ elim (rest-split skip f t holds) [ inl this ↦ cc (sym e ∙ this) | inr later ↦ cc (h later) ]
  | inr other ↦ other
]

pub rest-on : {A : Type 0} (skip : A → Bool) (f : List A → Bool) (a : A) (t : List A) → f (a ∷ t) ≡ false → skip a ≡ true → any_rest skip f (a ∷ t) ≡ any_rest skip f t
rest-on skip f a t e s = or_false (f (a ∷ t)) _ e ∙ ap (λ z. z && any_rest skip f t) s

pub rest-stop : {A : Type 0} (skip : A → Bool) (f : List A → Bool) (a : A) (t : List A) → f (a ∷ t) ≡ false → skip a ≡ false → any_rest skip f (a ∷ t) ≡ false
rest-stop skip f a t e s = or_false (f (a ∷ t)) _ e ∙ ap (λ z. z && any_rest skip f t) s

pub at-gap-end : {C A : Type 0} (r : Rules C A) (t : List A) (p : List C) → p ≡ [] → at_gap r p t ≡ true → matches r p t ≡ true
at-gap-end {C} {A} r t p e h = subst (λ (q : List C). matches r q t ≡ true) (sym e) (subst (λ (q : List C). at_gap r q t ≡ true) e h)

-- a step of the matcher
pub on-step : {C A : Type 0} (r : Rules C A) → Steady r → (left p : List C) (rest t : List A) (c : C) (a : A) → left ≡ c ∷ p → rest ≡ a ∷ t → r.is_gap c ≡ false → r.fits c a ≡ true
    → (matches r left rest ≡ matches r p t) × (any_later r.may_skip (matches r left) rest ≡ true → any_later r.may_skip (matches r p) t ≡ true)
on-step {C} {A} r steady left p rest t c a el er g f =
    subst (λ (q : List C). (matches r q rest ≡ matches r p t) × (any_later r.may_skip (matches r q) rest ≡ true → any_later r.may_skip (matches r p) t ≡ true)) (sym el)
    (subst (λ (s : List A). (matches r (c ∷ p) s ≡ matches r p t) × (any_later r.may_skip (matches r (c ∷ p)) s ≡ true → any_later r.may_skip (matches r p) t ≡ true)) (sym er)
    (piece-step r c p a t g f, later-step r steady c p a t g f))

pub on-gap : {C A : Type 0} (r : Rules C A) (left p : List C) (rest : List A) (c : C) → left ≡ c ∷ p → r.is_gap c ≡ true
    → (at_gap r left rest ≡ true) × (any_later r.may_skip (matches r left) rest ≡ true → matches r left rest ≡ true)
on-gap {C} {A} r left p rest c e g =
    subst (λ (q : List C). (at_gap r q rest ≡ true) × (any_later r.may_skip (matches r q) rest ≡ true → matches r q rest ≡ true)) (sym e)
    (g, later-gap r c p rest g)

-- where a step is not to be made
pub on-end : {C A : Type 0} (r : Rules C A) (left p : List C) (rest : List A) (c : C) → left ≡ c ∷ p → rest ≡ [] → r.is_gap c ≡ false → matches r left rest ≡ false
on-end {C} {A} r left p rest c el er g = subst (λ (q : List C). matches r q rest ≡ false) (sym el)
    (subst (λ (s : List A). matches r (c ∷ p) s ≡ false) (sym er) (piece-end r c p g))

pub on-unfit : {C A : Type 0} (r : Rules C A) (left p : List C) (rest t : List A) (c : C) (a : A) → left ≡ c ∷ p → rest ≡ a ∷ t → r.is_gap c ≡ false → r.fits c a ≡ false
    → matches r left rest ≡ false
on-unfit {C} {A} r left p rest t c a el er g f = subst (λ (q : List C). matches r q rest ≡ false) (sym el)
    (subst (λ (s : List A). matches r (c ∷ p) s ≡ false) (sym er) (piece-unfit r c p a t g f))

-- a pattern at its end
pub on-empty : {C A : Type 0} (r : Rules C A) (left : List C) (rest : List A) → left ≡ [] → matches r left rest ≡ is_end rest
on-empty {C} {A} r left rest e = ap (λ (q : List C). matches r q rest) e

-- a pattern whose gap comes next
pub behind-gap : {C A : Type 0} (r : Rules C A) (left p : List C) (rest : List A) (c : C) → left ≡ c ∷ p → at_gap r left rest ≡ true
    → matches r left rest ≡ any_rest r.may_skip (matches r p) rest
behind-gap {C} {A} r left p rest c e g =
    ap (λ (q : List C). matches r q rest) e ∙ gap-is r c p (subst (λ (q : List C). at_gap r q rest ≡ true) e g) rest

-- a place of the text passed over
pub next-place : {A : Type 0} (skip : A → Bool) (f : List A → Bool) (rest t : List A) (a : A) → rest ≡ a ∷ t → f rest ≡ false → skip a ≡ true → any_rest skip f rest ≡ any_rest skip f t
next-place {A} skip f rest t a e h s =
    ap (any_rest skip f) e ∙ rest-on skip f a t (subst (λ (y : List A). f y ≡ false) e h) s

pub last-place : {A : Type 0} (skip : A → Bool) (f : List A → Bool) (rest : List A) → rest ≡ [] → f rest ≡ false → any_rest skip f rest ≡ false
last-place {A} skip f rest e h = ap (any_rest skip f) e ∙ subst (λ (y : List A). f y ≡ false) e h

pub barred-place : {A : Type 0} (skip : A → Bool) (f : List A → Bool) (rest t : List A) (a : A) → rest ≡ a ∷ t → f rest ≡ false → skip a ≡ false → any_rest skip f rest ≡ false
barred-place {A} skip f rest t a e h s =
    ap (any_rest skip f) e ∙ rest-stop skip f a t (subst (λ (y : List A). f y ≡ false) e h) s

pub eq-true : (b n : ℕ) → b ≡ n → (b == n) ≡ true
eq-true b n h = grind (arith, nat_tests, h)

pub eq-false : (b n : ℕ) → (b ≡ n → ⊥) → (b == n) ≡ false
eq-false b n h = elim (cases_Bool (b == n)) [ inl same ↦ absurd (h (eqb-true b n same)) | inr other ↦ other ]
