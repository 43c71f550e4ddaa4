-- One reading of a path pattern from left to right, to which each spelling and each stop leads.
use Rattle.std.proofs.Common.{◌≡◌, ◌≤◌, ◌<◌, ◌+◌, ◌-◌, ℕ, true, false, List, [], ◌∷◌, ◌++◌, length, refl, sym, ap, subst, ◌∙◌, inl, inr, arith, append_assoc, append-nil, length-append}
use Rattle.std.specs.Prelude.{◌==◌, ◌&&◌, ◌||◌, not, nat_le, if◌then◌else◌}
use Rattle.std.specs.List.{list_all}
use Rattle.std.proofs.lemmas.Bool.{and_parts, eqb-true, le-leb, lt-leb, or_cases}
use Rattle.std.proofs.lemmas.Bool.Decides.{nat_tests}
use Rattle.pn_glob.specs.Bytes.{is_bracket}
use Rattle.pn_glob.specs.Grammar.{Chosen, HasBadByte, HasMany, IsOpen, IsStopped, Spells, each_with, ends_choice, is_inner, is_plain, one, more, empty, plain, brace, outside, inside}

-- Where a reading stands: outside of braces behind these texts; in a brace behind the texts before it, with those of its
-- choices that ended and those of the last one; behind a byte that can't stand there, which was so many bytes ago; or
-- behind a choice with which the texts are too many.
pub data Turn : Type 0 where
  out : List (List ℕ) → Turn
  within : List (List ℕ) → List (List ℕ) → List (List ℕ) → Turn
  stopped : ℕ → Turn
  many : Turn

-- behind the byte that ends a choice
abbrev pub chosen_turn : List (List ℕ) → List (List ℕ) → ℕ → Turn
chosen_turn cs ds b = if nat_le (length ds) 64 then (if b == 125 then out ds else within cs ds cs) else many

abbrev pub turn : Turn → ℕ → Turn
turn (out cs) b = if is_plain b then out (each_with cs (b ∷ [])) else (if b == 123 then within cs [] cs else stopped 1)
turn (within cs ds es) b =
    if is_inner b then within cs ds (each_with es (b ∷ [])) else (if (b == 44) || (b == 125) then chosen_turn cs (ds ++ es) b else stopped 1)
turn (stopped n) b = stopped (n + 1)
turn many b = many

abbrev pub turned : Turn → List ℕ → Turn
turned s [] = s
turned s (b ∷ t) = turned (turn s b) t

abbrev pub start : Turn
start = out ([] ∷ [])

turned-append : (s : Turn) (x y : List ℕ) → turned s (x ++ y) ≡ turned (turned s x) y
turned-append s [] y = refl
turned-append s (b ∷ x) y = turned-append (turn s b) x y

each-empty : (cs : List (List ℕ)) → each_with cs [] ≡ cs
each-empty [] = refl
each-empty (c ∷ cs) = ap (λ (x : List ℕ). x ∷ each_with cs []) (append-nil c) ∙ ap (λ (xs : List (List ℕ)). c ∷ xs) (each-empty cs)

each-more : (cs : List (List ℕ)) (b : ℕ) (x : List ℕ) → each_with (each_with cs (b ∷ [])) x ≡ each_with cs (b ∷ x)
each-more [] b x = refl
each-more (c ∷ cs) b x =
    ap (λ (y : List ℕ). y ∷ each_with (each_with cs (b ∷ [])) x) (append_assoc c (b ∷ []) x) ∙ ap (λ (xs : List (List ℕ)). (c ++ b ∷ x) ∷ xs) (each-more cs b x)

plain-turned : (x : List ℕ) (cs : List (List ℕ)) → list_all is_plain x ≡ true → turned (out cs) x ≡ out (each_with cs x)
plain-turned [] cs h = ap out (sym (each-empty cs))
plain-turned (b ∷ x) cs h =
    ap (λ v. turned (if v then out (each_with cs (b ∷ [])) else (if b == 123 then within cs [] cs else stopped 1)) x) (and_parts (is_plain b) _ h).0
    ∙ plain-turned x (each_with cs (b ∷ [])) (and_parts (is_plain b) _ h).1
    ∙ ap out (each-more cs b x)

inner-turned : (x : List ℕ) (cs ds es : List (List ℕ)) → list_all is_inner x ≡ true → turned (within cs ds es) x ≡ within cs ds (each_with es x)
inner-turned [] cs ds es h = ap (λ z. within cs ds z) (sym (each-empty es))
inner-turned (b ∷ x) cs ds es h =
    ap (λ v. turned (if v then within cs ds (each_with es (b ∷ [])) else (if (b == 44) || (b == 125) then chosen_turn cs (ds ++ es) b else stopped 1)) x) (and_parts (is_inner b) _ h).0
    ∙ inner-turned x cs ds (each_with es (b ∷ [])) (and_parts (is_inner b) _ h).1
    ∙ ap (λ z. within cs ds z) (each-more es b x)

-- where a reading stands in a brace
record Within (cs : List (List ℕ)) (u : List ℕ) (ds : List (List ℕ)) : Type 0 where
  pub ended : List (List ℕ)
  pub last : List (List ℕ)
  pub whole : ds ≡ ended ++ last
  pub goes : turned (within cs [] cs) u ≡ within cs ended last

few-turn : (cs ds : List (List ℕ)) (b : ℕ) → length ds ≤ 64 → chosen_turn cs ds b ≡ (if b == 125 then out ds else within cs ds cs)
few-turn cs ds b few = ap (λ v. if v then (if b == 125 then out ds else within cs ds cs) else many) (le-leb (length ds) 64 few)

many-turn : (cs ds : List (List ℕ)) (b : ℕ) → 64 < length ds → chosen_turn cs ds b ≡ many
many-turn cs ds b h = ap (λ v. if v then (if b == 125 then out ds else within cs ds cs) else many) (lt-leb (length ds) 64 h)

chosen-turned : (cs : List (List ℕ)) (u : List ℕ) (ds : List (List ℕ)) → Chosen cs u ds → Within cs u ds
chosen-turned cs _ _ (one x h) = record { ended = []; last = each_with cs x; whole = refl; goes = inner-turned x cs [] cs h }
chosen-turned cs _ _ (more u x ds c few h) =
    let w = chosen-turned cs u ds c in
    let comma : turn (within cs w.ended w.last) 44 ≡ within cs ds cs =
    ap (λ (z : List (List ℕ)). chosen_turn cs z 44) (sym w.whole) ∙ few-turn cs ds 44 few in
    record {
      ended = ds;
      last = each_with cs x;
      whole = refl;
      goes = turned-append (within cs [] cs) u (44 ∷ x) ∙ ap (λ s. turned s (44 ∷ x)) w.goes ∙ ap (λ s. turned s x) comma ∙ inner-turned x cs ds cs h;
    }

-- the same with more text behind the choices
within-more : (cs : List (List ℕ)) (u : List ℕ) (ds : List (List ℕ)) (y : List ℕ) → (w : Within cs u ds)
    → turned (out cs) (123 ∷ (u ++ y)) ≡ turned (within cs w.ended w.last) y
within-more cs u ds y w = turned-append (within cs [] cs) u y ∙ ap (λ z. turned z y) w.goes

spelled-out : (t : List ℕ) (cs : List (List ℕ)) → Spells t cs → turned start t ≡ out cs
spelled-out _ _ empty = refl
spelled-out _ _ (plain t x cs s h) = turned-append start t x ∙ ap (λ z. turned z x) (spelled-out t cs s) ∙ plain-turned x cs h
spelled-out _ ds (brace t u cs _ s c few) =
    let w = chosen-turned cs u ds c in
    turned-append start t (123 ∷ (u ++ 125 ∷ []))
    ∙ ap (λ z. turned z (123 ∷ (u ++ 125 ∷ []))) (spelled-out t cs s)
    ∙ within-more cs u ds (125 ∷ []) w
    ∙ ap (λ (z : List (List ℕ)). chosen_turn cs z 125) (sym w.whole)
    ∙ few-turn cs ds 125 few

-- a text behind a front that is spelled
spelled-more : (t : List ℕ) (cs : List (List ℕ)) (y : List ℕ) → Spells t cs → turned start (t ++ y) ≡ turned (out cs) y
spelled-more t cs y s = turned-append start t y ∙ ap (λ z. turned z y) (spelled-out t cs s)

-- a text behind the choices of a brace behind such a front
chosen-more : (t : List ℕ) (cs : List (List ℕ)) (u : List ℕ) (ds : List (List ℕ)) (y : List ℕ) → Spells t cs → (w : Within cs u ds)
    → turned start (t ++ 123 ∷ (u ++ y)) ≡ turned (within cs w.ended w.last) y
chosen-more t cs u ds y s w = spelled-more t cs (123 ∷ (u ++ y)) s ∙ within-more cs u ds y w

stopped-more : (n : ℕ) (t : List ℕ) → turned (stopped n) t ≡ stopped (n + length t)
stopped-more n [] = ap stopped (let e : n ≡ n + 0 = omega arith in e)
stopped-more n (b ∷ t) = stopped-more (n + 1) t ∙ ap stopped (let e : n + 1 + length t ≡ n + length (b ∷ t) = omega arith in e)

many-more : (t : List ℕ) → turned many t ≡ many
many-more [] = refl
many-more (b ∷ t) = many-more t

-- a bracket is no comma
bracket-other : (b : ℕ) → is_bracket b ≡ true → (b == 44) ≡ false
bracket-other b h = grind (arith, nat_tests)

outside-stops : (cs : List (List ℕ)) (b : ℕ) → is_bracket b ≡ true → (b == 123) ≡ false → turn (out cs) b ≡ stopped 1
outside-stops cs b h o =
    ap (λ v. if not v then out (each_with cs (b ∷ [])) else (if b == 123 then within cs [] cs else stopped 1)) h
    ∙ ap (λ v. if v then within cs [] cs else stopped 1) o

inside-stops : (cs ds es : List (List ℕ)) (b : ℕ) → is_bracket b ≡ true → (b == 125) ≡ false → turn (within cs ds es) b ≡ stopped 1
inside-stops cs ds es b h o =
    ap (λ v. if not v && not (b == 44) then within cs ds (each_with es (b ∷ [])) else (if (b == 44) || (b == 125) then chosen_turn cs (ds ++ es) b else stopped 1)) h
    ∙ ap (λ v. if v || (b == 125) then chosen_turn cs (ds ++ es) b else stopped 1) (bracket-other b h)
    ∙ ap (λ v. if v then chosen_turn cs (ds ++ es) b else stopped 1) o

byte-stops : (t : List ℕ) (b : ℕ) (y : List ℕ) → IsStopped t b → turned start (t ++ b ∷ y) ≡ turned (stopped 1) y
byte-stops _ b y (outside t cs _ s h o) = spelled-more t cs (b ∷ y) s ∙ ap (λ z. turned z y) (outside-stops cs b h o)
byte-stops _ b y (inside t u cs ds _ s c h o) =
    let w = chosen-turned cs u ds c in
    ap (turned start) (append_assoc t (123 ∷ u) (b ∷ y))
    ∙ chosen-more t cs u ds (b ∷ y) s w
    ∙ ap (λ z. turned z y) (inside-stops cs w.ended w.last b h o)

-- where a pattern leads
pub spells-turned : (body : List ℕ) (cs : List (List ℕ)) → Spells body cs → turned start body ≡ out cs
spells-turned body cs s = spelled-out body cs s

pub bad-turned : (body : List ℕ) (at : ℕ) → HasBadByte body at → turned start body ≡ stopped (length body - at)
bad-turned body at h =
    let n = ap (λ (y : List ℕ). length y) h.split ∙ length-append h.front (h.byte ∷ h.after) in
    let p = h.place in
    ap (turned start) h.split
    ∙ byte-stops h.front h.byte h.after h.stopped
    ∙ stopped-more 1 h.after
    ∙ ap stopped (let e : 1 + length h.after ≡ length body - at = omega arith in e)

pub record IsWithin (s : Turn) : Type 0 where
  pub before : List (List ℕ)
  pub ended : List (List ℕ)
  pub last : List (List ℕ)
  pub «is» : s ≡ within before ended last

pub open-turned : (body : List ℕ) → IsOpen body → IsWithin (turned start body)
open-turned body h =
    let w = chosen-turned h.before h.inner h.chosen h.choices in
    record {
      before = h.before;
      ended = w.ended;
      last = w.last;
      «is» = ap (turned start) h.split ∙ spelled-more h.front h.before (123 ∷ h.inner) h.spelled ∙ w.goes;
    }

ended-many : (cs ds es : List (List ℕ)) (y : List ℕ) → ends_choice y ≡ true → 64 < length (ds ++ es) → turned (within cs ds es) y ≡ many
ended-many cs ds es [] e m = cc e
ended-many cs ds es (b ∷ y) e m = elim (or_cases (b == 44) (b == 125) e) [
  | inl comma ↦ ap (λ z. turned (turn (within cs ds es) z) y) (eqb-true b 44 comma) ∙ ap (λ z. turned z y) (many-turn cs (ds ++ es) 44 m) ∙ many-more y
  | inr close ↦ ap (λ z. turned (turn (within cs ds es) z) y) (eqb-true b 125 close) ∙ ap (λ z. turned z y) (many-turn cs (ds ++ es) 125 m) ∙ many-more y
]

pub many-turned : (body : List ℕ) → HasMany body → turned start body ≡ many
many-turned body h =
    let w = chosen-turned h.before h.inner h.chosen h.choices in
    ap (turned start) h.split
    ∙ chosen-more h.front h.before h.inner h.chosen h.after h.spelled w
    ∙ ended-many h.before w.ended w.last h.after h.ends (subst (λ (z : List (List ℕ)). 64 < length z) w.whole h.many)
