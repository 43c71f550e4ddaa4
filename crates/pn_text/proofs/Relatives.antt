-- Lemmas on relative paths.
use Rattle.std.proofs.Common.{◌≡◌, ◌≢◌, ℕ, ◌+◌, ◌<◌, ◌≤◌, List, [], ◌∷◌, ◌++◌, length, get_or, take, drop, refl, sym, ap, ◌∙◌, subst, append_assoc, append-nil, arith, Bool, true, false, length-append, inl, inr}
use Rattle.std.specs.Prelude.{◌⊎◌, ◌==◌, ◌||◌, if◌then◌else◌, IsTrue, not, suc}
use Rattle.std.specs.List.{list_any}
use Rattle.std.specs.Str.{IsCharBoundary, bytes_eq}
use Rattle.std.proofs.lemmas.Bool.{eqb-true}
use Rattle.std.proofs.lemmas.Slice.Eq.{bytes_eq-Decides}
use Rattle.std.proofs.lemmas.List.{drop_more, drop_at, append_cancel_right}
use Rattle.std.proofs.lemmas.List.{take_more}
use Rattle.std.specs.Cmp.Derive.{both_true}
use Rattle.pn_text.specs.Path.{Path, is_flat, is_filled, is_part, is_path, text_below, parts_from, IsPartsEnd}
use Rattle.pn_text.specs.Relative.{above, dots, slashes, Leads, IsSteps, NoneShared, IsRelative, IsFork, IsWay, RelativeLaw}
use Rattle.pn_text.proofs.Paths.{and_left, and_right, not_true, parts_from-text_below}
use Rattle.pn_text.proofs.Joins.{text_below-append, no_parts, below_begins}
use Rattle.pn_text.proofs.Splits.{parts_behind}

-- the last part of a list of parts
abbrev last_of : List ℕ → Path → List ℕ
last_of d [] = d
last_of d (x ∷ p) = last_of x p

last_of-snoc : (p : Path) (d x : List ℕ) → last_of d (p ++ x ∷ []) ≡ x
last_of-snoc [] d x = refl
last_of-snoc (y ∷ p) d x = last_of-snoc p y x

pub same_last : (p q : Path) (x y : List ℕ) → p ++ x ∷ [] ≡ q ++ y ∷ [] → x ≡ y
same_last p q x y e = sym (last_of-snoc p [] x) ∙ ap (last_of []) e ∙ last_of-snoc q [] y

no_last : (p : Path) (x : List ℕ) → [] ≡ p ++ x ∷ [] → ⊥
no_last [] x e = cc
no_last (y ∷ p) x e = cc

good_upper : (up base : Path) → IsTrue (is_path (up ++ base)) → IsTrue (is_path up)
good_upper [] base h = refl
good_upper (x ∷ up) base h = both_true (and_left (is_part x) (is_path (up ++ base)) h) (good_upper up base (and_right (is_part x) (is_path (up ++ base)) h))

-- how far two paths are known to go together
pub record Shares (from to : Path) (at : ℕ) : Type 0 where
  pub base : Path
  pub up : Path
  pub down : Path
  pub from_is : from ≡ up ++ base
  pub to_is : to ≡ down ++ base
  pub place : at ≡ length (text_below base)

pub shares_none : (from to : Path) → Shares from to 0
shares_none from to = record { base = []; up = from; down = to; from_is = sym (append-nil from); to_is = sym (append-nil to); place = refl }

-- the text behind that of a folder
pub behind : (text : List ℕ) (p up base : Path) (at : ℕ) → text ≡ text_below p → p ≡ up ++ base → at ≡ length (text_below base) → drop at text ≡ text_below up
behind text p up base at e is place = ap (drop at) (e ∙ ap text_below is ∙ text_below-append up base) ∙ drop_at (text_below base) (text_below up) at (sym place)

pub at_within : (text : List ℕ) (p up base : Path) (at : ℕ) → text ≡ text_below p → p ≡ up ++ base → at ≡ length (text_below base) → at ≤ length text
at_within text p up base at e is place = omega (arith, ap length (e ∙ ap text_below is ∙ text_below-append up base), length-append (text_below base) (text_below up))

-- the first part of a path's text
first_is : (up : Path) (rest part after : List ℕ) → IsTrue (is_path up) → text_below up ≡ 47 ∷ rest → rest ≡ part ++ after → IsTrue (is_flat part) → IsPartsEnd after → up ≡ parts_from [] after ++ part ∷ []
first_is up rest part after good e cut flat ends =
    sym (parts_from-text_below up good) ∙ ap (parts_from []) (e ∙ ap (λ r. 47 ∷ r) cut) ∙ parts_behind part after flat ends

begins_with_slash : (up : Path) (c : ℕ) (rest : List ℕ) → text_below up ≡ c ∷ rest → text_below up ≡ 47 ∷ rest
begins_with_slash [] c rest e = cc
begins_with_slash (x ∷ up) c rest e = let b = below_begins x up in let s : b.0 ≡ rest = cc (b.1, e) in b.1 ∙ ap (λ r. 47 ∷ r) s

-- the first part behind a shared folder
pub next_is : (text : List ℕ) (p up base : Path) (at : ℕ) (rest part after : List ℕ) → text ≡ text_below p → IsTrue (is_path p) → p ≡ up ++ base → at ≡ length (text_below base) → at < length text
    → rest ≡ drop (at + 1) text → rest ≡ part ++ after → IsTrue (is_flat part) → IsPartsEnd after → up ≡ parts_from [] after ++ part ∷ []
next_is text p up base at rest part after e good is place l from cut flat ends =
    first_is up rest part after (good_upper up base (subst (λ q. IsTrue (is_path q)) is good))
    (begins_with_slash up (get_or text at 0) rest (sym (behind text p up base at e is place) ∙ drop_more text at 0 l ∙ ap (λ r. get_or text at 0 ∷ r) (sym from))) cut flat ends

-- one more part
pub shares_more : (from to : Path) (at : ℕ) (s : Shares from to at) (part : List ℕ) (u d : Path) → s.up ≡ u ++ part ∷ [] → s.down ≡ d ++ part ∷ [] → Shares from to (at + (length part + 1))
shares_more from to at s part u d up down = record {
  base = part ∷ s.base;
  up = u;
  down = d;
  from_is = s.from_is ∙ ap (λ q. q ++ s.base) up ∙ append_assoc u (part ∷ []) s.base;
  to_is = s.to_is ∙ ap (λ q. q ++ s.base) down ∙ append_assoc d (part ∷ []) s.base;
  place = omega (arith, s.place, length-append (text_below s.base) (47 ∷ part));
}

pub forks : (from to : Path) (at : ℕ) (s : Shares from to at) → NoneShared s.up s.down → IsFork from to at
forks from to at s none = record { base = s.base; up = s.up; down = s.down; from_is = s.from_is; to_is = s.to_is; nearest = none; place = s.place }

-- a path that ends there leads nowhere
pub ends_there : (text : List ℕ) (p up base : Path) (at : ℕ) → text ≡ text_below p → p ≡ up ++ base → at ≡ length (text_below base) → at ≡ length text → up ≡ []
ends_there text p up base at e is place end = no_parts up (omega (arith, place, end, ap length (e ∙ ap text_below is ∙ text_below-append up base), length-append (text_below base) (text_below up)))

pub none_up : (up down : Path) → up ≡ [] → NoneShared up down
none_up up down e = λ x u d f g. no_last u x (sym e ∙ f)

pub none_down : (up down : Path) → down ≡ [] → NoneShared up down
none_down up down e = λ x u d f g. no_last d x (sym e ∙ g)

pub none_by_parts : (up down u d : Path) (x y : List ℕ) → up ≡ u ++ x ∷ [] → down ≡ d ++ y ∷ [] → x ≢ y → NoneShared up down
none_by_parts up down u d x y f g other = λ z v w k l. other (same_last u v x z (sym f ∙ k) ∙ sym (same_last d w y z (sym g ∙ l)))

-- a path's text has a slash for each part
slashes-append : (xs ys : List ℕ) → slashes (xs ++ ys) ≡ slashes xs + slashes ys
slashes-append [] ys = omega arith
slashes-append (x ∷ xs) ys = omega (arith, slashes-append xs ys)

slashes_flat : (xs : List ℕ) → list_any (λ b. b == 47) xs ≡ false → slashes xs ≡ 0
slashes_flat [] h = refl
slashes_flat (x ∷ xs) h = elim (x == 47) as (λ c. (c || list_any (λ b. b == 47) xs) ≡ false → (if c then 1 else 0) + slashes xs ≡ 0) [
  | true ↦ λ h. cc
  | false ↦ λ h. omega (arith, slashes_flat xs h)
] h

pub slashes_below : (p : Path) → IsTrue (is_path p) → slashes (text_below p) ≡ length p
slashes_below [] h = refl
slashes_below (x ∷ p) h =
    let rest = slashes_below p (and_right (is_part x) (is_path p) h) in
    let flat = slashes_flat x (not_true _ (and_left (is_flat x) (is_filled x) (and_left (is_part x) (is_path p) h))) in
    omega (arith, slashes-append (text_below p) (47 ∷ x), rest, flat)

-- one more byte
pub slashes_more : (text : List ℕ) (i : ℕ) → i < length text → slashes (take (i + 1) text) ≡ slashes (take i text) + (if get_or text i 0 == 47 then 1 else 0)
slashes_more text i l = ap slashes (take_more text i 0 l) ∙ slashes-append (take i text) (get_or text i 0 ∷ []) ∙ omega arith

pub dots_more : (n : ℕ) → text_below (dots (n + 1)) ≡ text_below (dots n) ++ 47 ∷ 46 ∷ 46 ∷ []
dots_more n = let one : n + 1 ≡ suc n = omega arith in ap (λ k. text_below (dots k)) one

-- a text may be cut before a slash and at its end
pub cuts_at : (text : List ℕ) (at : ℕ) → at ≤ length text → IsPartsEnd (drop at text) → IsCharBoundary text at
cuts_at text at within ends = (within, λ l big. let slash : get_or text at 0 ≡ 47 = subst IsPartsEnd (drop_more text at 0 l) ends in absurd (omega (arith, big, slash)))

-- a path's text is empty or begins with a slash
pub below_ends : (p : Path) → IsPartsEnd (text_below p)
below_ends [] = tt
below_ends (x ∷ p) = let b = below_begins x p in subst IsPartsEnd (sym b.1) refl

pub way_is : (from to : Path) (at : ℕ) (f : IsFork from to at) (a b steps rest : List ℕ) → a ≡ text_below from → b ≡ text_below to → IsTrue (is_path from)
    → steps ≡ text_below (dots (slashes (drop at a))) → rest ≡ drop at b → IsWay from to (steps ++ rest)
way_is from to at f a b steps rest ea eb good es er = record {
  base = f.base;
  up = f.up;
  down = f.down;
  from_is = f.from_is;
  to_is = f.to_is;
  nearest = f.nearest;
  spelled =
      let n : slashes (drop at a) ≡ length f.up = ap slashes (behind a from f.up f.base at ea f.from_is f.place) ∙ slashes_below f.up (good_upper f.up f.base (subst (λ q. IsTrue (is_path q)) f.from_is good)) in
      ap (λ s. s ++ rest) (es ∙ ap (λ k. text_below (dots k)) n)
      ∙ ap (λ r. text_below (dots (length f.up)) ++ r) (er ∙ behind b to f.down f.base at eb f.to_is f.place)
      ∙ sym (text_below-append f.down (dots (length f.up)));
}

-- steps without their first slash
pub steps_some : (p : Path) (text : List ℕ) → text_below p ≡ 47 ∷ text → IsSteps p text
steps_some [] text e = cc
steps_some (x ∷ p) text e = sym e

pub steps_none : (p : Path) → ((rest : List ℕ) → text_below p ≢ 47 ∷ rest) → IsSteps p (46 ∷ [])
steps_none [] none = refl
steps_none (x ∷ p) none = let b = below_begins x p in absurd (none b.0 b.1)

above-append : (up base : Path) → above (length up) (up ++ base) ≡ base
above-append [] base = refl
above-append (x ∷ up) base = let one : length (x ∷ up) ≡ suc (length up) = omega arith in ap (λ k. above k (x ∷ (up ++ base))) one ∙ above-append up base

no_steps : (up down : Path) → down ++ dots (length up) ≡ [] → (up ≡ []) × (down ≡ [])
no_steps [] [] e = (refl, refl)
no_steps [] (y ∷ down) e = cc
no_steps (x ∷ up) [] e = let one : length (x ∷ up) ≡ suc (length up) = omega arith in let d : dots (suc (length up)) ≡ [] = ap dots (sym one) ∙ e in cc
no_steps (x ∷ up) (y ∷ down) e = cc

steps_spelled : (p : Path) (text : List ℕ) → IsSteps p text → p ≢ [] → 47 ∷ text ≡ text_below p
steps_spelled [] text h some = absurd (some refl)
steps_spelled (x ∷ p) text h some = h

-- a relative path between two paths leads from the one to the other
pub leads : (from to : Path) (text : List ℕ) (r : IsRelative from to text) → IsTrue (is_path to) → from ≢ to → Leads text (length r.up) r.down × (r.down ++ above (length r.up) from ≡ to)
leads from to text r good other = (
  record {
    spelled = steps_spelled (r.down ++ dots (length r.up)) text r.spelled (λ e. let n = no_steps r.up r.down e in other (r.from_is ∙ ap (λ q. q ++ r.base) (n.0 ∙ sym n.1) ∙ sym r.to_is));
    good = good_upper r.down r.base (subst (λ q. IsTrue (is_path q)) r.to_is good);
  },
  ap (λ q. r.down ++ above (length r.up) q) r.from_is ∙ ap (λ q. r.down ++ q) (above-append r.up r.base) ∙ sym r.to_is,
)

-- a list of parts that isn't empty has a last one
pub some_last : (x : List ℕ) (p : Path) → (q : Path) × (y : List ℕ) × (x ∷ p ≡ q ++ y ∷ [])
some_last x [] = ([], x, refl)
some_last x (z ∷ p) = let l = some_last z p in (x ∷ l.0, l.1, ap (λ q. x ∷ q) l.2)

no_way : (up : Path) → NoneShared up up → up ≡ []
no_way [] none = refl
no_way (x ∷ up) none = let l = some_last x up in absurd (none l.1 l.0 l.0 l.2 l.2)

-- and it is `.` where they are one
pub dot_for_same : (p : Path) (text : List ℕ) → IsRelative p p text → text ≡ 46 ∷ []
dot_for_same p text r =
    let same : r.down ≡ r.up = append_cancel_right r.down r.up r.base (sym r.to_is ∙ r.from_is) in
    let none : r.up ≡ [] = no_way r.up (subst (NoneShared r.up) same r.nearest) in
    subst (λ q. IsSteps q text) (ap (λ d. d ++ dots (length r.up)) (same ∙ none) ∙ ap (λ u. dots (length u)) none) r.spelled

-- the steps up for one more byte
pub slash_more : (text : List ℕ) (i : ℕ) → i < length text → get_or text i 0 ≡ 47 → (s t : List ℕ) → s ≡ text_below (dots (slashes (take i text))) → t ≡ s ++ 47 ∷ 46 ∷ 46 ∷ [] → t ≡ text_below (dots (slashes (take (i + 1) text)))
slash_more text i l is s t e f =
    f ∙ ap (λ q. q ++ 47 ∷ 46 ∷ 46 ∷ []) e ∙ sym (dots_more (slashes (take i text)))
    ∙ sym (ap (λ n. text_below (dots n)) (slashes_more text i l ∙ ap (λ c. slashes (take i text) + (if c == 47 then 1 else 0)) is))

pub other_more : (text : List ℕ) (i : ℕ) → i < length text → get_or text i 0 ≢ 47 → (s : List ℕ) → s ≡ text_below (dots (slashes (take i text))) → s ≡ text_below (dots (slashes (take (i + 1) text)))
other_more text i l isnt s e =
    let n = slashes (take i text) in
    let same : n + 0 ≡ n = omega arith in
    e ∙ sym (ap (λ n. text_below (dots n)) (slashes_more text i l ∙ ap (λ c. n + (if c then 1 else 0)) (no_byte (get_or text i 0) isnt) ∙ same)) where
      no_byte : (b : ℕ) → b ≢ 47 → (b == 47) ≡ false
      no_byte b isnt = elim (b == 47) as (λ c. (b == 47) ≡ c → c ≡ false) [
        | true ↦ λ is. absurd (isnt (eqb-true b 47 is))
        | false ↦ λ is. refl
      ] refl

pub parts_differ : (x y : List ℕ) → not (bytes_eq x y) ≡ true → x ≢ y
parts_differ x y h e = let is = (bytes_eq-Decides x y).1 e in cc (h, is)

pub parts_same : (x y : List ℕ) → not (bytes_eq x y) ≡ false → x ≡ y
parts_same x y h = (bytes_eq-Decides x y).0 (not_false _ h) where
  not_false : (a : Bool) → not a ≡ false → a ≡ true
  not_false true h = refl
  not_false false h = cc

pub shares_with : (from to : Path) (at : ℕ) (s : Shares from to at) (x y : List ℕ) (u d : Path) → s.up ≡ u ++ x ∷ [] → s.down ≡ d ++ y ∷ [] → x ≡ y → Shares from to (at + (length x + 1))
shares_with from to at s x y u d up down same = shares_more from to at s x u d up (down ∙ ap (λ z. d ++ z ∷ []) (sym same))

pub relative_law : RelativeLaw
relative_law from to text good r = (
  (λ other. let l = leads from to text r good other in (length r.up, r.down, l.0, l.1)),
  (λ same. dot_for_same to text (subst (λ p. IsRelative p to text) same r)),
)

-- of two ends of a path, one is an end of the other
pub ends_nested : (a b p q : Path) → a ++ p ≡ b ++ q → ((s : Path) × (p ≡ s ++ q) × (b ≡ a ++ s)) ⊎ ((s : Path) × (q ≡ s ++ p) × (a ≡ b ++ s))
ends_nested [] b p q e = inl (b, e, refl)
ends_nested (x ∷ a) [] p q e = inr (x ∷ a, sym e, refl)
ends_nested (x ∷ a) (y ∷ b) p q e =
    let heads : x ≡ y = cc in
    let tails : a ++ p ≡ b ++ q = cc in
    elim (ends_nested a b p q tails) [
      | inl h ↦ inl (h.0, h.1, ap (λ z. z ∷ b) (sym heads) ∙ ap (λ t. x ∷ t) h.2)
      | inr h ↦ inr (h.0, h.1, ap (λ z. z ∷ a) heads ∙ ap (λ t. y ∷ t) h.2)
    ]

-- what both ways begin with is nothing
none_first : (s u d up down : Path) → up ≡ u ++ s → down ≡ d ++ s → NoneShared up down → s ≡ []
none_first [] u d up down e f none = refl
none_first (x ∷ s) u d up down e f none =
    let l = some_last x s in
    absurd (none l.1 (u ++ l.0) (d ++ l.0) (e ∙ ap (λ q. u ++ q) l.2 ∙ sym (append_assoc u l.0 (l.1 ∷ []))) (f ∙ ap (λ q. d ++ q) l.2 ∙ sym (append_assoc d l.0 (l.1 ∷ []))))

pub one_steps : (p : Path) (t u : List ℕ) → IsSteps p t → IsSteps p u → t ≡ u
one_steps [] t u h k = h ∙ sym k
one_steps (x ∷ p) t u h k = let same : 47 ∷ t ≡ 47 ∷ u = h ∙ sym k in cc

-- a way with a base at or below the other one's has the other one's text
nested_text : (from to : Path) (t u : List ℕ) (a : IsRelative from to t) (b : IsRelative from to u) (s : Path) → a.base ≡ s ++ b.base → b.up ≡ a.up ++ s → t ≡ u
nested_text from to t u a b s base up =
    let down : b.down ≡ a.down ++ s =
    append_cancel_right b.down (a.down ++ s) b.base (sym b.to_is ∙ a.to_is ∙ ap (λ q. a.down ++ q) base ∙ sym (append_assoc a.down s b.base)) in
    let none : s ≡ [] = none_first s a.up a.down b.up b.down up down b.nearest in
    let same_up : b.up ≡ a.up = up ∙ ap (λ q. a.up ++ q) none ∙ append-nil a.up in
    let same_down : b.down ≡ a.down = down ∙ ap (λ q. a.down ++ q) none ∙ append-nil a.down in
    one_steps (a.down ++ dots (length a.up)) t u a.spelled
    (subst (λ q. IsSteps (q ++ dots (length a.up)) u) same_down (subst (λ q. IsSteps (b.down ++ dots (length q)) u) same_up b.spelled))

-- two paths have one relative path
pub one_text : (from to : Path) (t u : List ℕ) → IsRelative from to t → IsRelative from to u → t ≡ u
one_text from to t u a b = elim (ends_nested a.up b.up a.base b.base (sym a.from_is ∙ b.from_is)) [
  | inl h ↦ nested_text from to t u a b h.0 h.1 h.2
  | inr h ↦ sym (nested_text from to u t b a h.0 h.1 h.2)
]
