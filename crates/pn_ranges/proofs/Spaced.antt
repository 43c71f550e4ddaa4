-- Comparators and ends with spaces behind them.
use Rattle.std.proofs.Common.{◌≡◌, ℕ, true, false, List, [], ◌∷◌, ◌++◌, Option, Some, None, Result, Ok, Err, IfErr, refl, sym, ap, ◌∙◌, inl, inr}
use Rattle.std.specs.List.{list_all}
use Rattle.std.specs.Result.{IsErrAnd}
use Rattle.std.proofs.lemmas.Bool.{and_parts, cases_Bool}
use Rattle.semver.specs.Grammar.{is_build_identifier, is_identifier_byte, is_pre_identifier, is_pre_release}
use Rattle.semver.specs.Order.{parts}
use Rattle.semver.proofs.Segments.{parts-dot, parts-one}
use Rattle.pn_ranges.specs.declared.comparator.Sign.{Sign}
use Rattle.pn_ranges.specs.declared.fault.Stop.{Stop}
use Rattle.pn_ranges.specs.Bytes.{is_space, front_of, behind, starts_with}
use Rattle.pn_ranges.specs.Edges.{HasPre}
use Rattle.pn_ranges.specs.Grammar.{AreGaps, AreIdentifiers, AreSpaces, IsComparator, IsEnd, IsPartial, IsTail}
use Rattle.pn_ranges.specs.Grammar as g
use Rattle.pn_ranges.specs.Places.{Turn, first, later, upper, after, closed, dash, far, gap, lead, fault_after, first_fault}
use Rattle.pn_ranges.specs.Reading.{Begins, IsCompared, LowerAt, SpacedAt, UpperAt}
use Rattle.pn_ranges.specs.Unread.{ends_range}
use Rattle.pn_ranges.specs.Table.{Named, named}
use Rattle.pn_ranges.proofs.FrontOfLemmas.{front-behind, front-all, behind-stops, behind-next}
use Rattle.pn_ranges.proofs.FirstFaultLemmas.{run}

pub exit_stop : {T : Type 0} (f : Option Stop) (r : Result T Stop) (x : Stop) → IsErrAnd r (λ y. y ≡ x) → f ≡ Some x → IfErr r (λ s. f ≡ Some s)
exit_stop f (Ok v) x h stops = tt
exit_stop f (Err s) x h stops = stops ∙ ap (λ (z : Stop). Some z) (sym h)

-- the automaton over spaces
after-run : (e : Turn) (text : List ℕ) → first_fault (after e) text ≡ first_fault (after e) (behind is_space text)
after-run first = run (gap true) is_space (λ b h. rw h refl)
after-run later = run (gap false) is_space (λ b h. rw h refl)
after-run upper = run closed is_space (λ b h. rw h refl)

pub after-gap : (e : Turn) (text rest : List ℕ) → starts_with is_space text ≡ true → rest ≡ behind is_space text → fault_after e text ≡ first_fault (after e) rest
after-gap e [] rest h r = cc h
after-gap e (b ∷ t) rest h r = rw h (after-run e t ∙ ap (first_fault (after e)) (sym (r ∙ behind-next is_space b t h)))

far-lead : (text : List ℕ) → starts_with is_space text ≡ false → first_fault far text ≡ first_fault (lead upper) text
far-lead [] h = refl
far-lead (b ∷ rest) h = rw h refl

pub dash-lead : (text rest : List ℕ) → starts_with is_space text ≡ true → rest ≡ behind is_space text → first_fault dash text ≡ first_fault (lead upper) rest
dash-lead [] rest h r = cc h
dash-lead (b ∷ t) rest h r =
    rw h (run far is_space (λ b h. rw h refl) t ∙ far-lead (behind is_space t) (behind-stops is_space t) ∙ ap (first_fault (lead upper)) (sym (r ∙ behind-next is_space b t h)))

pub stops-behind : (text rest : List ℕ) → rest ≡ behind is_space text → starts_with is_space rest ≡ false
stops-behind text rest r = ap (starts_with is_space) r ∙ behind-stops is_space text

-- spaces are apart where something comes behind them
apart-front : (text rest : List ℕ) → rest ≡ behind is_space text → (starts_with is_space text ≡ false → ends_range rest ≡ true) → ends_range rest ≡ false
    → starts_with is_space (front_of is_space text) ≡ true
apart-front text rest r h more = elim (cases_Bool (starts_with is_space text)) [
  | inl spaced ↦ front-starts text spaced
  | inr bare ↦ absurd (let x : true ≡ false = sym (h bare) ∙ more in cc)
] where
  front-starts : (t : List ℕ) → starts_with is_space t ≡ true → starts_with is_space (front_of is_space t) ≡ true
  front-starts [] s = cc s
  front-starts (b ∷ t) s = rw s s

pub spaced-read : (text mid rest : List ℕ) (x : Sign) (n : Named) → Begins IsCompared text (x, n) mid → rest ≡ behind is_space mid
    → (starts_with is_space mid ≡ false → ends_range rest ≡ true) → SpacedAt text x n rest
spaced-read text mid rest x n f r h = record {
  front = f.front;
  spaces = front_of is_space mid;
  split = f.split ∙ ap (λ y. f.front ++ y) (front-behind is_space mid ∙ ap (λ y. front_of is_space mid ++ y) (sym r));
  read = f.spelled;
  blank = front-all is_space mid;
  apart = apart-front mid rest r h;
}

pub lower-read : (text mid rest : List ℕ) (n : Named) → Begins IsEnd text n mid → rest ≡ behind is_space mid
    → (starts_with is_space mid ≡ false → ends_range rest ≡ true) → LowerAt text n rest
lower-read text mid rest n f r h = record {
  front = f.front;
  spaces = front_of is_space mid;
  split = f.split ∙ ap (λ y. f.front ++ y) (front-behind is_space mid ∙ ap (λ y. front_of is_space mid ++ y) (sym r));
  read = f.spelled;
  blank = front-all is_space mid;
  apart = apart-front mid rest r h;
}

pub gap-front : (t : List ℕ) → starts_with is_space t ≡ true → AreGaps (front_of is_space t)
gap-front [] h = cc h
gap-front (b ∷ t) h = record { spaces = front-all is_space (b ∷ t); some = rw h h }

pub upper-read : (text start mid rest : List ℕ) (n : Named) → starts_with is_space text ≡ true → start ≡ behind is_space text → Begins IsEnd start n mid → rest ≡ behind is_space mid
    → (starts_with is_space mid ≡ false → ends_range rest ≡ true) → UpperAt text n rest
upper-read text start mid rest n s t f r h = record {
  gaps = front_of is_space text;
  front = f.front;
  spaces = front_of is_space mid;
  split = front-behind is_space text ∙ ap (λ y. front_of is_space text ++ y) (sym t ∙ f.split ∙ ap (λ y. f.front ++ y) (front-behind is_space mid ∙ ap (λ y. front_of is_space mid ++ y) (sym r)));
  apart = gap-front text s;
  read = f.spelled;
  blank = front-all is_space mid;
  behind = apart-front mid rest r h;
}

-- pre-releases that are read are in the form of SemVer
build-bytes : (x : List ℕ) → is_build_identifier x ≡ true → list_all is_identifier_byte x ≡ true
build-bytes x h = (and_parts _ (list_all is_identifier_byte x) h).1

pre-build-id : (x : List ℕ) → is_pre_identifier x ≡ true → is_build_identifier x ≡ true
pre-build-id x h = (and_parts (is_build_identifier x) _ h).0

all-pre : (p : List ℕ) → AreIdentifiers is_pre_identifier p → list_all is_pre_identifier (parts p) ≡ true
all-pre _ (g.one x h) = rw (parts-one x (build-bytes x (pre-build-id x h)), h) refl
all-pre _ (g.more x t h a) = rw (parts-dot x t (build-bytes x (pre-build-id x h)), h) (all-pre t a)

from-parts : (p : List ℕ) → list_all is_pre_identifier (parts p) ≡ true → is_pre_release p ≡ true
from-parts [] h = refl
from-parts (b ∷ p) h = h

tail-pre : (s p : List ℕ) → IsTail s p → is_pre_release p ≡ true
tail-pre _ _ (g.bare t b) = refl
tail-pre _ _ (g.pre p t a b) = from-parts p (all-pre p a)

named-pre : (a b c : Option ℕ) (p : List ℕ) → is_pre_release p ≡ true → HasPre (named a b c p)
named-pre None b c p h = tt
named-pre (Some x) None c p h = tt
named-pre (Some x) (Some y) None p h = tt
named-pre (Some x) (Some y) (Some z) p h = h

partial-pre : (t : List ℕ) (n : Named) → IsPartial t n → HasPre n
partial-pre _ _ (g.one t a h) = named-pre a None None [] refl
partial-pre _ _ (g.two t u a b h k) = named-pre a b None [] refl
partial-pre _ _ (g.three t u w s p a b c h k l m) = named-pre a b c p (tail-pre s p m)

pub end-pre : (t : List ℕ) (n : Named) → IsEnd t n → HasPre n
end-pre _ n (g.end l t _ h p) = partial-pre t n p

pub comparator-pre : (t : List ℕ) (x : Sign) (n : Named) → IsComparator t x n → HasPre n
comparator-pre _ _ n (g.comparator o s t x _ i b e j) = end-pre t n e
