-- How far a text is read whole is settled.
use Rattle.std.proofs.Common.{◌≡◌, ◌≤◌, ℕ, zero, suc, Bool, true, false, List, [], ◌∷◌, ◌++◌, length, Option, Some, None, refl, sym, ap, subst, ◌∙◌, arith, inl, inr, append_assoc, append-nil, length-append}
use Rattle.std.specs.Prelude.{◌==◌, ◌⊎◌, not, if◌then◌else◌}
use Rattle.std.specs.List.{list_all}
use Rattle.std.proofs.lemmas.Bool.{both_ways, cases_Bool}
use Rattle.std.proofs.lemmas.Bool.Decides.{nat_tests}
use Rattle.pn_ranges.specs.declared.comparator.Sign.{Sign}
use Rattle.pn_ranges.specs.declared.comparator.Sign.TheVariants as x
use Rattle.pn_ranges.specs.Bytes.{is_body, is_digit, is_open, is_space, is_wild, behind, front_of, starts_with}
use Rattle.pn_ranges.specs.Grammar.{AreComparators, AreGaps, AreRanges, AreSpaces, IsComparator, IsEnd, IsNumber, IsPart, IsRange}
use Rattle.pn_ranges.specs.Grammar as g
use Rattle.pn_ranges.specs.Limits.{Limit}
use Rattle.pn_ranges.specs.Overs.{HasOver, NoLower, OverAt, OverLater, OverRange, OverUpper, PartFrom, PartOf}
use Rattle.pn_ranges.specs.Overs as o
use Rattle.pn_ranges.specs.Table.{Named, all_fit, limits, raised, upper_limits, upper_raised}
use Rattle.pn_ranges.specs.Unread.{Closes, LaterTo, RangeTo, UpperTo, ends_range}
use Rattle.pn_ranges.specs.Unread as u
use Rattle.pn_ranges.proofs.Bars.{no-tail, no_bar, spaced-bars, tail-of}
use Rattle.pn_ranges.proofs.Closings.{between-upper, closes-body, closes-spaces, gap-body}
use Rattle.pn_ranges.proofs.Counts.{bars-split, comparator-open, end-open, hyphen-split, more-split, not-hyphen, same-first}
use Rattle.pn_ranges.proofs.FrontOfLemmas.{behind-append, behind-le, front-all, front-behind}
use Rattle.pn_ranges.proofs.OverProofs.{shut, space-shut}
use Rattle.pn_ranges.proofs.Same.{Same, Shape, all-weaken, behind-all, comparator-shape, end-shape, first-more, first-not, head-same, partial-first, same-end, same-fit, same-shape, same-split, shape-at}

-- from a part of a version on
abbrev pub past_dot : List ℕ → List ℕ
past_dot [] = []
past_dot (b ∷ t) = if b == 46 then t else past_dot t

abbrev pub from_part : ℕ → List ℕ → List ℕ
from_part zero t = t
from_part (suc k) t = from_part k (past_dot t)

-- how many bytes are left from the part on that is raised
abbrev pub place : ℕ → List ℕ → ℕ
place k text = length (from_part k (behind shut (behind is_space text)))

abbrev no_dot : ℕ → Bool
no_dot b = not (b == 46)

digit-dot : (b : ℕ) → is_digit b ≡ true → no_dot b ≡ true
digit-dot b h = grind (arith, nat_tests)

wild-dot : (b : ℕ) → is_wild b ≡ true → no_dot b ≡ true
wild-dot b h = grind (arith, nat_tests)

part-dots : (t : List ℕ) (a : Option ℕ) → IsPart t a → list_all no_dot t ≡ true
part-dots _ _ (g.wild b w) = all-weaken is_wild no_dot wild-dot (b ∷ []) (rw w refl)
part-dots _ _ (g.number t n i low) = number t n i where
  number : (t : List ℕ) (n : ℕ) → IsNumber t n → list_all no_dot t ≡ true
  number _ _ g.zero = refl
  number _ _ (g.counted b bs d z all) = all-weaken is_digit no_dot digit-dot (b ∷ bs) (rw (d, all) refl)

dot-past : (t v : List ℕ) → list_all no_dot t ≡ true → past_dot (t ++ 46 ∷ v) ≡ v
dot-past [] v h = refl
dot-past (b ∷ t) v h = elim (cases_Bool (b == 46)) [
  | inl dot ↦ absurd (let w : false ≡ true = rw dot at h in cc)
  | inr other ↦ rw other (dot-past t v (rw other at h))
]

from-is : (p from rest : List ℕ) (k : ℕ) → PartFrom p k from → from ++ rest ≡ from_part k (p ++ rest)
from-is _ _ rest _ (o.here t) = refl
from-is _ from rest _ (o.behind t v _ a k i p) =
    from-is v from rest k p ∙ ap (from_part k) (sym (dot-past t (v ++ rest) (part-dots t a i)) ∙ ap past_dot (sym (append_assoc t (46 ∷ v) rest)))

open-shut : (b : ℕ) → is_open b ≡ true → shut b ≡ false
open-shut b h = grind (arith, nat_tests)

part-is : (t from rest : List ℕ) (n : Named) (k : ℕ) → PartOf t n k from → from ++ rest ≡ from_part k (behind shut (t ++ rest))
part-is t from rest n k p =
    from-is p.partial from rest k p.part
    ∙ ap (from_part k) (sym (behind-all shut p.before (p.partial ++ rest) p.outside (first-not is_open shut (p.partial ++ rest) (first-more is_open p.partial rest (partial-first p.partial n p.is)) open-shut))
    ∙ ap (behind shut) (sym (append_assoc p.before p.partial rest) ∙ ap (λ z. z ++ rest) (sym p.split)))

spaces-past : (t : List ℕ) → behind shut (behind is_space t) ≡ behind shut t
spaces-past [] = refl
spaces-past (b ∷ t) = elim (cases_Bool (is_space b)) [
  | inl space ↦ rw (space, space-shut b space) (spaces-past t)
  | inr other ↦ rw other refl
]

at-place : (text rest : List ℕ) (left : ℕ) (a : OverAt text rest left) → left ≡ place (raised a.sign a.name) text
at-place text rest left a =
    a.place ∙ ap (λ (y : List ℕ). length y) (part-is a.front a.from rest a.name (raised a.sign a.name) a.part)
    ∙ ap (λ (z : List ℕ). length (from_part (raised a.sign a.name) (behind shut z))) (sym a.split)
    ∙ ap (λ (z : List ℕ). length (from_part (raised a.sign a.name) z)) (sym (spaces-past text))

-- the comparator that comes first
pub record Begun (text : List ℕ) : Type 0 where
  pub front : List ℕ
  pub rest : List ℕ
  pub sign : Sign
  pub name : Named
  pub split : text ≡ front ++ rest
  pub is : IsComparator front sign name
  pub ends : starts_with is_body rest ≡ false

pub later-begun : (text : List ℕ) (to : Option ℕ) → LaterTo text to → Begun text
later-begun text _ (u.raised _ rest left a) = record { front = a.front; rest = rest; sign = a.sign; name = a.name; split = a.split; is = a.read; ends = a.ends }
later-begun _ _ (u.last t rest s n c fit h) = record { front = t; rest = rest; sign = s; name = n; split = refl; is = c; ends = closes-body rest h }
later-begun _ _ (u.more t p v s n to c fit a w) = record { front = t; rest = p ++ v; sign = s; name = n; split = refl; is = c; ends = gap-body p v a }

pub later-open : (text : List ℕ) (to : Option ℕ) → LaterTo text to → ends_range (behind is_space text) ≡ false
later-open text to w = let b = later-begun text to w in ap (λ z. ends_range (behind is_space z)) b.split ∙ comparator-open b.front b.sign b.name b.is b.rest

pub same-begun : (y r t q : List ℕ) (s z : Sign) (n m : Named) → Shape y s n r → starts_with is_body r ≡ false → IsComparator t z m → starts_with is_body q ≡ false
    → behind is_space (t ++ q) ≡ behind is_space y → Same s z n m r q
same-begun y r t q s z n m a h c k e =
    same-shape (behind is_space y) r q s z n m (shape-at (behind is_space y) y r s n refl a) (shape-at (behind is_space y) (t ++ q) q z m (sym e) (comparator-shape t z m c q)) h k

-- what may stand behind a first comparator
pub data Onward (s : Sign) (n : Named) (text r : List ℕ) (to : Option ℕ) : Type 0 where
  over : all_fit (limits s n) ≡ false → to ≡ Some (place (raised s n) text) → Onward s n text r to
  last : all_fit (limits s n) ≡ true → Closes r → to ≡ None → Onward s n text r to
  more : (v : List ℕ) → all_fit (limits s n) ≡ true → LaterTo v to → behind is_space v ≡ behind is_space r → Onward s n text r to

pub onward : (text y r : List ℕ) (s : Sign) (n : Named) (to : Option ℕ) → LaterTo text to → Shape y s n r → starts_with is_body r ≡ false
    → behind is_space text ≡ behind is_space y → Onward s n text r to
onward text y r s n _ (u.raised _ rest left a) k h e =
    let q = same-begun y r a.front rest s a.sign n a.name k h a.read a.ends (ap (behind is_space) (sym a.split) ∙ e) in
    over (same-fit s a.sign n a.name r rest q ∙ a.large)
    (ap (λ z. Some z) (at-place text rest left a ∙ ap (λ z. place (raised z a.name) text) (sym q.sign) ∙ ap (λ z. place (raised s z) text) (sym q.named)))
onward _ y r s n _ (u.last t rest z m c fit l) k h e =
    let q = same-begun y r t rest s z n m k h c (closes-body rest l) e in
    last (same-fit s z n m r rest q ∙ fit) (subst Closes (sym q.rest) l) refl
onward _ y r s n _ (u.more t p v z m to c fit a w) k h e =
    let q = same-begun y r t (p ++ v) s z n m k h c (gap-body p v a) e in
    more v (same-fit s z n m r (p ++ v) q ∙ fit) w (sym (behind-append is_space p v a.spaces) ∙ ap (behind is_space) (sym q.rest))

ends-more : (r v : List ℕ) (to : Option ℕ) → Closes r → LaterTo v to → behind is_space v ≡ behind is_space r → ⊥
ends-more r v to h w e = both_ways (ends_range (behind is_space r)) (ap ends_range (sym e) ∙ later-open v to w) h

later-unique : (text : List ℕ) (a : Option ℕ) → LaterTo text a → (other : List ℕ) (b : Option ℕ) → LaterTo other b → behind is_space other ≡ behind is_space text → a ≡ b
later-unique text _ (u.raised _ rest left k) other b w e =
    let shape = subst (λ z. Shape z k.sign k.name rest) (sym k.split) (comparator-shape k.front k.sign k.name k.read rest) in
    elim (onward other text rest k.sign k.name b w shape k.ends e) [
      | over fit is ↦
          ap (λ z. Some z) (at-place text rest left k ∙ ap (λ (z : List ℕ). length (from_part (raised k.sign k.name) (behind shut z))) (sym e)) ∙ sym is
      | last fit h is ↦ absurd (both_ways (all_fit (limits k.sign k.name)) k.large fit)
      | more v fit w2 q ↦ absurd (both_ways (all_fit (limits k.sign k.name)) k.large fit)
    ]
later-unique _ _ (u.last t rest s n c fit h) other b w e =
    elim (onward other (t ++ rest) rest s n b w (comparator-shape t s n c rest) (closes-body rest h) e) [
      | over large is ↦ absurd (both_ways (all_fit (limits s n)) large fit)
      | last fit2 h2 is ↦ sym is
      | more v fit2 w2 q ↦ absurd (ends-more rest v b h w2 q)
    ]
later-unique _ _ (u.more t p v s n to c fit a w1) other b w e =
    let after = behind-append is_space p v a.spaces in
    elim (onward other (t ++ (p ++ v)) (p ++ v) s n b w (comparator-shape t s n c (p ++ v)) (gap-body p v a) e) [
      | over large is ↦ absurd (both_ways (all_fit (limits s n)) large fit)
      | last fit2 h2 is ↦ absurd (ends-more (p ++ v) v to h2 w1 (sym after))
      | more y fit2 w2 q ↦ later-unique v to w1 y b w2 (q ∙ after)
    ]

-- an upper end of `A - B`
pub record UpperIs (text : List ℕ) (to : Option ℕ) : Type 0 where
  pub front : List ℕ
  pub rest : List ℕ
  pub name : Named
  pub split : behind is_space text ≡ front ++ rest
  pub is : IsEnd front name
  pub ends : starts_with is_body rest ≡ false
  pub fit : ((all_fit (upper_limits name) ≡ false) × (to ≡ Some (place (upper_raised name) text))) ⊎ ((all_fit (upper_limits name) ≡ true) × Closes rest × (to ≡ None))

upper-place : (text : List ℕ) (left : ℕ) (a : OverUpper text left) → left ≡ place (upper_raised a.name) text
upper-place text left a =
    a.place ∙ ap (λ (y : List ℕ). length y) (part-is a.front a.from a.rest a.name (upper_raised a.name) a.part)
    ∙ ap (λ (z : List ℕ). length (from_part (upper_raised a.name) (behind shut z)))
    (sym (head-same a.front a.rest a.name a.read) ∙ sym (behind-append is_space a.gaps (a.front ++ a.rest) a.apart.spaces) ∙ ap (behind is_space) (sym a.split))

pub upper-is : (text : List ℕ) (to : Option ℕ) → UpperTo text to → UpperIs text to
upper-is text _ (u.raised _ left a) = record {
  front = a.front;
  rest = a.rest;
  name = a.name;
  split = ap (behind is_space) a.split ∙ behind-append is_space a.gaps (a.front ++ a.rest) a.apart.spaces ∙ head-same a.front a.rest a.name a.read;
  is = a.read;
  ends = a.ends;
  fit = inl (a.large, ap (λ z. Some z) (upper-place text left a));
}
upper-is _ _ (u.last p t rest n a i fit h) = record {
  front = t;
  rest = rest;
  name = n;
  split = behind-append is_space p (t ++ rest) a.spaces ∙ head-same t rest n i;
  is = i;
  ends = closes-body rest h;
  fit = inr (fit, h, refl);
}

pub upper-unique : (text : List ℕ) (a b : Option ℕ) → UpperTo text a → UpperTo text b → a ≡ b
upper-unique text a b v w =
    let p = upper-is text a v in
    let q = upper-is text b w in
    let e = same-end p.front q.front p.rest q.rest p.name q.name p.is q.is p.ends q.ends (sym p.split ∙ q.split) in
    let fits : all_fit (upper_limits p.name) ≡ all_fit (upper_limits q.name) = ap (λ z. all_fit (upper_limits z)) e.0 in
    elim p.fit [
      | inl x ↦ elim q.fit [
        | inl y ↦ x.1 ∙ ap (λ z. Some (place (upper_raised z) text)) e.0 ∙ sym y.1
        | inr y ↦ absurd (both_ways (all_fit (upper_limits q.name)) (sym fits ∙ x.0) y.0)
      ]
      | inr x ↦ elim q.fit [
        | inl y ↦ absurd (both_ways (all_fit (upper_limits q.name)) y.0 (sym fits ∙ x.0))
        | inr y ↦ x.2 ∙ sym y.2
      ]
    ]

-- ranges
pub lower-not : (text a s v : List ℕ) (n : Named) → NoLower text → IsEnd a n → AreGaps s → behind is_space text ≡ behind is_space (a ++ (s ++ 45 ∷ v)) → ⊥
lower-not text a s v n none i p e =
    none (front_of is_space text) a s v n (front-all is_space text) i p
    (front-behind is_space text ∙ ap (λ z. front_of is_space text ++ z) (e ∙ head-same a (s ++ 45 ∷ v) n i))

pub upper-open : (a s : List ℕ) (n : Named) → IsEnd a n → ends_range (behind is_space (a ++ s)) ≡ false
upper-open a s n i = ap ends_range (head-same a s n i) ∙ end-open a s n i

dash-of : (y z : List ℕ) → 45 ∷ y ≡ 45 ∷ z → y ≡ z
dash-of y z h = cc h

pub same-upper : (a s y b t z : List ℕ) (n m : Named) → IsEnd a n → AreGaps s → IsEnd b m → AreGaps t → behind is_space (b ++ (t ++ 45 ∷ z)) ≡ behind is_space (a ++ (s ++ 45 ∷ y)) → y ≡ z
same-upper a s y b t z n m i p j q e =
    let same = same-first (behind is_space (a ++ (s ++ 45 ∷ y))) a b (s ++ 45 ∷ y) (t ++ 45 ∷ z) x.Exact x.Exact n m (end-shape a (s ++ 45 ∷ y) n i) (end-shape b (t ++ 45 ∷ z) m j)
    (gap-body s (45 ∷ y) p) (gap-body t (45 ∷ z) q) refl (sym e) in
    dash-of y z (sym (behind-all is_space s (45 ∷ y) p.spaces refl) ∙ ap (behind is_space) same ∙ behind-all is_space t (45 ∷ z) q.spaces refl)

pub range-unique : (text : List ℕ) (a : Option ℕ) → RangeTo text a → (other : List ℕ) (b : Option ℕ) → RangeTo other b → behind is_space other ≡ behind is_space text → a ≡ b
range-unique text _ (u.empty _ h) other _ (u.empty _ k) e = refl
range-unique text _ (u.empty _ h) other b (u.comparators _ _ l w) e = absurd (ends-more text other b h w e)
range-unique text _ (u.empty _ h) _ b (u.upper c s v n _ i p w) e =
    absurd (both_ways (ends_range (behind is_space text)) (ap ends_range (sym e) ∙ upper-open c (s ++ 45 ∷ v) n i) h)
range-unique text a (u.comparators _ _ l w) other _ (u.empty _ k) e = absurd (ends-more other text a k w (sym e))
range-unique text a (u.comparators _ _ l w) other b (u.comparators _ _ m v) e = later-unique text a w other b v e
range-unique text a (u.comparators _ _ l w) _ b (u.upper c s v n _ i p y) e = absurd (lower-not text c s v n l i p (sym e))
range-unique _ a (u.upper c s v n _ i p w) other _ (u.empty _ k) e =
    absurd (both_ways (ends_range (behind is_space other)) (ap ends_range e ∙ upper-open c (s ++ 45 ∷ v) n i) k)
range-unique _ a (u.upper c s v n _ i p w) other b (u.comparators _ _ m y) e = absurd (lower-not other c s v n m i p e)
range-unique _ a (u.upper c s v n _ i p w) _ b (u.upper d t z m _ j q y) e =
    upper-unique v a b w (subst (λ k. UpperTo k b) (sym (same-upper c s v d t z n m i p j q e)) y)

-- what is read in the words of the grammar
pub later-over : (text : List ℕ) (left : ℕ) → OverLater text left → LaterTo text (Some left)
later-over text left (o.here _ rest _ a) = u.raised text rest left a
later-over _ left (o.behind t s v z n _ c fit a w) = u.more t s v z n (Some left) c fit a (later-over v left w)

pub range-over : (text : List ℕ) (left : ℕ) → OverRange text left → RangeTo text (Some left)
range-over text left (o.comparators _ _ l w) = u.comparators text (Some left) l (later-over text left w)
range-over _ left (o.upper a s v n _ i p w) = u.upper a s v n (Some left) i p (u.raised v left w)

later-read : (t y : List ℕ) (k : ℕ) (ls : List Limit) → AreComparators t k ls → Closes y → LaterTo (t ++ y) None
later-read _ y _ _ (g.one t s n c fit) h = u.last t y s n c fit h
later-read _ y _ _ (g.more t p v s n k ls c fit a w) h =
    subst (λ z. LaterTo z None) (sym (more-split t p v y)) (u.more t p (v ++ y) s n None c fit a (later-read v y k ls w h))

nothing-more : (a p r : List ℕ) → (a ++ (p ++ 45 ∷ (r ++ []))) ++ [] ≡ a ++ (p ++ 45 ∷ r)
nothing-more a p r = append-nil (a ++ (p ++ 45 ∷ (r ++ []))) ∙ ap (λ z. a ++ (p ++ 45 ∷ z)) (append-nil r)

pub range-read : (t y : List ℕ) (k : ℕ) (ls : List Limit) → IsRange t k ls → Closes y → RangeTo (t ++ y) None
range-read _ y _ _ g.empty h = u.empty y h
range-read _ y _ _ (g.comparators t k ls w) h =
    u.comparators (t ++ y) None
    (λ s a p r n b i q e. not-hyphen (behind is_space (t ++ y)) t y k ls w h refl a p r [] [] n i q
    (ap (behind is_space) e ∙ behind-append is_space s (a ++ (p ++ 45 ∷ r)) b ∙ ap (behind is_space) (sym (nothing-more a p r))))
    (later-read t y k ls w h)
range-read _ y _ _ (g.hyphen a s r b low high i p q j fit) h =
    subst (λ z. RangeTo z None) (sym (hyphen-split a s r b y))
    (u.upper a s (r ++ (b ++ y)) low None i p (u.last r b y high q j (between-upper low high fit) h))

-- the first range of a set
pub record FirstTo (text : List ℕ) (to : Option ℕ) : Type 0 where
  pub whole : List ℕ
  pub is : RangeTo whole to
  pub same : behind is_space whole ≡ behind is_space text

pub first-one : (s t r : List ℕ) (k : ℕ) (ls : List Limit) → AreSpaces s → IsRange t k ls → AreSpaces r → FirstTo (s ++ (t ++ r)) None
first-one s t r k ls a i b =
    record { whole = t ++ r; is = range-read t r k ls i (subst Closes (append-nil r) (closes-spaces r [] b refl refl)); same = sym (behind-append is_space s (t ++ r) a) }

pub first-more-ranges : (s t r v : List ℕ) (k : ℕ) (ls : List Limit) → AreSpaces s → IsRange t k ls → AreSpaces r → FirstTo (s ++ (t ++ (r ++ 124 ∷ 124 ∷ v))) None
first-more-ranges s t r v k ls a i b = record {
  whole = t ++ (r ++ 124 ∷ 124 ∷ v);
  is = range-read t (r ++ 124 ∷ 124 ∷ v) k ls i (closes-spaces r (124 ∷ 124 ∷ v) b refl refl);
  same = sym (behind-append is_space s (t ++ (r ++ 124 ∷ 124 ∷ v)) a);
}

pub first-over : (s v : List ℕ) (left : ℕ) → AreSpaces s → OverRange v left → FirstTo (s ++ v) (Some left)
first-over s v left a w = record { whole = v; is = range-over v left w; same = sym (behind-append is_space s v a) }

pub first-unique : (text other : List ℕ) (a b : Option ℕ) → FirstTo text a → FirstTo other b → text ≡ other → a ≡ b
first-unique text other a b v w e = range-unique v.whole a v.is w.whole b w.is (w.same ∙ ap (behind is_space) (sym e) ∙ sym v.same)

pub bars-same : (s t r v o2 y q w : List ℕ) (k m : ℕ) (ls js : List Limit) → AreSpaces s → IsRange t k ls → AreSpaces r → AreSpaces o2 → IsRange y m js → AreSpaces q
    → s ++ (t ++ (r ++ 124 ∷ 124 ∷ v)) ≡ o2 ++ (y ++ (q ++ 124 ∷ 124 ∷ w)) → v ≡ w
bars-same s t r v o2 y q w k m ls js a i b c j d e =
    let z = same-split no_bar (s ++ (t ++ r)) (124 ∷ 124 ∷ v) (o2 ++ (y ++ q)) (124 ∷ 124 ∷ w) (spaced-bars s t r k ls a i b) refl (spaced-bars o2 y q m js c j d) refl
    (sym (bars-split s t r v) ∙ e ∙ bars-split o2 y q w) in
    tail-of v w z.1

none-some : (n : ℕ) → None ≡ Some n → ⊥
none-some n h = cc h

some-of : (m n : ℕ) → Some m ≡ Some n → m ≡ n
some-of m n h = cc h

pub over-unique : (text : List ℕ) (l : ℕ) → HasOver text l → (other : List ℕ) (m : ℕ) → HasOver other m → text ≡ other → l ≡ m
over-unique _ l (o.here s v _ a w) _ m (o.here t y _ b z) e = some-of l m (first-unique (s ++ v) (t ++ y) (Some l) (Some m) (first-over s v l a w) (first-over t y m b z) e)
over-unique _ l (o.here s v _ a w) _ m (o.behind t y r z k ls _ b i c h) e =
    absurd (none-some l (sym (first-unique (s ++ v) _ (Some l) None (first-over s v l a w) (first-more-ranges t y r z k ls b i c) e)))
over-unique _ l (o.behind t y r z k ls _ b i c h) _ m (o.here s v _ a w) e =
    absurd (none-some m (first-unique _ (s ++ v) None (Some m) (first-more-ranges t y r z k ls b i c) (first-over s v m a w) e))
over-unique _ l (o.behind s t r v k ls _ a i b h) _ m (o.behind p y q z n js _ c j d w) e = over-unique v l h z m w (bars-same s t r v p y q z k n ls js a i b c j d e)

-- ranges that are read whole have no bound that is raised
pub over-ranges : (text : List ℕ) (l : ℕ) → HasOver text l → (other : List ℕ) (k : ℕ) (lss : List (List Limit)) → AreRanges other k lss → text ≡ other → ⊥
over-ranges _ l (o.here s v _ a w) _ _ _ (g.one p t r k ls b i c) e =
    none-some l (sym (first-unique (s ++ v) _ (Some l) None (first-over s v l a w) (first-one p t r k ls b i c) e))
over-ranges _ l (o.here s v _ a w) _ _ _ (g.more p t r z k m ls lss b i c d) e =
    none-some l (sym (first-unique (s ++ v) _ (Some l) None (first-over s v l a w) (first-more-ranges p t r z k ls b i c) e))
over-ranges _ l (o.behind s t r v k ls _ a i b h) _ _ _ (g.one p y q m js c j d) e =
    let z = same-split no_bar (s ++ (t ++ r)) (124 ∷ 124 ∷ v) (p ++ (y ++ q)) [] (spaced-bars s t r k ls a i b) refl (spaced-bars p y q m js c j d) refl
    (sym (bars-split s t r v) ∙ e ∙ sym (append-nil (p ++ (y ++ q)))) in
    no-tail v z.1
over-ranges _ l (o.behind s t r v k ls _ a i b h) _ _ _ (g.more p y q z m n js jss c j d w) e =
    over-ranges v l h z n jss w (bars-same s t r v p y q z k m ls js a i b c j d e)

-- the place lies in the text
past-short : (t : List ℕ) → length (past_dot t) ≤ length t
past-short [] = omega arith
past-short (b ∷ t) = elim (cases_Bool (b == 46)) [
  | inl dot ↦ rw dot (omega arith)
  | inr other ↦ let h = past-short t in rw other (omega arith)
]

from-short : (k : ℕ) (t : List ℕ) → length (from_part k t) ≤ length t
from-short zero t = omega arith
from-short (suc k) t = let h = from-short k (past_dot t) in let l = past-short t in omega arith

place-short : (k : ℕ) (t : List ℕ) → place k t ≤ length t
place-short k t =
    let a = from-short k (behind shut (behind is_space t)) in
    let b = behind-le shut (behind is_space t) in
    let c = behind-le is_space t in
    omega arith

later-within : (text : List ℕ) (left : ℕ) → OverLater text left → left ≤ length text
later-within text left (o.here _ rest _ a) = let e = at-place text rest left a in let h = place-short (raised a.sign a.name) text in omega arith
later-within _ left (o.behind t s v z n _ c fit a w) = let h = later-within v left w in let l = length-append t (s ++ v) in let m = length-append s v in omega arith

range-within : (text : List ℕ) (left : ℕ) → OverRange text left → left ≤ length text
range-within text left (o.comparators _ _ l w) = later-within text left w
range-within _ left (o.upper a s v n _ i p w) =
    let e = upper-place v left w in
    let h = place-short (upper_raised w.name) v in
    let l = length-append a (s ++ 45 ∷ v) in
    let m = length-append s (45 ∷ v) in
    omega arith

pub over-within : (text : List ℕ) (n : ℕ) → HasOver text n → n ≤ length text
over-within _ n (o.here s v _ a w) = let h = range-within v n w in let l = length-append s v in omega arith
over-within _ n (o.behind s t r v k ls _ a i b w) =
    let h = over-within v n w in
    let l = length-append s (t ++ (r ++ 124 ∷ 124 ∷ v)) in
    let m = length-append t (r ++ 124 ∷ 124 ∷ v) in
    let q = length-append r (124 ∷ 124 ∷ v) in
    omega arith
