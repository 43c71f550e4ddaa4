-- Where the reader stops nothing is read, neither up to a range's end nor up to a bound that is raised.
use Rattle.std.proofs.Common.{◌≡◌, ℕ, true, false, List, [], ◌∷◌, ◌++◌, length, Option, Some, None, refl, sym, ap, subst, ◌∙◌, arith, inl, inr, append_assoc, append-nil}
use Rattle.std.specs.Prelude.{◌==◌}
use Rattle.std.proofs.lemmas.Bool.{both_ways}
use Rattle.pn_ranges.specs.declared.comparator.Sign.{Sign}
use Rattle.pn_ranges.specs.declared.comparator.Sign.TheVariants as x
use Rattle.pn_ranges.specs.declared.fault.Stop.TheVariants as stop
use Rattle.pn_ranges.specs.Bytes.{is_space, behind, starts_with}
use Rattle.pn_ranges.specs.Forms as f
use Rattle.pn_ranges.specs.Grammar.{AreGaps, AreSpaces, IsComparator, IsEnd}
use Rattle.pn_ranges.specs.Grammar as g
use Rattle.pn_ranges.specs.Limits.{Limit}
use Rattle.pn_ranges.specs.Overs.{HasOver, NoLower, OverAt, OverLater, OverRange, OverUpper}
use Rattle.pn_ranges.specs.Overs as o
use Rattle.pn_ranges.specs.Places.{first_fault, gap, start}
use Rattle.pn_ranges.specs.Reading.{LowerAt, SpacedAt, SpacedRange, UpperAt}
use Rattle.pn_ranges.specs.Refusals.{NoOver}
use Rattle.pn_ranges.specs.Table.{Named, all_fit, limits, named, upper_limits}
use Rattle.pn_ranges.specs.Unread.{Closes, LaterTo, NeverTo, NoCompared, NoLater, NoRest, NoUpper, RangeTo, UpperTo, ends_range}
use Rattle.pn_ranges.specs.Unread as u
use Rattle.pn_ranges.proofs.Bars.{no_bar, spaced-bars}
use Rattle.pn_ranges.proofs.Closings.{apart-body, closes-body, closes-spaces, gap-body}
use Rattle.pn_ranges.proofs.Comparisons.{end-comparator}
use Rattle.pn_ranges.proofs.Counts.{bars-split}
use Rattle.pn_ranges.proofs.Faults.{fault-left}
use Rattle.pn_ranges.proofs.FrontOfLemmas.{behind-append, behind-same}
use Rattle.pn_ranges.proofs.Inside.{past}
use Rattle.pn_ranges.proofs.Passes.{forms-go}
use Rattle.pn_ranges.proofs.Reached.{FirstTo, first-more-ranges, first-over, first-unique, later-begun, later-open, later-over, lower-not, onward, over, last, more, range-read, same-begun, upper-is}
use Rattle.pn_ranges.proofs.Same.{Shape, behind-all, comparator-shape, head-same, same-end, same-split}

-- the comparator at the front
spaced-shape : (text rest : List ℕ) (s : Sign) (n : Named) (a : SpacedAt text s n rest) → Shape text s n (a.spaces ++ rest)
spaced-shape text rest s n a = subst (λ z. Shape z s n (a.spaces ++ rest)) (sym a.split) (comparator-shape a.front s n a.read (a.spaces ++ rest))

same-rest : (text rest : List ℕ) → text ≡ rest → starts_with is_space rest ≡ false → behind is_space text ≡ rest
same-rest text rest e h = ap (behind is_space) e ∙ behind-same is_space rest h

-- no comparator is read
pub later-none : (text : List ℕ) → starts_with is_space text ≡ false → NoCompared text → NeverTo LaterTo text
later-none text sp none = λ other to w e.
    let b = later-begun other to w in
    none b.front b.rest b.sign b.name b.is b.ends (sym (same-rest text text refl sp) ∙ sym e ∙ ap (behind is_space) b.split)

pub range-none : (text : List ℕ) → starts_with is_space text ≡ false → ends_range text ≡ false → NoCompared text → NeverTo RangeTo text
range-none text sp some none = never where
  never : (other : List ℕ) (to : Option ℕ) → RangeTo other to → behind is_space other ≡ behind is_space text → ⊥
  never other _ (u.empty _ h) e = both_ways (ends_range (behind is_space other)) (ap ends_range (e ∙ same-rest text text refl sp) ∙ some) h
  never other to (u.comparators _ _ l w) e = later-none text sp none other to w e
  never _ to (u.upper a s v n _ i p w) e =
      none a (s ++ 45 ∷ v) x.Exact n (end-comparator a n i) (gap-body s (45 ∷ v) p) (sym (same-rest text text refl sp) ∙ sym e)

-- a comparator more
pub later-rest : (spaces rest : List ℕ) → AreSpaces spaces → behind is_space (spaces ++ rest) ≡ behind is_space rest
later-rest spaces rest a = behind-append is_space spaces rest a

pub later-more : (text rest : List ℕ) (s : Sign) (n : Named) → SpacedAt text s n rest → starts_with is_space rest ≡ false → all_fit (limits s n) ≡ true → NoLater rest → NeverTo LaterTo text
later-more text rest s n a sp fit none = λ other to w e.
    elim (onward other text (a.spaces ++ rest) s n to w (spaced-shape text rest s n a) (apart-body a.spaces rest a.blank a.apart) e) [
      | over large is ↦ both_ways (all_fit (limits s n)) large fit
      | last fit2 h is ↦ both_ways (ends_range rest) none.0 (sym (ap ends_range (later-rest a.spaces rest a.blank ∙ same-rest rest rest refl sp)) ∙ h)
      | more v fit2 y q ↦ none.1 v to y (q ∙ later-rest a.spaces rest a.blank)
    ]

pub over-more : (text rest : List ℕ) (s : Sign) (n : Named) → SpacedAt text s n rest → starts_with is_space rest ≡ false → all_fit (limits s n) ≡ true
    → (left : ℕ) → OverLater rest left → OverLater text left
over-more text rest s n a sp fit left w =
    let further : ends_range rest ≡ false = sym (ap ends_range (same-rest rest rest refl sp)) ∙ over-open rest left w in
    subst (λ z. OverLater z left) (sym a.split) (o.behind a.front a.spaces rest s n left a.read fit (record { spaces = a.blank; some = a.apart further }) w) where
      over-open : (v : List ℕ) (m : ℕ) → OverLater v m → ends_range (behind is_space v) ≡ false
      over-open v m y = later-open v (Some m) (later-over v m y)

-- `A - B`
rest-of : (s r y : List ℕ) → AreSpaces s → starts_with is_space r ≡ false → s ++ r ≡ y → r ≡ behind is_space y
rest-of s r y a h e = sym (behind-all is_space s r a h) ∙ ap (behind is_space) e

upper-rest : (text rest : List ℕ) (z : Sign) (n : Named) → SpacedAt text z n rest → starts_with is_space rest ≡ false → (a s v : List ℕ) (m : Named) → IsEnd a m → AreGaps s
    → behind is_space (a ++ (s ++ 45 ∷ v)) ≡ behind is_space text → rest ≡ 45 ∷ v
upper-rest text rest z n k sp a s v m i p e =
    let q = same-begun text (k.spaces ++ rest) a (s ++ 45 ∷ v) z x.Exact n m (spaced-shape text rest z n k) (apart-body k.spaces rest k.blank k.apart) (end-comparator a m i)
    (gap-body s (45 ∷ v) p) e in
    rest-of k.spaces rest (s ++ 45 ∷ v) k.blank sp q.rest ∙ behind-all is_space s (45 ∷ v) p.spaces refl

tail-of : (s t : List ℕ) → 45 ∷ s ≡ 45 ∷ t → s ≡ t
tail-of s t h = cc h

pub hyphen-none : (text rest back : List ℕ) (z : Sign) (n : Named) → SpacedAt text z n rest → starts_with is_space text ≡ false → ends_range text ≡ false → starts_with is_space rest ≡ false
    → LowerAt text n rest → rest ≡ 45 ∷ back → NoRest back → NeverTo RangeTo text
hyphen-none text rest back z n k st some sp low d none = never where
  whole : text ≡ low.front ++ (low.spaces ++ 45 ∷ back)
  whole = low.split ∙ ap (λ y. low.front ++ (low.spaces ++ y)) d

  never : (other : List ℕ) (to : Option ℕ) → RangeTo other to → behind is_space other ≡ behind is_space text → ⊥
  never other _ (u.empty _ h) e = both_ways (ends_range (behind is_space other)) (ap ends_range (e ∙ same-rest text text refl st) ∙ some) h
  never other to (u.comparators _ _ l w) e =
      lower-not other low.front low.spaces back n l low.read (record { spaces = low.blank; some = low.apart (ap ends_range d) }) (e ∙ ap (behind is_space) whole)
  never _ to (u.upper a s v m _ i p w) e =
      none to (subst (λ y. UpperTo y to) (tail-of v back (sym (upper-rest text rest z n k sp a s v m i p e) ∙ d)) w)

pub hyphen-over : (text rest back : List ℕ) (n : Named) → LowerAt text n rest → rest ≡ 45 ∷ back → (left : ℕ) → OverUpper back left → OverRange text left
hyphen-over text rest back n low d left w =
    subst (λ z. OverRange z left) (sym (low.split ∙ ap (λ y. low.front ++ (low.spaces ++ y)) d))
    (o.upper low.front low.spaces back n left low.read (record { spaces = low.blank; some = low.apart (ap ends_range d) }) w)

-- where no `-` may come
dash-form : (s a p : List ℕ) (n : Named) → AreSpaces s → IsEnd a n → AreGaps p → f.AreForms ((s ++ (a ++ p)) ++ 45 ∷ 32 ∷ 48 ∷ [])
dash-form s a p n b i q =
    let zero : IsEnd (48 ∷ []) (named (Some 0) None None []) = g.end [] (48 ∷ []) _ refl (g.one (48 ∷ []) (Some 0) (g.number (48 ∷ []) 0 g.zero (omega arith))) in
    let same : s ++ ((a ++ (p ++ 45 ∷ (32 ∷ [] ++ 48 ∷ []))) ++ []) ≡ (s ++ (a ++ p)) ++ 45 ∷ 32 ∷ 48 ∷ [] =
    ap (λ z. s ++ z) (append-nil (a ++ (p ++ 45 ∷ 32 ∷ 48 ∷ []))) ∙ simp append_assoc in
    subst f.AreForms same (f.one s _ [] b (f.hyphen a p (32 ∷ []) (48 ∷ []) n _ i q (record { spaces = refl; some = refl }) zero) refl)

pub no-lower : (text rest : List ℕ) (z : Sign) (n : Named) → SpacedAt text z n rest → starts_with is_space rest ≡ false → first_fault start text ≡ first_fault (gap false) rest → NoLower text
no-lower text rest z n k sp h = λ s a p r m b i q e.
    let line : (s ++ (a ++ p)) ++ 45 ∷ r ≡ s ++ (a ++ (p ++ 45 ∷ r)) = simp append_assoc in
    let is = upper-rest text rest z n k sp a p r m i q (sym (ap (behind is_space) e ∙ behind-append is_space s (a ++ (p ++ 45 ∷ r)) b)) in
    let y = past (s ++ (a ++ p)) start 45 r (32 ∷ 48 ∷ []) refl (forms-go _ (dash-form s a p m b i q)) in
    let fault : first_fault y.0 r ≡ Some (stop.Byte (length (45 ∷ r))) = sym y.1 ∙ ap (first_fault start) (line ∙ sym e) ∙ h ∙ ap (first_fault (gap false)) is in
    let left = fault-left r y.0 (stop.Byte (length (45 ∷ r))) fault in
    omega arith

pub later-range : (text : List ℕ) → starts_with is_space text ≡ false → ends_range text ≡ false → NoLower text → NeverTo LaterTo text → NeverTo RangeTo text
later-range text st some low none = never where
  never : (other : List ℕ) (to : Option ℕ) → RangeTo other to → behind is_space other ≡ behind is_space text → ⊥
  never other _ (u.empty _ h) e = both_ways (ends_range (behind is_space other)) (ap ends_range (e ∙ same-rest text text refl st) ∙ some) h
  never other to (u.comparators _ _ l w) e = none other to w e
  never _ to (u.upper a s v m _ i p w) e = lower-not text a s v m low i p (sym e)

-- upper ends
upper-none : (text : List ℕ) (to : Option ℕ) → UpperTo text to → NoUpper text → ⊥
upper-none text _ (u.raised _ left a) none = none a.gaps a.front a.rest a.name a.apart a.read a.ends a.split
upper-none _ _ (u.last s t rest n a i fit h) none = none s t rest n a i (closes-body rest h) refl

pub rest-none : (text : List ℕ) → NoUpper text → NoRest text
rest-none text none = λ to w. upper-none text to w none

pub rest-closed : (text rest : List ℕ) (high : Named) → UpperAt text high rest → starts_with is_space rest ≡ false → ends_range rest ≡ false → all_fit (upper_limits high) ≡ true → NoRest text
rest-closed text rest high a sp some fit = λ to w.
    let ends = apart-body a.spaces rest a.blank a.behind in
    let back = a.spaces ++ rest in
    let left : behind is_space text ≡ a.front ++ back = ap (behind is_space) a.split ∙ behind-append is_space a.gaps (a.front ++ back) a.apart.spaces ∙ head-same a.front back high a.read in
    let q = upper-is text to w in
    let e = same-end a.front q.front back q.rest high q.name a.read q.is ends q.ends (sym left ∙ q.split) in
    let fits : all_fit (upper_limits high) ≡ all_fit (upper_limits q.name) = ap (λ z. all_fit (upper_limits z)) e.0 in
    elim q.fit [
      | inl v ↦ both_ways (all_fit (upper_limits high)) (fits ∙ v.0) fit
      | inr v ↦ both_ways (ends_range rest) some (sym (ap ends_range (later-rest a.spaces rest a.blank ∙ same-rest rest rest refl sp)) ∙ ap (λ z. ends_range (behind is_space z)) e.1 ∙ v.1)
    ]

-- sets of ranges
pub first-of : (text : List ℕ) (left : ℕ) → HasOver text left → (to : Option ℕ) × FirstTo text to
first-of _ left (o.here s v _ a w) = (Some left, first-over s v left a w)
first-of _ left (o.behind s t r v k ls _ a i b h) = (None, first-more-ranges s t r v k ls a i b)

pub into-none : (text mid : List ℕ) → behind is_space mid ≡ behind is_space text → NeverTo RangeTo mid → NoOver text
into-none text mid e none = λ left h. let p = first-of text left h in none p.1.whole p.0 p.1.is (p.1.same ∙ sym e)

pub into-over : (text lead mid : List ℕ) → AreSpaces lead → text ≡ lead ++ mid → (left : ℕ) → OverRange mid left → HasOver text left
into-over text lead mid b split left w = subst (λ z. HasOver z left) (sym split) (o.here lead mid left b w)

-- a range and what is behind it
spaced-first : (text rest : List ℕ) (k : ℕ) (ls : List Limit) → SpacedRange text k ls rest → starts_with is_space rest ≡ false → ends_range rest ≡ true → FirstTo text None
spaced-first text rest k ls a sp ends = record {
  whole = a.front ++ (a.spaces ++ rest);
  is = range-read a.front (a.spaces ++ rest) k ls a.read (closes-spaces a.spaces rest a.blank sp ends);
  same = sym (behind-append is_space a.lead (a.front ++ (a.spaces ++ rest)) a.before) ∙ ap (behind is_space) (sym a.split);
}

-- in what is behind its `||` a bound is raised
record NextOver (rest : List ℕ) (left : ℕ) : Type 0 where
  next : List ℕ
  is : rest ≡ 124 ∷ 124 ∷ next
  over : HasOver next left

next-over : (text : List ℕ) (left : ℕ) → HasOver text left → (whole rest : List ℕ) (k : ℕ) (ls : List Limit) → SpacedRange whole k ls rest → starts_with no_bar rest ≡ false
    → starts_with is_space rest ≡ false → ends_range rest ≡ true → text ≡ whole → NextOver rest left
next-over _ left (o.here s v _ a w) whole rest k ls q bar sp ends e =
    let x : Some left ≡ None = first-unique (s ++ v) whole (Some left) None (first-over s v left a w) (spaced-first whole rest k ls q sp ends) e in
    absurd (cc x)
next-over _ left (o.behind s t r v k ls _ a i b h) whole rest m js q bar sp ends e =
    let line : whole ≡ (q.lead ++ (q.front ++ q.spaces)) ++ rest = q.split ∙ simp append_assoc in
    let z = same-split no_bar (s ++ (t ++ r)) (124 ∷ 124 ∷ v) (q.lead ++ (q.front ++ q.spaces)) rest (spaced-bars s t r k ls a i b) refl (spaced-bars q.lead q.front q.spaces m js q.before q.read q.blank)
    bar (sym (bars-split s t r v) ∙ e ∙ line) in
    record { next = v; is = sym z.1; over = h }

bar-stops : (rest back : List ℕ) → rest ≡ 124 ∷ back → (starts_with no_bar rest ≡ false) × (starts_with is_space rest ≡ false) × (ends_range rest ≡ true)
bar-stops rest back e = (ap (starts_with no_bar) e, ap (starts_with is_space) e, ap ends_range e)

bars-tail : (s t : List ℕ) → 124 ∷ 124 ∷ s ≡ 124 ∷ 124 ∷ t → s ≡ t
bars-tail s t h = cc h

bar-tail : (s t : List ℕ) → 124 ∷ s ≡ 124 ∷ t → s ≡ t
bar-tail s t h = cc h

pub next-none : (text rest next : List ℕ) (k : ℕ) (ls : List Limit) → SpacedRange text k ls rest → rest ≡ 124 ∷ 124 ∷ next → NoOver next → NoOver text
next-none text rest next k ls a d none = λ left h.
    let b = bar-stops rest (124 ∷ next) d in
    let n = next-over text left h text rest k ls a b.0 b.1 b.2 refl in
    none left (subst (λ z. HasOver z left) (bars-tail n.next next (sym n.is ∙ d)) n.over)

pub next-wider : (text rest next : List ℕ) (k : ℕ) (ls : List Limit) → SpacedRange text k ls rest → rest ≡ 124 ∷ 124 ∷ next → (left : ℕ) → HasOver next left → HasOver text left
next-wider text rest next k ls a d left h =
    subst (λ z. HasOver z left) (sym (a.split ∙ ap (λ y. a.lead ++ (a.front ++ (a.spaces ++ y))) d)) (o.behind a.lead a.front a.spaces next k ls left a.before a.read a.blank h)

pub bar-none : (text rest back : List ℕ) (k : ℕ) (ls : List Limit) → SpacedRange text k ls rest → rest ≡ 124 ∷ back → starts_with (λ b. b == 124) back ≡ false → NoOver text
bar-none text rest back k ls a d none = λ left h.
    let b = bar-stops rest back d in
    let n = next-over text left h text rest k ls a b.0 b.1 b.2 refl in
    both_ways (starts_with (λ b. b == 124) back) none (ap (starts_with (λ b. b == 124)) (bar-tail back (124 ∷ n.next) (sym d ∙ n.is)))
