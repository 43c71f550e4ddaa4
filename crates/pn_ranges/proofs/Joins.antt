-- Comparators one after another, and `A - B`.
use Rattle.std.proofs.Common.{◌≡◌, ◌≤◌, ◌<◌, ◌+◌, ℕ, Bool, true, false, List, [], ◌∷◌, ◌++◌, length, Option, Some, Result, Ok, Err, IfErr, refl, sym, ap, subst, ◌∙◌, arith, inl, inr, append_assoc, length-append}
use Rattle.std.proofs.Math.Nat.{add_comm}
use Rattle.std.specs.Prelude.{◌==◌, ◌&&◌, ◌⊎◌}
use Rattle.std.specs.Result.{IsErrAnd}
use Rattle.pn_ranges.specs.declared.comparator.Sign.{Sign}
use Rattle.pn_ranges.specs.declared.fault.Stop.{Stop}
use Rattle.pn_ranges.specs.declared.fault.Stop.TheVariants as stop
use Rattle.pn_ranges.specs.declared.partial.Partial.{Partial}
use Rattle.pn_ranges.specs.Bytes.{is_space, starts_with}
use Rattle.pn_ranges.specs.Edges.{IsRaised, left_at}
use Rattle.pn_ranges.specs.Grammar.{AreComparators, AreGaps, AreSpaces, IsComparator, IsRange}
use Rattle.pn_ranges.specs.Grammar as g
use Rattle.pn_ranges.specs.Limits.{Limit}
use Rattle.pn_ranges.specs.Places.{after, turn_of, first, later, start, closed, dash, gap, fault_comparator, first_fault}
use Rattle.pn_ranges.specs.Reading.{ComparatorsAt, HyphenAt, LowerAt, RangeAt, SpacedAt, Stops, UpperAt}
use Rattle.pn_ranges.specs.Unread.{ends_range}
use Rattle.pn_ranges.specs.Table.{Named, all_fit, between, limits, or_any}

-- the automaton where a comparator comes, and where a range ends
pub gap-comparator : (h : Bool) (text : List ℕ) → starts_with is_space text ≡ false → ends_range text ≡ false → (h && starts_with (λ b. b == 45) text) ≡ false
    → first_fault (gap h) text ≡ fault_comparator later text
gap-comparator h [] s e d = cc e
gap-comparator h (b ∷ rest) s e d = rw (s, e, d) refl

pub start-comparator : (text : List ℕ) → starts_with is_space text ≡ false → ends_range text ≡ false → first_fault start text ≡ fault_comparator first text
start-comparator [] s e = cc e
start-comparator (b ∷ rest) s e = rw (s, e) refl

pub start-closed : (text : List ℕ) → starts_with is_space text ≡ false → ends_range text ≡ true → first_fault start text ≡ first_fault closed text
start-closed [] s e = refl
start-closed (b ∷ rest) s e = rw (s, e) refl

pub closed-stop : (text : List ℕ) → starts_with is_space text ≡ false → ends_range text ≡ false → first_fault closed text ≡ Some (stop.Byte (length text))
closed-stop [] s e = cc e
closed-stop (b ∷ rest) s e = rw (s, e) refl

pub later-turn : (plain : Bool) (text : List ℕ) → first_fault (after (turn_of plain later)) text ≡ first_fault (gap false) text
later-turn true text = refl
later-turn false text = refl

-- faults that are passed on
pub stops-fault : (Over : ℕ → Type 0) (none : Type 0) (f : Option Stop) (s : Stop) → f ≡ Some s → none → Stops Over none f s
stops-fault Over none f stop.Memory h n = tt
stops-fault Over none f (stop.Byte k) h n = (h, n)
stops-fault Over none f (stop.Number k) h n = inl (h, n)

pub stops-from : {Over Inner : ℕ → Type 0} {none inner : Type 0} (f g : Option Stop) (s : Stop) → f ≡ g → (inner → none) → ((n : ℕ) → Inner n → Over n) → Stops Inner inner g s
    → Stops Over none f s
stops-from f g stop.Memory e up over h = tt
stops-from f g (stop.Byte n) e up over h = (e ∙ h.0, up h.1)
stops-from f g (stop.Number n) e up over h = elim h [ inl x ↦ inl (e ∙ x.0, up x.1) | inr o ↦ inr (over n o) ]

pub exit_by : {T : Type 0} (Over : ℕ → Type 0) (none : Type 0) (f : Option Stop) (r : Result T Stop) (x : Stop) → IsErrAnd r (λ y. y ≡ x) → Stops Over none f x → IfErr r (Stops Over none f)
exit_by Over none f (Ok v) x h stops = tt
exit_by Over none f (Err s) x h stops = subst (Stops Over none f) (sym h) stops

pub over-stops : (Over : ℕ → Type 0) (none : Type 0) (f : Option Stop) (ls : List Limit) (k : ℕ) (p : Partial) (s : Stop) → (all_fit ls ≡ false → Over (left_at k p))
    → (s ≡ stop.Memory) ⊎ IsRaised ls k p s → Stops Over none f s
over-stops Over none f ls k p s over h = elim h [
  | inl m ↦ subst (Stops Over none f) (sym m) tt
  | inr r ↦ subst (Stops Over none f) (sym r.0) (inr (over r.1))
]

-- one comparator more
comps-snoc : (t s u : List ℕ) (k : ℕ) (ls : List Limit) (x : Sign) (n : Named) → AreComparators t k ls → AreGaps s → IsComparator u x n → all_fit (limits x n) ≡ true
    → AreComparators (t ++ (s ++ u)) (k + 1) (ls ++ limits x n)
comps-snoc _ s u _ _ x n (g.one t y m c f) a h fit =
    g.more t s u y m 1 (limits x n) c f a (g.one u x n h fit)
comps-snoc _ s u _ _ x n (g.more t r v y m k ls c f b d) a h fit =
    let l : (limits y m ++ ls) ++ limits x n ≡ limits y m ++ (ls ++ limits x n) = append_assoc (limits y m) ls (limits x n) in
    let w : (t ++ (r ++ v)) ++ (s ++ u) ≡ t ++ (r ++ (v ++ (s ++ u))) = simp append_assoc in
    let q : (1 + k) + 1 ≡ 1 + (k + 1) = omega arith in
    let inner = comps-snoc v s u k ls x n d a h fit in
    let whole : AreComparators (t ++ (r ++ (v ++ (s ++ u)))) (1 + (k + 1)) (limits y m ++ (ls ++ limits x n)) = g.more t r (v ++ (s ++ u)) y m (k + 1) (ls ++ limits x n) c f b inner in
    subst (λ z. AreComparators z ((1 + k) + 1) ((limits y m ++ ls) ++ limits x n)) (sym w)
    (subst (λ z. AreComparators (t ++ (r ++ (v ++ (s ++ u)))) z ((limits y m ++ ls) ++ limits x n)) (sym q)
    (subst (λ z. AreComparators (t ++ (r ++ (v ++ (s ++ u)))) (1 + (k + 1)) z) (sym l) whole))

pub next-read : (whole text rest : List ℕ) (k : ℕ) (ls new : List Limit) (x : Sign) (n : Named) → ComparatorsAt whole k ls text → ends_range text ≡ false → SpacedAt text x n rest
    → new ≡ ls ++ limits x n → all_fit (limits x n) ≡ true → ComparatorsAt whole (k + 1) new rest
next-read whole text rest k ls new x n a some b e fit = record {
  front = a.front ++ (a.spaces ++ b.front);
  spaces = b.spaces;
  split = a.split ∙ ap (λ y. a.front ++ (a.spaces ++ y)) b.split ∙ simp append_assoc;
  read = subst (λ y. AreComparators (a.front ++ (a.spaces ++ b.front)) (k + 1) y) (sym e)
      (comps-snoc a.front a.spaces b.front k ls x n a.read (record { spaces = a.blank; some = a.apart some }) b.read fit);
  blank = b.blank;
  apart = b.apart;
}

pub first-read : (text rest : List ℕ) (new : List Limit) (x : Sign) (n : Named) → SpacedAt text x n rest → new ≡ limits x n → all_fit (limits x n) ≡ true → ComparatorsAt text 1 new rest
first-read text rest new x n b e fit = record {
  front = b.front;
  spaces = b.spaces;
  split = b.split;
  read = subst (λ y. AreComparators b.front 1 y) (sym e) (g.one b.front x n b.read fit);
  blank = b.blank;
  apart = b.apart;
}

-- ranges
pub range-comparators : (text rest : List ℕ) (k : ℕ) (ls : List Limit) → ComparatorsAt text k ls rest → RangeAt text k ls rest
range-comparators text rest k ls a = record { front = a.front; spaces = a.spaces; split = a.split; read = g.comparators a.front k ls a.read; blank = a.blank }

pub range-empty : (text : List ℕ) (ls : List Limit) → ls ≡ or_any [] → RangeAt text 0 ls text
range-empty text ls e = record { front = []; spaces = []; split = refl; read = subst (λ y. IsRange [] 0 y) (sym e) g.empty; blank = refl }

pub range-hyphen : (text mid r rest : List ℕ) (ls : List Limit) (low : Named) → LowerAt text low mid → mid ≡ 45 ∷ r → HyphenAt low r ls rest → RangeAt text 2 ls rest
range-hyphen text mid r rest ls low a m h =
    let u = h.read in
    record {
      front = a.front ++ (a.spaces ++ 45 ∷ (u.gaps ++ u.front));
      spaces = u.spaces;
      split = a.split ∙ ap (λ y. a.front ++ (a.spaces ++ y)) (m ∙ ap (λ y. 45 ∷ y) u.split) ∙ simp append_assoc;
      read = subst (λ y. IsRange (a.front ++ (a.spaces ++ 45 ∷ (u.gaps ++ u.front))) 2 y) (sym h.limits)
          (g.hyphen a.front a.spaces u.gaps u.front low h.high a.read (record { spaces = a.blank; some = a.apart (ap ends_range m) }) u.apart u.read (ap all_fit (sym h.limits) ∙ h.fit));
      blank = u.blank;
    }

pub hyphen-read : (low high : Named) (text rest : List ℕ) (old edges new : List Limit) → UpperAt text high rest → old ≡ [] → edges ≡ between low high → new ≡ old ++ edges
    → all_fit edges ≡ true → HyphenAt low text new rest
hyphen-read low high text rest old edges new u o e n f =
    let same : new ≡ edges = n ∙ ap (λ y. y ++ edges) o in
    record { high = high; read = u; limits = same ∙ e; fit = ap all_fit same ∙ f }

-- a first comparator and those behind it
pub with-first : (text mid rest : List ℕ) (k : ℕ) (old new : List Limit) → ComparatorsAt text 1 old mid
    → ((whole : List ℕ) (m : ℕ) → ComparatorsAt whole m old mid → ComparatorsAt whole (m + k) new rest) → ComparatorsAt text (k + 1) new rest
with-first text mid rest k old new a more = subst (λ z. ComparatorsAt text z new rest) (add_comm 1 k) (more text 1 a)

pub memory-stops : (Over : ℕ → Type 0) (none : Type 0) (f : Option Stop) (s : Stop) → s ≡ stop.Memory → Stops Over none f s
memory-stops Over none f s h = subst (Stops Over none f) (sym h) tt

-- behind a first comparator
pub start-dash : (plain : Bool) (text rest over : List ℕ) → first_fault start text ≡ first_fault (after (turn_of plain first)) rest → plain ≡ true → rest ≡ 45 ∷ over
    → first_fault start text ≡ first_fault dash over
start-dash true text rest over e p r = e ∙ ap (first_fault (gap true)) r
start-dash false text rest over e p r = cc p

pub gap-same : (plain : Bool) (rest : List ℕ) → starts_with is_space rest ≡ false → (plain && starts_with (λ b. b == 45) rest) ≡ false
    → first_fault (after (turn_of plain first)) rest ≡ first_fault (gap false) rest
gap-same false rest s d = refl
gap-same true [] s d = refl
gap-same true (b ∷ rest) s d = rw (s, d) refl

some-length : (s : List ℕ) → starts_with is_space s ≡ true → 0 < length s
some-length [] h = cc h
some-length (b ∷ s) h = omega arith

pub hyphen-length : (text rest over back : List ℕ) (low : Named) (ls : List Limit) → length rest < length text → rest ≡ 45 ∷ over → HyphenAt low over ls back → 2 + length back ≤ length text
hyphen-length text rest over back low ls s r h =
    let u = h.read in
    let a = ap (λ (y : List ℕ). length y) r in
    let b = ap (λ (y : List ℕ). length y) u.split ∙ length-append u.gaps (u.front ++ (u.spaces ++ back)) in
    let c = length-append u.front (u.spaces ++ back) in
    let d = length-append u.spaces back in
    let e = some-length u.gaps u.apart.some in
    omega arith

pub push-empty : (old edges new : List Limit) → old ≡ [] → new ≡ old ++ edges → new ≡ edges
push-empty old edges new o n = n ∙ ap (λ y. y ++ edges) o
