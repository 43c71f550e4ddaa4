-- Sets of ranges.
use Rattle.std.proofs.Common.{◌≡◌, ◌≤◌, ◌+◌, ◌-◌, ℕ, Bool, true, false, List, [], ◌∷◌, ◌++◌, length, map, Some, None, refl, sym, ap, subst, ◌∙◌, arith, inl, inr, append_assoc, append-nil, zero-add}
use Rattle.std.specs.Prelude.{◌==◌, ◌||◌}
use Rattle.std.specs.List.{list_any}
use Rattle.pn_ranges.specs.declared.fault.Stop.{Stop}
use Rattle.pn_ranges.specs.declared.fault.Stop.TheVariants as stop
use Rattle.pn_ranges.specs.Bytes.{is_space, behind, front_of, starts_with}
use Rattle.pn_ranges.specs.Grammar.{AreRanges}
use Rattle.pn_ranges.specs.Grammar as g
use Rattle.pn_ranges.specs.Limits.{Limit}
use Rattle.pn_ranges.specs.Places.{bar, closed, start, first_fault}
use Rattle.pn_ranges.specs.Reading.{RangeAt, RangesBefore, SpacedRange, Stops}
use Rattle.pn_ranges.specs.Unread.{ends_range}
use Rattle.pn_ranges.specs.Overs.{HasOver}
use Rattle.pn_ranges.specs.Refusals.{IsLeftOf, NoOver, RangeRefused, refusal_of}
use Rattle.pn_ranges.proofs.Faults.{fault-left}
use Rattle.pn_ranges.proofs.Reached.{over-within}
use Rattle.pn_ranges.proofs.FrontOfLemmas.{front-behind, front-all, behind-le}
use Rattle.pn_ranges.proofs.FirstFaultLemmas.{run}

pub start-run : (text mid : List ℕ) → mid ≡ behind is_space text → first_fault start text ≡ first_fault start mid
start-run text mid h = run start is_space (λ b h. rw h refl) text ∙ ap (first_fault start) (sym h)

pub lead-split : (text mid : List ℕ) → mid ≡ behind is_space text → text ≡ front_of is_space text ++ mid
lead-split text mid h = front-behind is_space text ∙ ap (λ y. front_of is_space text ++ y) (sym h)

pub spaced-range : (text mid rest : List ℕ) (k : ℕ) (ls : List Limit) → mid ≡ behind is_space text → RangeAt mid k ls rest → SpacedRange text k ls rest
spaced-range text mid rest k ls h a = record {
  lead = front_of is_space text;
  front = a.front;
  spaces = a.spaces;
  split = lead-split text mid h ∙ ap (λ y. front_of is_space text ++ y) a.split;
  before = front-all is_space text;
  read = a.read;
  blank = a.blank;
}

pub few-more : (text mid : List ℕ) (n : ℕ) → mid ≡ behind is_space text → n ≤ length mid → n ≤ length text
few-more text mid n h l = let e = ap (λ (y : List ℕ). length y) h in let b = behind-le is_space text in omega arith

pub before-start : (text : List ℕ) (rs : List (List Limit)) → rs ≡ [] → RangesBefore text text 0 rs
before-start text rs e = record {
  front = [];
  split = refl;
  more = λ t k lss a. subst (λ z. AreRanges t z (rs ++ lss)) (sym (zero-add k)) (subst (λ z. AreRanges t k (z ++ lss)) (sym e) a);
}

pub before-next : (text mid rest r1 r2 : List ℕ) (c k : ℕ) (ls : List Limit) (rs new : List (List Limit)) → RangesBefore text mid c rs → SpacedRange mid k ls rest
    → rest ≡ 124 ∷ r1 → r1 ≡ 124 ∷ r2 → new ≡ rs ++ ls ∷ [] → RangesBefore text r2 (c + k) new
before-next text mid rest r1 r2 c k ls rs new b a h1 h2 n = record {
  front = b.front ++ (a.lead ++ (a.front ++ (a.spaces ++ 124 ∷ 124 ∷ [])));
  split = b.split ∙ ap (λ y. b.front ++ y) (a.split ∙ ap (λ y. a.lead ++ (a.front ++ (a.spaces ++ y))) (h1 ∙ ap (λ y. 124 ∷ y) h2)) ∙ simp append_assoc;
  more = λ t m lss w.
      let inner : AreRanges (a.lead ++ (a.front ++ (a.spaces ++ 124 ∷ 124 ∷ t))) (k + m) (ls ∷ lss) = g.more a.lead a.front a.spaces t k m ls lss a.before a.read a.blank w in
      let outer = b.more (a.lead ++ (a.front ++ (a.spaces ++ 124 ∷ 124 ∷ t))) (k + m) (ls ∷ lss) inner in
      let e1 : b.front ++ (a.lead ++ (a.front ++ (a.spaces ++ 124 ∷ 124 ∷ t))) ≡ (b.front ++ (a.lead ++ (a.front ++ (a.spaces ++ 124 ∷ 124 ∷ [])))) ++ t = simp append_assoc in
      let e2 : c + (k + m) ≡ (c + k) + m = omega arith in
      let e3 : rs ++ ls ∷ lss ≡ new ++ lss = sym (append_assoc rs (ls ∷ []) lss) ∙ ap (λ y. y ++ lss) (sym n) in
      subst (λ z. AreRanges z ((c + k) + m) (new ++ lss)) e1
      (subst (λ z. AreRanges (b.front ++ (a.lead ++ (a.front ++ (a.spaces ++ 124 ∷ 124 ∷ t)))) z (new ++ lss)) e2
      (subst (λ z. AreRanges (b.front ++ (a.lead ++ (a.front ++ (a.spaces ++ 124 ∷ 124 ∷ t)))) (c + (k + m)) z) e3 outer));
}

pub ranges-end : (text mid rest : List ℕ) (c k : ℕ) (ls : List Limit) (rs new : List (List Limit)) → RangesBefore text mid c rs → SpacedRange mid k ls rest → rest ≡ []
    → new ≡ rs ++ ls ∷ [] → AreRanges text (c + k) new
ranges-end text mid rest c k ls rs new b a h n =
    let inner : AreRanges (a.lead ++ (a.front ++ a.spaces)) k (ls ∷ []) = g.one a.lead a.front a.spaces k ls a.before a.read a.blank in
    let outer = b.more (a.lead ++ (a.front ++ a.spaces)) k (ls ∷ []) inner in
    let e : text ≡ b.front ++ (a.lead ++ (a.front ++ a.spaces)) =
    b.split ∙ ap (λ y. b.front ++ y) (a.split ∙ ap (λ y. a.lead ++ (a.front ++ y)) (ap (λ y. a.spaces ++ y) h ∙ append-nil a.spaces)) in
    subst (λ z. AreRanges z (c + k) new) (sym e) (subst (λ z. AreRanges (b.front ++ (a.lead ++ (a.front ++ a.spaces))) (c + k) z) (sym n) outer)

-- where a range ends and no `|` comes, the text ends
pub no-bar : (text : List ℕ) → ends_range text ≡ true → starts_with (λ b. b == 124) text ≡ false → text ≡ []
no-bar [] e h = refl
no-bar (b ∷ rest) e h = absurd (let x : true ≡ false = sym e ∙ h in cc)

pub closed-bar : (text rest : List ℕ) → text ≡ 124 ∷ rest → first_fault closed text ≡ first_fault bar rest
closed-bar text rest h = ap (first_fault closed) h

pub closed-start : (text rest next : List ℕ) → text ≡ 124 ∷ rest → rest ≡ 124 ∷ next → first_fault closed text ≡ first_fault start next
closed-start text rest next h k = ap (first_fault closed) (h ∙ ap (λ y. 124 ∷ y) k)

pub closed-end : (text : List ℕ) → text ≡ [] → first_fault closed text ≡ None
closed-end text h = ap (first_fault closed) h

pub bar-stop : (text : List ℕ) → starts_with (λ b. b == 124) text ≡ false → first_fault bar text ≡ Some (stop.Byte (length text))
bar-stop [] h = refl
bar-stop (b ∷ rest) h = rw h refl

pub stops-left : (text : List ℕ) (s : Stop) → Stops (HasOver text) (NoOver text) (first_fault start text) s → IsLeftOf (length text) s
stops-left text (stop.Byte n) h = fault-left text start (stop.Byte n) h.0
stops-left text (stop.Number n) h = elim h [ inl f ↦ fault-left text start (stop.Number n) f.0 | inr o ↦ over-within text n o ]
stops-left text stop.Memory h = tt

back : (n m : ℕ) → n ≤ m → m - (m - n) ≡ n
back n m h = omega arith

pub refused-from : (text : List ℕ) (s : Stop) → Stops (HasOver text) (NoOver text) (first_fault start text) s → RangeRefused text (refusal_of (length text) s)
refused-from text (stop.Byte n) h =
    let l : n ≤ length text = fault-left text start (stop.Byte n) h.0 in
    record { byte = record { within = omega arith; first = h.0 ∙ ap (λ z. Some (stop.Byte z)) (sym (back n (length text) l)) }; fit = h.1 }
refused-from text (stop.Number n) h =
    let l : n ≤ length text = stops-left text (stop.Number n) h in
    let e = sym (back n (length text) l) in
    elim h [
      | inl f ↦ inl (record { within = omega arith; first = f.0 ∙ ap (λ z. Some (stop.Number z)) e }, f.1)
      | inr o ↦ inr (record { within = omega arith; raised = subst (λ z. HasOver text z) e o })
    ]
refused-from text stop.Memory h = tt

pub any-map : {A B : Type 0} (f : B → Bool) (m : A → B) (xs : List A) → list_any f (map m xs) ≡ list_any (λ x. f (m x)) xs
any-map f m [] = refl
any-map f m (x ∷ xs) = ap (λ z. f (m x) || z) (any-map f m xs)
