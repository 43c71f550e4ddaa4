-- A bound that is raised stands before the first fault of the automaton.
use Rattle.std.proofs.Common.{◌≡◌, ◌≤◌, ◌<◌, ℕ, true, false, List, [], ◌∷◌, ◌++◌, length, Some, None, refl, sym, ap, subst, ◌∙◌, arith, inl, inr, append_assoc, append-nil, length-append}
use Rattle.std.proofs.lemmas.Bool.{cases_Bool, eqb-true, not-false}
use Rattle.pn_ranges.specs.declared.fault.Stop.{Stop}
use Rattle.pn_ranges.specs.Bytes.{is_body, is_space, is_stop, starts_with}
use Rattle.pn_ranges.specs.Forms.{AreCompared, AreForms, IsForm}
use Rattle.pn_ranges.specs.Forms as f
use Rattle.pn_ranges.specs.Overs.{HasOver, OverLater, OverRange, OverUpper}
use Rattle.pn_ranges.specs.Overs as o
use Rattle.pn_ranges.specs.Places.{first_fault, start}
use Rattle.pn_ranges.specs.Reading.{left_of}
use Rattle.pn_ranges.proofs.Accepts.{stop-digit}
use Rattle.pn_ranges.proofs.Faults.{fault-left}
use Rattle.pn_ranges.proofs.Inside.{accepted, left-within, past}
use Rattle.pn_ranges.proofs.OverProofs.{all-append}
use Rattle.pn_ranges.proofs.Passes.{forms-go}
use Rattle.pn_ranges.proofs.Stopped.{range-form}

-- a text up to behind what is raised
record UpTo (Right : List ℕ → Type 0) (text : List ℕ) (left : ℕ) : Type 0 where
  front : List ℕ
  rest : List ℕ
  split : text ≡ front ++ rest
  is : Right front
  ends : starts_with is_body rest ≡ false
  after : length rest ≤ left

not-after : (left : ℕ) (from rest : List ℕ) → left ≡ length (from ++ rest) → length rest ≤ left
not-after left from rest e = let l = length-append from rest in omega arith

later-up : (text : List ℕ) (left : ℕ) → OverLater text left → UpTo AreCompared text left
later-up text left (o.here _ rest _ a) =
    record { front = a.front; rest = rest; split = a.split; is = f.one a.front a.sign a.name a.read; ends = a.ends; after = not-after left a.from rest a.place }
later-up _ left (o.behind t s v x n _ c fit a w) =
    let k = later-up v left w in
    record {
      front = t ++ (s ++ k.front);
      rest = k.rest;
      split = ap (λ z. t ++ (s ++ z)) k.split ∙ simp append_assoc;
      is = f.more t s k.front x n c a k.is;
      ends = k.ends;
      after = k.after;
    }

range-up : (text : List ℕ) (left : ℕ) → OverRange text left → UpTo IsForm text left
range-up text left (o.comparators _ _ none w) =
    let k = later-up text left w in
    record { front = k.front; rest = k.rest; split = k.split; is = f.comparators k.front k.is; ends = k.ends; after = k.after }
range-up _ left (o.upper a s v n _ i p w) = record {
  front = a ++ (s ++ 45 ∷ (w.gaps ++ w.front));
  rest = w.rest;
  split = ap (λ z. a ++ (s ++ 45 ∷ z)) w.split ∙ simp append_assoc;
  is = f.hyphen a s w.gaps w.front n w.name i p w.apart w.read;
  ends = w.ends;
  after = not-after left w.from w.rest w.place;
}

set-up : (text : List ℕ) (left : ℕ) → HasOver text left → UpTo AreForms text left
set-up _ left (o.here s v _ a w) =
    let k = range-up v left w in
    record {
      front = s ++ (k.front ++ []);
      rest = k.rest;
      split = ap (λ z. s ++ z) k.split ∙ simp append_assoc;
      is = f.one s k.front [] a k.is refl;
      ends = k.ends;
      after = k.after;
    }
set-up _ left (o.behind s t r v c ls _ a i b w) =
    let k = set-up v left w in
    record {
      front = s ++ (t ++ (r ++ 124 ∷ 124 ∷ k.front));
      rest = k.rest;
      split = ap (λ z. s ++ (t ++ (r ++ 124 ∷ 124 ∷ z))) k.split ∙ simp append_assoc;
      is = f.more s t r k.front a (range-form t c ls i) b k.is;
      ends = k.ends;
      after = k.after;
    }

-- what may follow a text of the form
forms-more : (text : List ℕ) (b : ℕ) → AreForms text → is_stop b ≡ true → (more : List ℕ) × AreForms (text ++ b ∷ more)
forms-more _ b (f.one s t r a i c) h = elim (cases_Bool (is_space b)) [
  | inl space ↦
      let line : s ++ (t ++ (r ++ b ∷ [])) ≡ (s ++ (t ++ r)) ++ b ∷ [] = simp append_assoc in
      ([], subst AreForms line (f.one s t (r ++ b ∷ []) a i (all-append is_space r (b ∷ []) c (rw space refl))))
  | inr other ↦
      let bar : b ≡ 124 = eqb-true b 124 (rw other at h) in
      let line : s ++ (t ++ (r ++ 124 ∷ 124 ∷ [])) ≡ (s ++ (t ++ r)) ++ 124 ∷ 124 ∷ [] = simp append_assoc in
      (124 ∷ [], subst (λ z. AreForms ((s ++ (t ++ r)) ++ z ∷ 124 ∷ [])) (sym bar) (subst AreForms line (f.more s t r [] a i c (f.one [] [] [] refl f.empty refl))))
]
forms-more _ b (f.more s t r v a i c w) h =
    let k = forms-more v b w h in
    let line : s ++ (t ++ (r ++ 124 ∷ 124 ∷ (v ++ b ∷ k.0))) ≡ (s ++ (t ++ (r ++ 124 ∷ 124 ∷ v))) ++ b ∷ k.0 = simp append_assoc in
    (k.0, subst AreForms line (f.more s t r (v ++ b ∷ k.0) a i c k.1))

behind-form : (front rest : List ℕ) (s : Stop) → AreForms front → starts_with is_body rest ≡ false → first_fault start (front ++ rest) ≡ Some s → left_of s < length rest
behind-form front [] s a ends h =
    let w : None ≡ Some s = sym (accepted front start (forms-go front a)) ∙ ap (first_fault start) (sym (append-nil front)) ∙ h in
    cc w
behind-form front (b ∷ rest) s a ends h =
    let stop = not-false (is_stop b) ends in
    let k = forms-more front b a stop in
    let p = past front start b rest k.0 (stop-digit b stop) (forms-go (front ++ b ∷ k.0) k.1) in
    let left = left-within (length rest) s (fault-left rest p.0 s (sym p.1 ∙ h)) in
    omega arith

pub over-first : (text : List ℕ) (left : ℕ) (s : Stop) → HasOver text left → first_fault start text ≡ Some s → left_of s < left
over-first text left s h e =
    let k = set-up text left h in
    let l = behind-form k.front k.rest s k.is k.ends (ap (first_fault start) (sym k.split) ∙ e) in
    let a = k.after in
    omega arith
