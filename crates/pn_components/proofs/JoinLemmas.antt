-- The last part joins the one before.
use Rattle.std.proofs.Common.{◌<◌, ◌≤◌, ℕ, List, [], ◌∷◌, ◌++◌, length, get_or, sym, subst, inl, inr, arith}
use Rattle.std.specs.List.{Contains}
use Rattle.std.proofs.lemmas.Bool.{cases_lt}
use Rattle.std.proofs.lemmas.List.{length_push}
use Rattle.std.proofs.lemmas.List.Elements.{Contains-push_cases}
use Rattle.pn_components.specs.declared.walk.Mark.{Mark}
use Rattle.pn_components.specs.declared.walk.Part.{Part}
use Rattle.pn_components.specs.Graphs.{Reaches}
use Rattle.pn_components.specs.Rows.{LeadsIn}
use Rattle.pn_components.specs.Walks.{AllReach, Follows, IsWalk, Meets, closed, follows, waits}
use Rattle.pn_components.proofs.Reaching.{onward}
use Rattle.pn_components.proofs.PartLemmas.{front_rising, each_part, in_front}

module _ (rows : List (List ℕ)) (marks : List Mark) (stack : List ℕ) (front : List Part) (x : Part) (waiting : List ℕ) (numbers place : ℕ) (h : IsWalk rows marks stack (front ++ x ∷ []) waiting numbers) (less : place < x.first) (within : place < length stack) (reached : AllReach rows stack (get_or stack place 0)) where
  old_part : (y : Part) → Contains front y → Contains (front ++ x ∷ []) y
  old_part y c = in_front front x y c

  -- some part but the last begins before that place
  earlier : (i : ℕ) → x.first ≤ i → (y : Part) × Contains front y × (y.first ≤ i)
  earlier i le = let b = h.covered place within in elim (Contains-push_cases front x b.0 b.1) [
    | inl old ↦ (b.0, old, let low = b.2 in omega (arith, low, less, le))
    | inr is ↦ absurd (let low : x.first ≤ place = subst (λ (y : Part). y.first ≤ place) (sym is) b.2 in omega (arith, low, less))
  ]

  still_covered : (i : ℕ) → i < length stack → (y : Part) × Contains front y × (y.first ≤ i)
  still_covered i lt = let k = h.covered i lt in elim (Contains-push_cases front x k.0 k.1) [
    | inl old ↦ (k.0, old, k.2)
    | inr is ↦ earlier i (subst (λ (y : Part). y.first ≤ i) (sym is) k.2)
  ]

  still_linked : (i j : ℕ) → i < length stack → j < length stack → Follows front i j → Reaches (LeadsIn rows) (get_or stack i 0) (get_or stack j 0)
  still_linked i j wi wj f = elim (cases_lt i x.first) [
    | inl low ↦ h.linked i j wi wj (each_part (λ (y : Part). y.first ≤ i → y.first ≤ j) front x f (λ le. absurd (omega (arith, low, le))))
    | inr high ↦ (elim (cases_lt j x.first) [
      | inl behind ↦ onward (LeadsIn rows) (get_or stack i 0) (get_or stack place 0) (get_or stack j 0) (reached i wi)
          (h.linked place j within wj (each_part (λ (y : Part). y.first ≤ place → y.first ≤ j) front x (λ y c le. f y c (omega (arith, le, less, high))) (λ le. absurd (omega (arith, less, le)))))
      | inr ahead ↦ h.linked i j wi wj (each_part (λ (y : Part). y.first ≤ i → y.first ≤ j) front x f (λ le. ahead))
    ])
  ]

  still_meets : (i w : ℕ) → Meets marks (front ++ x ∷ []) waiting i w → Meets marks front waiting i w
  still_meets i w (closed n is) = closed n is
  still_meets i w (follows j is f) = follows j is (λ y c. f y (old_part y c))
  still_meets i w (waits k lt is f) = waits k lt is (λ y c. f y (old_part y c))

  pub joined_one : IsWalk rows marks stack front waiting numbers
  joined_one = record {
    small = h.small;
    targets = h.targets;
    count = h.count;
    stacked = h.stacked;
    opened = h.opened;
    begun = λ y c. h.begun y (old_part y c);
    rising = front_rising front x h.rising;
    covered = still_covered;
    linked = still_linked;
    meets = λ i w lt leads. still_meets i w (h.meets i w lt leads);
    sources = λ k lt. let s = h.sources k lt in record {
      place = s.place;
      within = s.within;
      leads = s.leads;
      after = λ y c. s.after y (old_part y c);
      before = λ y c. s.before y (old_part y c);
    };
    falls = h.falls;
    joined = h.joined;
    numbered = h.numbered;
    used = h.used;
    few = let f = h.few in omega (arith, f, length_push front x);
  }
