-- The last target that waits needs no more.
use Rattle.std.proofs.Common.{◌≡◌, ◌<◌, ◌≤◌, ℕ, List, [], ◌∷◌, ◌++◌, length, get_or, sym, ◌∙◌, subst, inl, inr, arith}
use Rattle.std.specs.List.{Contains}
use Rattle.std.proofs.lemmas.Bool.{cases_lt}
use Rattle.std.proofs.lemmas.List.{get_or_append_left, get_or_push, length_push}
use Rattle.pn_components.specs.declared.walk.Mark.{Mark}
use Rattle.pn_components.specs.declared.walk.Mark.TheVariants.{Open, Done}
use Rattle.pn_components.specs.declared.walk.Part.{Part}
use Rattle.pn_components.specs.Rows.{LeadsIn}
use Rattle.pn_components.specs.Walks.{IsOfPart, IsWalk, Meets, closed, follows, waits, mark_of}

-- a target that is in a component, or in the last part
pub data IsSettled (marks : List Mark) (parts : List Part) (w : ℕ) : Type 0 where
  is_done : (n : ℕ) → mark_of marks w ≡ Done n → IsSettled marks parts w
  is_open : (j : ℕ) → mark_of marks w ≡ Open j → ((x : Part) → Contains parts x → x.first ≤ j) → IsSettled marks parts w

settled_meets : (marks : List Mark) (parts : List Part) (waiting : List ℕ) (i w : ℕ) → IsSettled marks parts w → Meets marks parts waiting i w
settled_meets marks parts waiting i w (is_done n is) = closed n is
settled_meets marks parts waiting i w (is_open j is f) = follows j is (λ y c le. f y c)

module _ (rows : List (List ℕ)) (marks : List Mark) (stack : List ℕ) (parts : List Part) (front : List ℕ) (w numbers : ℕ) (h : IsWalk rows marks stack parts (front ++ w ∷ []) numbers) (settled : IsSettled marks parts w) (rest : (x : Part) → Contains parts x → x.waiting ≤ length front) where
  still_meets : (i u : ℕ) → Meets marks parts (front ++ w ∷ []) i u → Meets marks parts front i u
  still_meets i u (closed n is) = closed n is
  still_meets i u (follows j is f) = follows j is f
  still_meets i u (waits k lt is f) = elim (cases_lt k (length front)) [
    | inl low ↦ waits k low (sym (get_or_append_left front (w ∷ []) 0 k low) ∙ is) f
    | inr high ↦
        let top : length front ≡ k = omega (arith, lt, high, length_push front w) in
        let same : w ≡ u = sym (get_or_push front w 0 k top) ∙ is in
        subst (λ (y : ℕ). Meets marks parts front i y) same (settled_meets marks parts front i w settled)
  ]

  still_source : (k : ℕ) → k < length front → IsOfPart rows stack parts k (get_or front k 0)
  still_source k lt = let s = h.sources k (omega (arith, lt, length_push front w)) in record {
    place = s.place;
    within = s.within;
    leads = subst (λ (y : ℕ). LeadsIn rows (get_or stack s.place 0) y) (get_or_append_left front (w ∷ []) 0 k lt) s.leads;
    after = s.after;
    before = s.before;
  }

  pub popped : IsWalk rows marks stack parts front numbers
  popped = record {
    small = h.small;
    targets = h.targets;
    count = h.count;
    stacked = h.stacked;
    opened = h.opened;
    begun = λ x c. ((h.begun x c).0, rest x c);
    rising = h.rising;
    covered = h.covered;
    linked = h.linked;
    meets = λ i u lt leads. still_meets i u (h.meets i u lt leads);
    sources = still_source;
    falls = h.falls;
    joined = h.joined;
    numbered = h.numbered;
    used = h.used;
    few = h.few;
  }
