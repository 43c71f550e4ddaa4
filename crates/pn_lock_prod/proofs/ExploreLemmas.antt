-- What steps lead to.
use Rattle.std.proofs.Common.{◌≡◌, ◌<◌, ◌≤◌, ℕ, ◌+◌, Bool, List, [], ◌++◌, length, get_or, inl, inr, ◌⊎◌, sym, ap, ◌∙◌, subst, arith, length-append}
use Rattle.std.specs.List.{Contains}
use Rattle.std.proofs.lemmas.List.{get_or_default, get_or_append_left}
use Rattle.std.proofs.lemmas.List.Elements.{Contains-append_left, Contains-append_cases, Contains-get_or}
use Rattle.pn_lock_prod.specs.Walks.{AddsAll, AreMet, Walks, IsExplored, IsMarked, first, next}
use Rattle.pn_lock_prod.proofs.FoundLemmas.{all_within}

module _ (Leads : ℕ → ℕ → Type 0) (Starts : ℕ → Type 0) where
  -- where nothing but what is had first is met
  pub first_explored : (order : List ℕ) → AddsAll Starts [] order → IsExplored Leads Starts 0 order
  first_explored order a = record {
    within = omega arith;
    start = a.all;
    sound = λ k c. first k (a.each k (subst (λ (l : List ℕ). Contains l k) a.is c));
    closed = λ j h. absurd (omega arith);
  }

  before_or_at : (j at : ℕ) → j < at + 1 → (j < at) ⊎ (j ≡ at)
  before_or_at j at h = grind arith

  before_within : (j at n : ℕ) → j < at → at < n → j < n
  before_within j at n h w = omega arith

  -- what the one at the place leads to is met too
  pub more_explored : (at : ℕ) (a b : List ℕ) → IsExplored Leads Starts at a → at < length a → AddsAll (Leads (get_or a at 0)) a b → IsExplored Leads Starts (at + 1) b
  more_explored at a b e h new =
      let more = new.more in
      let kept = λ (k : ℕ) (c : Contains a k). subst (λ (l : List ℕ). Contains l k) (sym new.is) (Contains-append_left a more k c) in
      let same = λ (j : ℕ) (w : j < length a). ap (λ (l : List ℕ). get_or l j 0) new.is ∙ get_or_append_left a more 0 j w in
      record {
        within = let long : length b ≡ length (a ++ more) = ap length new.is in let longer : length a ≤ length (a ++ more) = grind (arith, length-append) in omega arith;
        start = λ k s. kept k (e.start k s);
        sound = λ k c. elim (Contains-append_cases a more k (subst (λ (l : List ℕ). Contains l k) new.is c)) [
          | inl old ↦ e.sound k old
          | inr fresh ↦ next (get_or a at 0) k (e.sound (get_or a at 0) (Contains-get_or a at 0 h)) (new.each k fresh)
        ];
        closed = λ j below k leads. elim (before_or_at j at below) [
          | inl before ↦ kept k (e.closed j before k (subst (λ (i : ℕ). Leads i k) (same j (before_within j at (length a) before h)) leads))
          | inr here ↦ new.all k (subst (λ (i : ℕ). Leads i k) (same at h) (subst (λ (i : ℕ). Leads (get_or b i 0) k) here leads))
        ];
      }

  first_within : (j n at : ℕ) → j < n → n ≤ at → j < at
  first_within j n at h w = omega arith

  complete : (at : ℕ) (order : List ℕ) → IsExplored Leads Starts at order → length order ≤ at → (k : ℕ) → Walks Leads Starts k → Contains order k
  complete at order e h _ (first k s) = e.start k s
  complete at order e h _ (next i k r l) =
      let c = complete at order e h i r in
      let is : get_or order c.0 0 ≡ i = get_or_default order c.0 0 i c.1 ∙ c.2 in
      e.closed c.0 (first_within c.0 (length order) at c.1 h) k (subst (λ (m : ℕ). Leads m k) (sym is) l)

  -- where all that are met were followed
  pub all_explored : (at : ℕ) (order : List ℕ) → IsExplored Leads Starts at order → length order ≤ at → AreMet Leads Starts order
  all_explored at order e h = record { sound = e.sound; complete = complete at order e h }

-- no more are met than there are
pub few_met : (seen : List Bool) (order : List ℕ) (n at : ℕ) → IsMarked seen order → length seen ≡ n → n ≤ at → length order ≤ at
few_met seen order n at m e h = let o = m.once in omega arith

pub met_within : (seen : List Bool) (order : List ℕ) (at : ℕ) → IsMarked seen order → at < length order → get_or order at 0 < length seen
met_within seen order at m h = all_within seen order m (get_or order at 0) (Contains-get_or order at 0 h)
