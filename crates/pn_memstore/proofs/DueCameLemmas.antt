-- Lemmas on the entries of a schedule that have their turn before a call.
use Rattle.std.proofs.Common.{◌≡◌, ℕ, List, [], ◌∷◌, ◌++◌, refl, sym, ap, ◌∙◌, subst, append-nil, append_assoc, inl, inr, Ok, Err, ◌≤◌}
use Rattle.std.specs.Prelude.{Result, OnOk}
use Rattle.std.specs.List.{AllByRecursion}
use Rattle.pn_storecore.specs.World.{World, empty}
use Rattle.pn_storecore.specs.Steps.{Journal, after, world_after, world_of}
use Rattle.pn_memstore.specs.Script.{Scheduled, IsDue, AreDue, DueCame}
use Rattle.pn_storecore.proofs.JournalLemmas.{after_both}

-- what is due of some entries, and then of others
due_both : (me : ℕ) (w : World) (xs ys : List Scheduled) (a b : Journal) → AreDue me w xs a → AreDue me (world_after w a) ys b → AreDue me w (xs ++ ys) (a ++ b)
due_both me w [] ys a b first second = subst (λ (x : Journal). AreDue me w ys (x ++ b)) (sym first) (subst (λ (x : Journal). AreDue me (world_after w x) ys b) first second)
due_both me w (e ∷ xs) ys a b first second = elim first [
  | inl due ↦
      let rest = due.1.0 in
      let later = subst (λ (x : Journal). AreDue me (world_after w x) ys b) due.1.1 second in
      inl (due.0, (rest ++ b, ap (λ (x : Journal). x ++ b) due.1.1, due_both me (after e.1 e.2 w) xs ys rest b due.1.2 later))
  | inr passed ↦ inr (passed.0, due_both me w xs ys a b passed.1 second)
]

reached_both : (call : ℕ) (xs ys : List Scheduled) → AllByRecursion (λ (e : Scheduled). e.0 ≤ call) xs → AllByRecursion (λ (e : Scheduled). e.0 ≤ call) ys → AllByRecursion (λ (e : Scheduled). e.0 ≤ call) (xs ++ ys)
reached_both call [] ys first second = second
reached_both call (e ∷ xs) ys first second = (first.0, reached_both call xs ys first.1 second)

-- what came of one entry
abbrev pub OneCame : ℕ → Scheduled → Journal → Journal → Type 0
OneCame me e old new = (came : Journal) × AreDue me (world_of old) (e ∷ []) came × (new ≡ old ++ came)

-- one more entry had its turn
pub next_due : (me call : ℕ) (es mid rest : List Scheduled) (e : Scheduled) (old now new : Journal) → DueCame me call es mid old [] now → mid ≡ e ∷ rest → e.0 ≤ call → OneCame me e now new → DueCame me call es rest old [] new
next_due me call es mid rest e old now new h is reached one = record {
  turned = h.turned ++ e ∷ [];
  came = h.came ++ one.0;
  first = h.first ∙ ap (λ (x : List Scheduled). h.turned ++ x) is ∙ sym (append_assoc h.turned (e ∷ []) rest);
  reached = reached_both call h.turned (e ∷ []) h.reached (reached, tt);
  due = due_both me (world_of old) h.turned (e ∷ []) h.came one.0 h.due (subst (λ w. AreDue me w (e ∷ []) one.0) then one.1);
  grew = one.2 ∙ ap (λ (x : Journal). x ++ one.0) grown ∙ append_assoc old h.came one.0 ∙ sym (append-nil (old ++ (h.came ++ one.0)));
} where
  grown : now ≡ old ++ h.came
  grown = h.grew ∙ append-nil (old ++ h.came)

  then : world_of now ≡ world_after (world_of old) h.came
  then = ap world_of grown ∙ after_both empty old h.came

pub came_on : {E : Type 0} (r : Result (Unit {0}) E) (me : ℕ) (e : Scheduled) (old new : Journal) → IsDue me (world_of old) e → OnOk r (new ≡ old ++ (e.1, e.2) ∷ []) → OnOk r (OneCame me e old new)
came_on (Ok v) me e old new due h = ((e.1, e.2) ∷ [], inl (due, ([], refl, refl)), h)
came_on (Err f) me e old new due h = tt
