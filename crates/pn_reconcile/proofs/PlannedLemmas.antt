-- Lemmas on plans, whose entries rise in byte order of their paths.
use Rattle.std.proofs.Common.{◌≡◌, ℕ, ◌+◌, ◌<◌, List, [], ◌∷◌, ◌++◌, length, take, drop, get_or, sym, ap, ◌∙◌, subst, false, Some, inl, inr, drop-cons}
use Rattle.std.specs.Prelude.{suc}
use Rattle.std.specs.List.{Contains}
use Rattle.std.specs.Cmp.Lexicographic.{slice_cmp}
use Rattle.std.specs.Ordering.{nat_cmp}
use Rattle.std.specs.declared.cmp.Ordering.TheVariants.{Less, Greater}
use Rattle.std.proofs.lemmas.Bool.{false_from_ne_true}
use Rattle.std.proofs.lemmas.List.{take-append-drop, take_more, append-nil}
use Rattle.pn_text.specs.Path.{Path, path_text, same_path, text_below}
use Rattle.pn_text.proofs.Members.{in_cons}
use Rattle.pn_text.proofs.Orders.{not_before_self, not_both_before}
use Rattle.pn_text.proofs.Paths.{same_path-Decides}
use Rattle.pn_fs.proofs.Listings.{cmp_behind}
use Rattle.pn_digest.specs.declared.planned.Planned.{Planned}
use Rattle.pn_clear.specs.Items.{Item, Rises}
use Rattle.pn_repair.specs.declared.fault.RepairFault.{RepairFault}
use Rattle.pn_repair.specs.declared.fault.RepairFault.TheVariants.{Fault, StoreFault, Stored, Memory}
use Rattle.pn_repair.specs.RepairFaults.{IsOfPlan as IsOfEntry}
use Rattle.pn_clear.proofs.RisesLemmas.{found_at, before_later, earlier}
use Rattle.pn_reconcile.specs.Spares.{IsOfPlan}

pub cut_at : (plan : List Item) (i : ℕ) (e : Item) → i < length plan → e ≡ get_or plan i e → plan ≡ take i plan ++ e ∷ drop (suc i) plan
cut_at plan i e within is = sym (take-append-drop i plan) ∙ ap (λ l. take i plan ++ l) (drop-cons plan i e within ∙ ap (λ f. f ∷ drop (suc i) plan) (sym is))

pub front_more : {T : Type 0} (es : List T) (i : ℕ) (e : T) → i < length es → e ≡ get_or es i e → take i es ++ e ∷ [] ≡ take (i + 1) es
front_more es i e within is = sym (take_more es i e within ∙ ap (λ f. take i es ++ f ∷ []) (sym is))

-- at a path one thing is planned
pub planned_once : (plan : List Item) (q : Path) (w v : Planned) → Rises plan → Contains plan (q, w) → Contains plan (q, v) → w ≡ v
planned_once plan q w v order h k = let same : Some w ≡ Some v = sym (found_at plan (q, w) order h) ∙ found_at plan (q, v) order k in cc same

-- an entry before a place and one from there on have different paths
pub apart : (done rest : List Item) (e f g : Item) → Rises (done ++ e ∷ rest) → Contains done f → Contains (e ∷ rest) g → f.0 ≡ g.0 → ⊥
apart done rest e f g order before behind same =
    let first = earlier done f e rest order before in
    elim (in_cons e rest g behind) [
      | inl at ↦ not_before_self (path_text f.0) (subst (λ p. slice_cmp nat_cmp (path_text f.0) (path_text p) ≡ Less) (ap (λ (h : Item). h.0) at ∙ sym same) first)
      | inr more ↦ not_both_before (path_text f.0) (path_text e.0) first (subst (λ p. slice_cmp nat_cmp (path_text e.0) (path_text p) ≡ Less) (sym same) (before_later done e rest g order more))
    ]

pub other_path : (p q : Path) → (p ≡ q → ⊥) → same_path p q ≡ false
other_path p q h = false_from_ne_true (same_path p q) (λ is. h ((same_path-Decides p q).0 is))

no_less : (x : List ℕ) → slice_cmp nat_cmp x [] ≡ Less → ⊥
no_less [] h = cc h
no_less (b ∷ x) h = cc h

-- no path comes before its parent
pub not_before_parent : (x : List ℕ) (p : Path) → slice_cmp nat_cmp (path_text (x ∷ p)) (path_text p) ≡ Less → ⊥
not_before_parent x [] h = no_less x h
not_before_parent x (y ∷ p) h =
    let s = text_below p ++ 47 ∷ y in
    let clash : Greater ≡ Less = sym (cmp_behind s (47 ∷ x) []) ∙ ap (slice_cmp nat_cmp (s ++ 47 ∷ x)) (append-nil s) ∙ h in
    cc clash

-- the wrong file of a planned entry
pub of_entry : (plan : List Item) (e : Item) (f : RepairFault) → Contains plan e → IsOfEntry e.1 f → IsOfPlan plan f
of_entry plan e Fault planned h = tt
of_entry plan e StoreFault planned h = (e.0, h.0, subst (λ w. Contains plan (e.0, w)) h.1 planned)
of_entry plan e (Stored at found) planned h = (e.0, subst (λ w. Contains plan (e.0, w)) h planned)
of_entry plan e Memory planned h = tt
