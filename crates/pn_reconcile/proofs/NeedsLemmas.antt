-- Lemmas on what of a plan the store is asked for.
use Rattle.std.proofs.Common.{◌≡◌, ℕ, List, sym, subst, Some}
use Rattle.std.specs.Prelude.{Option, Result, IfErr, IfSome}
use Rattle.std.specs.List.{Contains}
use Rattle.pn_text.specs.Path.{Path}
use Rattle.pn_text.proofs.Results.{for_some, if_some, if_err}
use Rattle.pn_fs.specs.Tree.{Tree}
use Rattle.pn_digest.specs.declared.planned.Planned.{Planned}
use Rattle.pn_digest.specs.declared.planned.Planned.TheVariants as planned
use Rattle.pn_repair.specs.declared.fault.RepairFault.{RepairFault}
use Rattle.pn_repair.specs.declared.fault.RepairFault.TheVariants.{Fault, StoreFault, Stored, Memory}
use Rattle.pn_repair.specs.RepairFaults.{IsOfPlan as IsOfEntry, IsNeeded as IsEntryNeeded}
use Rattle.pn_repair.specs.Stands.{StandsAs, NeedsNoFile}
use Rattle.pn_clear.specs.Items.{Item}
use Rattle.pn_reconcile.specs.Needs.{NeedsNoFiles, IsMissing, IsNeeded}
use Rattle.pn_reconcile.specs.Plans.{HasAll, KeepsAllRight}
use Rattle.pn_reconcile.proofs.KeepsLemmas.{IsTold}

-- what stood as planned does so still
stands_still : (plan : List Item) (a b : Option Tree) (t u : Tree) → KeepsAllRight plan a b → a ≡ Some t → b ≡ Some u → (e : Item) → Contains plan e → StandsAs e.1 (t e.0) → StandsAs e.1 (u e.0)
stands_still plan a b t u keeps told now e inside right = subst (StandsAs e.1) (sym (keeps t told u now e inside right)) right

needs_kept : (w : Planned) (p : Path) (a b : Option Tree) → ((t : Tree) → a ≡ Some t → StandsAs w (t p) → (u : Tree) × (b ≡ Some u) × StandsAs w (u p)) → NeedsNoFile w p a → NeedsNoFile w p b
needs_kept planned.Folder p a b f h = tt
needs_kept (planned.Bytes text) p a b f h = tt
needs_kept (planned.Stored d) p a b f h = f h.0 h.1 h.2
needs_kept (planned.Link text) p a b f h = tt

needs_right : (w : Planned) (p : Path) (s : Option Tree) (t : Tree) → s ≡ Some t → StandsAs w (t p) → NeedsNoFile w p s
needs_right planned.Folder p s t told right = tt
needs_right (planned.Bytes text) p s t told right = tt
needs_right (planned.Stored d) p s t told right = (t, told, right)
needs_right (planned.Link text) p s t told right = tt

-- nor does one of which all stands
pub needs_none : (plan : List Item) (s : Option Tree) (t : Tree) → s ≡ Some t → HasAll plan t → NeedsNoFiles plan s
needs_none plan s t told has e inside = needs_right e.1 e.0 s t told (has e inside)

-- a plan that needs no file needs none later
pub needs_still : (plan : List Item) (a b : Option Tree) → IsTold a b → KeepsAllRight plan a b → NeedsNoFiles plan a → NeedsNoFiles plan b
needs_still plan a b mid keeps h e inside = needs_kept e.1 e.0 a b (λ t told right. let u = mid t told in (u.0, u.1, stands_still plan a b t u.0 keeps told u.1 e inside right)) (h e inside)

-- a planned file that doesn't stand didn't before
missing_before : (plan : List Item) (t u : Tree) (at : List ℕ) → ((e : Item) → Contains plan e → StandsAs e.1 (t e.0) → StandsAs e.1 (u e.0)) → IsMissing plan u at → IsMissing plan t at
missing_before plan t u at stays h = (h.0, h.1, λ right. h.2 (stays (h.0, planned.Stored at) h.1 right))

needed_at : (plan : List Item) (t u : Tree) (f : RepairFault) → ((e : Item) → Contains plan e → StandsAs e.1 (t e.0) → StandsAs e.1 (u e.0)) → IsNeeded plan u f → IsNeeded plan t f
needed_at plan t u Fault stays h = tt
needed_at plan t u StoreFault stays h = (h.0, missing_before plan t u h.0 stays h.1)
needed_at plan t u (Stored at found) stays h = missing_before plan t u at stays h
needed_at plan t u Memory stays h = tt

pub needed_before : (plan : List Item) (a b : Option Tree) (f : RepairFault) → IsTold a b → KeepsAllRight plan a b → IfSome b (λ u. IsNeeded plan u f) → IfSome a (λ t. IsNeeded plan t f)
needed_before plan a b f mid keeps h = if_some (λ t. IsNeeded plan t f) a (λ t told.
    let u = mid t told in
    needed_at plan t u.0 f (stands_still plan a b t u.0 keeps told u.1) (for_some (λ u. IsNeeded plan u f) b h u.0 u.1))

pub needed_then : {T : Type 0} (r : Result T RepairFault) (plan : List Item) (a b : Option Tree) → IsTold a b → KeepsAllRight plan a b → IfErr r (λ f. IfSome b (λ u. IsNeeded plan u f)) → IfErr r (λ f. IfSome a (λ t. IsNeeded plan t f))
needed_then r plan a b mid keeps = if_err r (λ f. needed_before plan a b f mid keeps)

-- one planned entry
of_entry_at : (plan : List Item) (e : Item) (t : Tree) (f : RepairFault) → Contains plan e → IsOfEntry e.1 f → IsEntryNeeded e.1 (t e.0) f → IsNeeded plan t f
of_entry_at plan e t Fault inside of h = tt
of_entry_at plan e t StoreFault inside of h = (of.0, (e.0, subst (λ w. Contains plan (e.0, w)) of.1 inside, subst (λ w. StandsAs w (t e.0) → ⊥) of.1 h))
of_entry_at plan e t (Stored at found) inside of h = (e.0, subst (λ w. Contains plan (e.0, w)) of inside, subst (λ w. StandsAs w (t e.0) → ⊥) of h)
of_entry_at plan e t Memory inside of h = tt

pub needed_entry : (plan : List Item) (e : Item) (s : Option Tree) (f : RepairFault) → Contains plan e → IsOfEntry e.1 f → IfSome s (λ t. IsEntryNeeded e.1 (t e.0) f) → IfSome s (λ t. IsNeeded plan t f)
needed_entry plan e s f inside of h = if_some (λ t. IsNeeded plan t f) s (λ t told. of_entry_at plan e t f inside of (for_some (λ t. IsEntryNeeded e.1 (t e.0) f) s h t told))
