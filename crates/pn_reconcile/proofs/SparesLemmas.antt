-- Lemmas on paths that were written.
use Rattle.std.proofs.Common.{◌≡◌, [], ◌++◌, List, sym, ap, ◌∙◌, subst, inl, inr, append_assoc}
use Rattle.std.specs.List.{Contains}
use Rattle.std.proofs.lemmas.List.{append-nil}
use Rattle.std.proofs.lemmas.List.Elements.{Contains-append_cases}
use Rattle.pn_text.specs.Path.{Path}
use Rattle.pn_text.proofs.Members.{none_in}
use Rattle.pn_fs.specs.Tree.{Tree}
use Rattle.pn_fs.specs.Seen.{Seen}
use Rattle.pn_repair.specs.Repairs.{TouchesWrong}
use Rattle.pn_repair.specs.Stands.{StandsAs}
use Rattle.pn_clear.specs.Items.{Item, Rises}
use Rattle.pn_reconcile.specs.Plans.{IsPlanned}
use Rattle.pn_reconcile.specs.Spares.{SparesRight}
use Rattle.pn_reconcile.proofs.PlannedLemmas.{planned_once}

pub spares_none : (Near : Path → Type 0) (plan : List Item) (t : Tree) (a b : Seen) → b.touched ≡ a.touched → SparesRight Near plan t a b
spares_none Near plan t a b same = record {
  added = [];
  touched = same ∙ sym (append-nil a.touched);
  near = λ p inside. absurd (none_in p inside);
  right = λ e planned stands inside. none_in e.0 inside;
}

-- one after the other
pub spares_both : (Near More Whole : Path → Type 0) (plan : List Item) (t u : Tree) (a b c : Seen) → ((p : Path) → Near p → Whole p) → ((p : Path) → More p → Whole p)
    → ((e : Item) → Contains plan e → StandsAs e.1 (t e.0) → StandsAs e.1 (u e.0)) → SparesRight Near plan t a b → SparesRight More plan u b c → SparesRight Whole plan t a c
spares_both Near More Whole plan t u a b c f g stays h k = record {
  added = h.added ++ k.added;
  touched = k.touched ∙ ap (λ l. l ++ k.added) h.touched ∙ append_assoc a.touched h.added k.added;
  near = λ p inside. elim (Contains-append_cases h.added k.added p inside) [ inl x ↦ f p (h.near p x) | inr y ↦ g p (k.near p y) ];
  right = λ e planned stands inside. elim (Contains-append_cases h.added k.added e.0 inside) [
    | inl x ↦ h.right e planned stands x
    | inr y ↦ k.right e planned (stays e planned stands) y
  ];
}

pub spares_weaker : (Near Whole : Path → Type 0) (plan : List Item) (t : Tree) (a b : Seen) → ((p : Path) → Near p → Whole p) → SparesRight Near plan t a b → SparesRight Whole plan t a b
spares_weaker Near Whole plan t a b f h = record { added = h.added; touched = h.touched; near = λ p inside. f p (h.near p inside); right = h.right }

-- the repair of a planned entry
pub spares_at : (Near : Path → Type 0) (plan : List Item) (e : Item) (t : Tree) (a b : Seen) → Rises plan → Contains plan e → Near e.0 → TouchesWrong e t a b → SparesRight Near plan t a b
spares_at Near plan e t a b order planned here h = record {
  added = h.added;
  touched = h.touched;
  near = λ p inside. subst Near (sym (h.alone p inside)) here;
  right = λ f inside stands k.
      let at = h.alone f.0 k in
      let same : f.1 ≡ e.1 = planned_once plan e.0 f.1 e.1 order (subst (λ q. Contains plan (q, f.1)) at inside) planned in
      let right : StandsAs e.1 (t e.0) = subst (λ q. StandsAs e.1 (t q)) at (subst (λ w. StandsAs w (t f.0)) same stands) in
      none_in f.0 (subst (λ l. Contains l f.0) (h.wrong right) k);
}

pub spares_entry : (plan : List Item) (e : Item) (t : Tree) (a b : Seen) → Rises plan → Contains plan e → TouchesWrong e t a b → SparesRight (IsPlanned plan) plan t a b
spares_entry plan e t a b order planned h = spares_at (IsPlanned plan) plan e t a b order planned (e.1, planned) h
