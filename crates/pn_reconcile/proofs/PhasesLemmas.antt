-- Lemmas on the parts of a reconciliation, by what was seen between them.
use Rattle.std.proofs.Common.{◌≡◌, ◌+◌, ap, List, refl, sym, ◌∙◌, subst, true, false, Some, None, Ok, Err, inl}
use Rattle.std.specs.Prelude.{Option, Result, OnOk, OnErr, IfErr, IfSome, if◌then◌else◌}
use Rattle.std.specs.Option.{ForSome, option_map}
use Rattle.std.specs.List.{Contains}
use Rattle.pn_text.specs.Path.{Path}
use Rattle.pn_text.proofs.Results.{for_some, if_some, same_some}
use Rattle.pn_fs.specs.Made.{DiffersOnly}
use Rattle.pn_fs.specs.Tree.{Tree, IsTree}
use Rattle.pn_fs.specs.Seen.{Seen as Shown, GaveNothing, GaveAtMost}
use Rattle.pn_storecore.specs.Seen.{Seen}
use Rattle.pn_scan.specs.Managed.{Managed, AreApart, AreOurs}
use Rattle.pn_scan.specs.Scans.{Found, Scanned, IsScan}
use Rattle.pn_repair.specs.declared.fault.RepairFault.{RepairFault}
use Rattle.pn_repair.specs.Stands.{StandsAs}
use Rattle.pn_clear.specs.Clearing.{CanClear, Touched}
use Rattle.pn_clear.specs.Items.{Item, Rises, is_gone, without}
use Rattle.pn_reconcile.specs.Plans.{IsRooted, KeepsAllRight, MayDiffer, SparesOthers, HasPlan, IsPlanned, Made, HalfMade, Reconciled, HalfReconciled, IsReconciled, IsHalfReconciled}
use Rattle.pn_reconcile.specs.Phases.{scanned, IsBegun, IsHalfBegun, IsReady, IsFilled, IsHalfFilled}
use Rattle.pn_reconcile.specs.Spares.{SparesRight, Spares, IsIdle}
use Rattle.pn_reconcile.specs.Needs.{NeedsNoFiles, IsNeeded}
use Rattle.pn_reconcile.specs.Bounds.{most_planned, most_marked}
use Rattle.pn_reconcile.proofs.BoundsLemmas.{AreWithin, gave_filled}
use Rattle.pn_reconcile.proofs.NeedsLemmas.{needed_then, needs_none, needs_still}
use Rattle.pn_reconcile.proofs.MadeLemmas.{made_at, made_back, made_both, half_both, half_weaker}
use Rattle.pn_reconcile.proofs.BegunLemmas.{Begun, Cleared, can_clear, cleared, ready, right_cleared, right_stays}
use Rattle.pn_reconcile.proofs.KeepsLemmas.{keeps_both, told_made}
use Rattle.pn_reconcile.proofs.ReconciledLemmas.{half_begun, half_cleared, half_filled, all_filled, spares_gone, idle_touched, idle_tree}
use Rattle.pn_reconcile.proofs.SparesLemmas.{spares_both}

-- stopped in the first part
pub begun_half : (managed : List Managed) (plan : List Item) (a b : Option Tree) → IsRooted managed plan → HalfMade (IsHalfBegun managed) a b → HalfReconciled managed plan a b
begun_half managed plan a b rooted h = half_weaker (IsHalfBegun managed) (IsHalfReconciled managed plan) a b (λ t u told begun. half_begun managed plan rooted t u begun) h

-- What is known where the managed folders stand with their markers.
pub record Stood (s : Scanned) (plan : List Item) (a b : Shown) : Type 0 where
  pub order : Rises plan
  pub rooted : IsRooted s.managed plan
  pub apart : AreApart s.managed
  pub scan : ForSome a.tree (λ t. IsScan t s)
  pub ours : ForSome a.tree (λ t. AreOurs t s.managed)
  pub old : (t : Tree) → a.tree ≡ Some t → IsTree t
  pub new : (u : Tree) → b.tree ≡ Some u → IsTree u
  pub begun : Made (IsBegun s.managed) a.tree b.tree
  pub spares : IfSome a.tree (λ t. Spares s.managed plan t a b)
  pub keeps : KeepsAllRight plan a.tree b.tree

pub stood : (managed : List Managed) (entries : List Found) (plan : List Item) (a b : Shown) → Rises plan → IsRooted managed plan → AreApart managed → ForSome a.tree (λ t. IsScan t (scanned managed entries)) → ForSome a.tree (λ t. AreOurs t managed)
    → ((t : Tree) → a.tree ≡ Some t → IsTree t) → ((u : Tree) → b.tree ≡ Some u → IsTree u) → Made (IsBegun managed) a.tree b.tree → IfSome a.tree (λ t. Spares managed plan t a b) → KeepsAllRight plan a.tree b.tree → Stood (scanned managed entries) plan a b
stood managed entries plan a b order rooted apart scan ours old new begun spares keeps =
    record { order = order; rooted = rooted; apart = apart; scan = scan; ours = ours; old = old; new = new; begun = begun; spares = spares; keeps = keeps }

module _ (s : Scanned) (plan : List Item) (a b : Shown) (h : Stood s plan a b) where
  begun : (t u : Tree) → a.tree ≡ Some t → b.tree ≡ Some u → IsBegun s.managed t u → Begun s plan t u
  begun t u told now is = record { order = h.order; rooted = h.rooted; apart = h.apart; scan = h.scan t told; ours = h.ours t told; old = h.old t told; new = h.new u now; begun = is }

  pub may_clear : ForSome b.tree (CanClear plan s.entries)
  may_clear u now = let m = made_back (IsBegun s.managed) a.tree b.tree u h.begun now in can_clear s plan m.0 u (begun m.0 u m.1 now m.2)

  -- stopped in the second part
  pub cleared_half : (c : Option Tree) → DiffersOnly (is_gone plan s.entries) b.tree c → HalfReconciled s.managed plan a.tree c
  cleared_half c d = half_both (IsBegun s.managed) (λ u v. (q : Path) → is_gone plan s.entries q ≡ false → v q ≡ u q) (IsHalfReconciled s.managed plan) a.tree b.tree c
      (λ t u v told now is kept. half_cleared s plan t u (begun t u told now is) v (record { kept = kept })) h.begun d

  spares_at : (t : Tree) → a.tree ≡ Some t → Spares s.managed plan t a b
  spares_at = for_some (λ t. Spares s.managed plan t a b) a.tree h.spares

  cleared_spares : (c : Shown) (t u : Tree) → a.tree ≡ Some t → b.tree ≡ Some u → IsBegun s.managed t u → IfSome b.tree (λ u. Touched (λ p. is_gone plan s.entries p ≡ true) b c) → Spares s.managed plan t a c
  cleared_spares c t u told now is touched =
      spares_both (MayDiffer s.managed plan t) (MayDiffer s.managed plan t) (MayDiffer s.managed plan t) plan t t a b c (λ p near. near) (λ p near. near) (λ e planned right. right) (spares_at t told)
      (spares_gone s plan t u (begun t u told now is) b c (for_some (λ u. Touched (λ p. is_gone plan s.entries p ≡ true) b c) b.tree touched u now))

  pub spares_two : (c : Shown) → IfSome b.tree (λ u. Touched (λ p. is_gone plan s.entries p ≡ true) b c) → IfSome a.tree (λ t. Spares s.managed plan t a c)
  spares_two c touched = if_some (λ t. Spares s.managed plan t a c) a.tree (λ t told.
      let m = made_at (IsBegun s.managed) a.tree b.tree t h.begun told in
      cleared_spares c t m.0 told m.1 m.2 touched)

  -- what stood as planned isn't taken away
  pub keeps_two : (c : Option Tree) → DiffersOnly (is_gone plan s.entries) b.tree c → KeepsAllRight plan a.tree c
  keeps_two c d t told v now e planned right =
      let m = made_at (IsBegun s.managed) a.tree b.tree t h.begun told in
      let w = d m.0 m.1 in
      let same : v ≡ w.0 = same_some v w.0 (sym now ∙ w.1) in
      ap (λ z. z e.0) same ∙ w.2 e.0 (right_stays s plan t m.0 (begun t m.0 told m.1 m.2) e planned right) ∙ h.keeps t told m.0 m.1 e planned right

  differs_gone : (u c : Option Tree) → c ≡ option_map (without plan s.entries) u → DiffersOnly (is_gone plan s.entries) u c
  differs_gone None c is t told = cc
  differs_gone (Some u) c is t told =
      let same : u ≡ t = same_some u t told in
      (without plan s.entries u, is, λ q stays. ap (λ g. if g then None else u q) stays ∙ ap (λ z. z q) same)

  -- what stands after the second part
  abbrev pub IsLeft : Tree → Tree → Type 0
  IsLeft t v = (u : Tree) × Begun s plan t u × (v ≡ without plan s.entries u)

  -- after the second part
  left : (c : Option Tree) → c ≡ option_map (without plan s.entries) b.tree → Made IsLeft a.tree c
  left c is = made_both (IsBegun s.managed) (λ u v. v ≡ without plan s.entries u) IsLeft a.tree b.tree c (λ t u v told now begins same. (u, begun t u told now begins, same)) h.begun (gone b.tree is) where
    gone : (u : Option Tree) → c ≡ option_map (without plan s.entries) u → Made (λ u v. v ≡ without plan s.entries u) u c
    gone None is = is
    gone (Some u) is = (without plan s.entries u, is, refl)

  module _ (c : Shown) (is : c.tree ≡ option_map (without plan s.entries) b.tree) where
    pub may_repair : ForSome c.tree (IsReady plan)
    may_repair v now =
        let m = made_back IsLeft a.tree c.tree v (left c.tree is) now in
        subst (IsReady plan) (sym m.2.2) (ready s plan m.0 m.2.0 m.2.1)

    pub filled_whole : (d : Option Tree) → Made (IsFilled plan) c.tree d → Reconciled s.managed plan a.tree d
    filled_whole d f = made_both IsLeft (IsFilled plan) (IsReconciled s.managed plan) a.tree c.tree d
        (λ t v w told now l filled. all_filled s plan t l.0 l.1 w (subst (λ z. IsFilled plan z w) l.2 filled)) (left c.tree is) f

    pub filled_half : (d : Option Tree) → HalfMade (IsHalfFilled plan) c.tree d → HalfReconciled s.managed plan a.tree d
    filled_half d f = half_both IsLeft (IsHalfFilled plan) (IsHalfReconciled s.managed plan) a.tree c.tree d
        (λ t v w told now l filled. half_filled s plan t l.0 l.1 v w (subst (Cleared plan s.entries l.0) (sym l.2) (cleared s plan t l.0 l.1)) filled) (left c.tree is) f

    -- what stood as planned does before the third part
    stands_left : (t v : Tree) → IsLeft t v → (e : Item) → Contains plan e → StandsAs e.1 (t e.0) → StandsAs e.1 (v e.0)
    stands_left t v l e planned right = right_cleared s plan t l.0 l.1 v (subst (Cleared plan s.entries l.0) (sym l.2) (cleared s plan t l.0 l.1)) e planned right

    pub spares_three : (d : Shown) → IfSome b.tree (λ u. Touched (λ p. is_gone plan s.entries p ≡ true) b c) → IfSome c.tree (λ v. SparesRight (IsPlanned plan) plan v c d) → IfSome a.tree (λ t. Spares s.managed plan t a d)
    spares_three d touched third = if_some (λ t. Spares s.managed plan t a d) a.tree (λ t told.
        let l = made_at IsLeft a.tree c.tree t (left c.tree is) told in
        spares_both (MayDiffer s.managed plan t) (IsPlanned plan) (MayDiffer s.managed plan t) plan t l.0 a c d (λ p near. near) (λ p planned. inl planned) (stands_left t l.0 l.2)
        (for_some (λ t. Spares s.managed plan t a c) a.tree (spares_two c touched) t told) (for_some (λ v. SparesRight (IsPlanned plan) plan v c d) c.tree third l.0 l.1))

    pub keeps_three : (d : Option Tree) → KeepsAllRight plan c.tree d → KeepsAllRight plan a.tree d
    keeps_three d third = keeps_both plan a.tree c.tree d (told_made IsLeft a.tree c.tree (left c.tree is)) (keeps_two c.tree (differs_gone b.tree c.tree is)) third

    -- nor does the store have to give more than before
    pub needs_left : NeedsNoFiles plan a.tree → NeedsNoFiles plan c.tree
    needs_left = needs_still plan a.tree c.tree (told_made IsLeft a.tree c.tree (left c.tree is)) (keeps_two c.tree (differs_gone b.tree c.tree is))

    pub needed_left : {T : Type 0} (r : Result T RepairFault) → IfErr r (λ f. IfSome c.tree (λ v. IsNeeded plan v f)) → IfErr r (λ f. IfSome a.tree (λ t. IsNeeded plan t f))
    needed_left r = needed_then r plan a.tree c.tree (told_made IsLeft a.tree c.tree (left c.tree is)) (keeps_two c.tree (differs_gone b.tree c.tree is))

    -- what was read
    pub gave_three : (d : Shown) → AreWithin plan (most_marked s.managed) a b → IfSome b.tree (λ u. GaveNothing b c) → IfSome c.tree (λ v. GaveAtMost c (most_planned plan v) 0 d) → IfSome a.tree (λ t. GaveAtMost a (most_planned plan t + most_marked s.managed) 0 d)
    gave_three d first second third = gave_filled plan s.entries (most_marked s.managed) a b c d (told_made (IsBegun s.managed) a.tree b.tree h.begun) first second is third

-- a told tree is told after whatever was answered, and its other paths are as they were
others_after : {T E : Type 0} (r : Result T E) (managed : List Managed) (plan : List Item) (a d : Option Tree) → OnOk r (Reconciled managed plan a d) → OnErr r (HalfReconciled managed plan a d) → ForSome a (λ t. (u : Tree) × (d ≡ Some u) × SparesOthers managed plan t u)
others_after (Ok v) managed plan a d ok err t told = let m = made_at (IsReconciled managed plan) a d t ok told in (m.0, m.1, m.2.others)
others_after (Err e) managed plan a d ok err t told = let m = err t told in (m.0, m.1, m.2.others)

-- where the tree has the plan, nothing is written and the store isn't asked
pub idle_where : {T E : Type 0} (r : Result T E) (managed : List Managed) (plan : List Item) (a d : Shown) (x z : Seen) → ((t : Tree) → a.tree ≡ Some t → IsTree t) → IsRooted managed plan → OnOk r (Reconciled managed plan a.tree d.tree) → OnErr r (HalfReconciled managed plan a.tree d.tree)
    → KeepsAllRight plan a.tree d.tree → IfSome a.tree (λ t. Spares managed plan t a d) → (NeedsNoFiles plan a.tree → z ≡ x) → IfSome a.tree (λ t. HasPlan managed plan t → IsIdle a d x z)
idle_where r managed plan a d x z tree rooted ok err keeps spares asks = if_some (λ t. HasPlan managed plan t → IsIdle a d x z) a.tree (λ t told has.
    let m = others_after r managed plan a.tree d.tree ok err t told in
    record {
      tree = m.1 ∙ ap Some (idle_tree managed plan t m.0 (tree t told) rooted has m.2 (keeps t told m.0 m.1)) ∙ sym told;
      touched = idle_touched managed plan t a d (tree t told) rooted has (for_some (λ t. Spares managed plan t a d) a.tree spares t told);
      unread = asks (needs_none plan a.tree t told has.planned);
    })
