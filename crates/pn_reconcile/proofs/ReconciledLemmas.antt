-- Lemmas on a tree in which a plan was made to stand.
use Rattle.std.proofs.Common.{◌≡◌, ℕ, List, [], ◌∷◌, ◌++◌, length, take, arith, refl, sym, ap, ◌∙◌, subst, true, false, Some, None, inl, inr}
use Rattle.std.specs.Prelude.{Option, ◌⊎◌}
use Rattle.std.specs.List.{Contains}
use Rattle.std.proofs.lemmas.List.{append-nil, take_all}
use Rattle.pn_text.specs.Path.{Path}
use Rattle.pn_text.proofs.Bools.{true_false}
use Rattle.pn_text.proofs.Members.{here}
use Rattle.pn_fs.specs.Tree.{Entry, folder, file, Tree, IsTree}
use Rattle.pn_fs.specs.Seen.{Seen}
use Rattle.pn_digest.specs.declared.planned.Planned.{Planned}
use Rattle.pn_digest.specs.declared.planned.Planned.TheVariants.{Folder, Bytes}
use Rattle.pn_scan.specs.Managed.{Managed, is_within, is_managed, marker_name, AreOurs, IsMarked}
use Rattle.pn_scan.specs.Scans.{Scanned}
use Rattle.pn_scan.proofs.ManagedLemmas.{above_in, above_not_managed, below_tail, below_within, folder_above, managed_in, managed_of, within_itself}
use Rattle.pn_clear.specs.Clearing.{Touched}
use Rattle.pn_clear.specs.Items.{Item, Rises, at_path, is_gone, without}
use Rattle.pn_clear.proofs.RisesLemmas.{at_found, found_at}
use Rattle.pn_reconcile.specs.Plans.{KeepsRight, IsRooted, HasPlan, IsPlanned, MayDiffer, SparesOthers, IsReconciled, IsHalfReconciled}
use Rattle.pn_reconcile.specs.Phases.{IsHalfBegun, IsFilled, IsHalfFilled}
use Rattle.pn_reconcile.specs.Spares.{Spares}
use Rattle.pn_reconcile.proofs.BeginsLemmas.{begins_near}
use Rattle.pn_reconcile.proofs.BegunLemmas.{Begun, managed_above, Cleared, cleared, folder_cleared, marker_cleared, left_planned, gone_stood, right_stays}

-- a path that is planned, or isn't
planned_or : (plan : List Item) (q : Path) → Rises plan → IsPlanned plan q ⊎ (IsPlanned plan q → ⊥)
planned_or plan q order = elim (at_path plan q) as (λ o. at_path plan q ≡ o → IsPlanned plan q ⊎ (IsPlanned plan q → ⊥)) [
  | Some w ↦ λ is. inl (w, at_found plan q w is)
  | None ↦ λ is. inr (λ p. (let clash : None ≡ Some p.0 = sym is ∙ found_at plan (q, p.0) order p.1 in cc clash))
] refl

-- stopped while the managed folders are made
pub half_begun : (managed : List Managed) (plan : List Item) → IsRooted managed plan → (t u : Tree) → IsHalfBegun managed t u → IsHalfReconciled managed plan t u
half_begun managed plan rooted t u h = record {
  ours = h.ours;
  others = λ q. elim (h.others q) [ inl same ↦ inl same | inr begins ↦ inr (begins_near managed plan rooted t q begins) ];
}

-- what leads on from a folder is at or below it
tail_within : (r a : Path) → is_within a (r ++ a) ≡ true
tail_within [] a = within_itself a
tail_within (x ∷ r) a = below_within a (x ∷ r ++ a) (tail_within r a)

whole_text : (text : List ℕ) → take (length text) text ≡ text
whole_text text = take_all (length text) text (omega arith)

module _ (s : Scanned) (plan : List Item) (t u : Tree) (b : Begun s plan t u) where
  spares_cleared : (v : Tree) → Cleared plan s.entries u v → SparesOthers s.managed plan t v
  spares_cleared v c q = elim (is_gone plan s.entries q) as (λ g. is_gone plan s.entries q ≡ g → (v q ≡ t q) ⊎ MayDiffer s.managed plan t q) [
    | true ↦ λ gone. inr (inr (inl (gone_stood s plan t u b q gone)))
    | false ↦ λ stays. elim (b.begun.others q) [
      | inl same ↦ inl (c.kept q stays ∙ same)
      | inr begins ↦ inr (begins_near s.managed plan b.rooted t q begins)
    ]
  ] refl

  ours_from : (v : Tree) → ((m : Managed) (q : Path) (e : Entry) → Contains s.managed m → is_within q m.0 ≡ true → v q ≡ Some e → e ≡ folder) → ((m : Managed) → Contains s.managed m → IsMarked v m) → AreOurs v s.managed
  ours_from v folders marked m inside = record { folders = λ q e. folders m q e inside; marked = inl (marked m inside) }

  folder_is : (o : Option Entry) (e : Entry) → o ≡ Some folder → o ≡ Some e → e ≡ folder
  folder_is o e h k = let same : Some folder ≡ Some e = sym h ∙ k in cc same

  -- stopped while entries are taken away
  pub half_cleared : (v : Tree) → Cleared plan s.entries u v → IsHalfReconciled s.managed plan t v
  half_cleared v c = record {
    ours = ours_from v (λ m q e inside up is. folder_is (v q) e (folder_cleared s plan t u b v c m q inside up) is)
        (λ m inside. (length m.1, marker_cleared s plan t u b v c m inside ∙ ap (λ l. Some (file l)) (sym (whole_text m.1))));
    others = spares_cleared v c;
  }

  module _ (v w : Tree) (c : Cleared plan s.entries u v) where
    unplanned : (q : Path) → is_managed s.managed q ≡ false → IsPlanned plan q → ⊥
    unplanned q out p = true_false (is_managed s.managed q) (b.rooted.within (q, p.0) p.1) out

    spares_filled : ((q : Path) → (IsPlanned plan q → ⊥) → w q ≡ v q) → SparesOthers s.managed plan t w
    spares_filled others q = elim (planned_or plan q b.order) [
      | inl planned ↦ inr (inl planned)
      | inr out ↦ elim (spares_cleared v c q) [ inl same ↦ inl (others q out ∙ same) | inr may ↦ inr may ]
    ]

    -- stopped while entries are repaired
    pub half_filled : IsHalfFilled plan v w → IsHalfReconciled s.managed plan t w
    half_filled h = record { ours = ours_from w folders marked; others = spares_filled h.others } where
      half_folder : (m : Managed) (q : Path) → Contains s.managed m → is_within q m.0 ≡ true → w q ≡ Some folder
      half_folder m q inside up = elim (planned_or plan q b.order) [
        | inr out ↦ h.others q out ∙ folder_cleared s plan t u b v c m q inside up
        | inl p ↦
            let at = managed_above s.managed b.apart m q inside up (b.rooted.within (q, p.0) p.1) in
            let top : Contains plan (q, Folder) = subst (λ r. Contains plan (r, Folder)) (sym at) (b.rooted.tops m inside) in
            elim (h.half (q, Folder) top) [
              | inl stands ↦ stands
              | inr half ↦ elim half [
                | inl same ↦ same ∙ folder_cleared s plan t u b v c m q inside up
                | inr now ↦ now
              ]
            ]
      ]

      folders : (m : Managed) (q : Path) (e : Entry) → Contains s.managed m → is_within q m.0 ≡ true → w q ≡ Some e → e ≡ folder
      folders m q e inside up is = folder_is (w q) e (half_folder m q inside up) is

      marked : (m : Managed) → Contains s.managed m → IsMarked w m
      marked m inside = elim (h.half (marker_name ∷ m.0, Bytes m.1) (b.rooted.markers m inside)) [
        | inl stands ↦ (length m.1, stands ∙ ap (λ l. Some (file l)) (sym (whole_text m.1)))
        | inr half ↦ elim half [
          | inl same ↦ (length m.1, same ∙ marker_cleared s plan t u b v c m inside ∙ ap (λ l. Some (file l)) (sym (whole_text m.1)))
          | inr part ↦ part
        ]
      ]

  -- All that is planned stands, and nothing else.
  pub all_filled : (w : Tree) → IsFilled plan (without plan s.entries u) w → IsReconciled s.managed plan t w
  all_filled w h = record {
    has = record {
      planned = h.has;
      only = λ m r e inside stands. elim (planned_or plan (r ++ m.0) b.order) [
        | inl p ↦ p
        | inr out ↦ left_planned s plan t u b (r ++ m.0) e (managed_of s.managed (r ++ m.0) m inside (tail_within r m.0)) (sym (h.others (r ++ m.0) out) ∙ stands)
      ];
    };
    above = λ q up.
        let m = above_in s.managed q up in
        h.others q (unplanned v w c q (above_not_managed s.managed b.apart q up)) ∙ folder_cleared s plan t u b v c m.0 q m.1 (below_within q m.0.0 m.2);
    others = spares_filled v w c h.others;
  } where
    v : Tree
    v = without plan s.entries u

    c : Cleared plan s.entries u v
    c = cleared s plan t u b

  -- what was gone is near
  near_gone : (p : Path) → is_gone plan s.entries p ≡ true → MayDiffer s.managed plan t p
  near_gone p gone = inr (inl (gone_stood s plan t u b p gone))

  pub spares_gone : (a c : Seen) → Touched (λ p. is_gone plan s.entries p ≡ true) a c → Spares s.managed plan t a c
  spares_gone a c h = record {
    added = h.added;
    touched = h.touched;
    near = λ p inside. near_gone p (h.why p inside);
    right = λ e planned right inside. true_false (is_gone plan s.entries e.0) (h.why e.0 inside) (right_stays s plan t u b e planned right);
  }

-- nothing else stands at a managed path
only_planned : (managed : List Managed) (plan : List Item) (t : Tree) → HasPlan managed plan t → (p : Path) (e : Entry) → is_managed managed p ≡ true → t p ≡ Some e → IsPlanned plan p
only_planned managed plan t has p e is stands =
    let m = managed_in managed p is in
    let s = below_tail m.0.0 p m.2 in
    subst (IsPlanned plan) (sym s.1) (has.only m.0 s.0 e m.1 (ap t (sym s.1) ∙ stands))

-- where a tree has the plan, no path is near that may be written
nothing_near : (managed : List Managed) (plan : List Item) (t : Tree) → IsTree t → IsRooted managed plan → HasPlan managed plan t → (p : Path) → MayDiffer managed plan t p → (w : Planned) × Contains plan (p, w)
nothing_near managed plan t tree rooted has p (inl planned) = planned
nothing_near managed plan t tree rooted has p (inr (inl stood)) = elim (t p) as (λ o. t p ≡ o → IsPlanned plan p) [
  | None ↦ λ none. absurd (stood.1 none)
  | Some e ↦ λ is. only_planned managed plan t has p e stood.0 is
] refl
nothing_near managed plan t tree rooted has p (inr (inr above)) =
    let m = above_in managed p above.0 in
    let stands : t m.0.0 ≡ Some folder = has.planned (m.0.0, Folder) (rooted.tops m.0 m.1) in
    let clash : Some folder ≡ None = sym (folder_above t tree p m.0.0 folder m.2 stands) ∙ above.1 in
    cc clash

none_added : (l : List Path) → ((p : Path) → Contains l p → ⊥) → l ≡ []
none_added [] h = refl
none_added (p ∷ l) h = absurd (h p (here p l))

pub idle_touched : (managed : List Managed) (plan : List Item) (t : Tree) (a c : Seen) → IsTree t → IsRooted managed plan → HasPlan managed plan t → Spares managed plan t a c → c.touched ≡ a.touched
idle_touched managed plan t a c tree rooted has h =
    let none = none_added h.added (λ p inside. let w = nothing_near managed plan t tree rooted has p (h.near p inside) in h.right (p, w.0) w.1 (has.planned (p, w.0) w.1) inside) in
    h.touched ∙ ap (λ l. a.touched ++ l) none ∙ append-nil a.touched

-- where a tree has the plan, nothing differs
pub idle_tree : (managed : List Managed) (plan : List Item) (t u : Tree) → IsTree t → IsRooted managed plan → HasPlan managed plan t → SparesOthers managed plan t u → KeepsRight plan t u → u ≡ t
idle_tree managed plan t u tree rooted has others keeps = λ i q. at q i where
  at : (q : Path) → u q ≡ t q
  at q = elim (others q) [
    | inl same ↦ same
    | inr near ↦ (let w = nothing_near managed plan t tree rooted has q near in keeps (q, w.0) w.1 (has.planned (q, w.0) w.1))
  ]
