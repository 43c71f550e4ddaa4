-- Lemmas on a tree whose managed folders stand with their markers, and on what is taken away from it.
use Rattle.std.proofs.Common.{◌≡◌, ℕ, List, [], ◌∷◌, refl, sym, ap, ◌∙◌, subst, Bool, true, false, Some, None, inl, inr}
use Rattle.std.specs.Prelude.{Option, ◌⊎◌, ◌≢◌, not, if◌then◌else◌}
use Rattle.std.specs.List.{Contains}
use Rattle.std.proofs.lemmas.Bool.{false_from_ne_true}
use Rattle.pn_text.specs.Path.{Path}
use Rattle.pn_text.proofs.Bools.{true_false}
use Rattle.pn_fs.specs.Calls.{kind_of}
use Rattle.pn_fs.specs.Tree.{Entry, folder, file, Tree, IsTree}
use Rattle.pn_fs.specs.declared.kind.Kind.{Kind}
use Rattle.pn_fs.specs.declared.kind.Kind.TheVariants as kind
use Rattle.pn_digest.specs.declared.planned.Planned.{Planned}
use Rattle.pn_digest.specs.declared.planned.Planned.TheVariants.{Folder, Bytes, Stored, Link}
use Rattle.pn_scan.specs.Managed.{Managed, is_within, is_managed, marker_name, AreApart, AreOurs}
use Rattle.pn_scan.specs.Scans.{Found, Scanned, IsScan}
use Rattle.pn_scan.proofs.ManagedLemmas.{within_cases, within_itself, below_within, within_trans, within_below, below_other, managed_in, managed_of, managed_below, apart_one}
use Rattle.pn_repair.specs.Repairs.{fits}
use Rattle.pn_repair.specs.Stands.{StandsAs}
use Rattle.pn_clear.specs.Clearing.{CanClear}
use Rattle.pn_clear.specs.Items.{Item, Rises, at_path, is_unfit, is_doomed, is_gone, without}
use Rattle.pn_clear.proofs.RisesLemmas.{found_at, at_found}
use Rattle.pn_clear.proofs.WithoutLemmas.{gone_is, is_gone_at}
use Rattle.pn_reconcile.specs.Plans.{IsRooted, IsPlanned}
use Rattle.pn_reconcile.specs.Phases.{IsBegun, BeginsIn, IsReady}
use Rattle.pn_reconcile.proofs.PlannedLemmas.{planned_once}

-- The managed folders of a scanned tree were made, with their markers.
pub record Begun (s : Scanned) (plan : List Item) (t u : Tree) : Type 0 where
  pub order : Rises plan
  pub rooted : IsRooted s.managed plan
  pub apart : AreApart s.managed
  pub scan : IsScan t s
  pub ours : AreOurs t s.managed
  pub old : IsTree t
  pub new : IsTree u
  pub begun : IsBegun s.managed t u

-- What isn't gone is as it was.
pub record Cleared (plan : List Item) (entries : List Found) (u v : Tree) : Type 0 where
  pub kept : (q : Path) → is_gone plan entries q ≡ false → v q ≡ u q

fits_absent : (w : Planned) → fits w kind.Absent ≡ true
fits_absent Folder = refl
fits_absent (Bytes text) = refl
fits_absent (Stored d) = refl
fits_absent (Link text) = refl

fit_is : (b : Bool) → not b ≡ false → b ≡ true
fit_is true h = refl
fit_is false h = cc h

-- what stands as planned fits
pub fits_right : (w : Planned) (o : Option Entry) → StandsAs w o → fits w (kind_of o) ≡ true
fits_right Folder o h = ap (λ x. fits Folder (kind_of x)) h
fits_right (Bytes text) o h = ap (λ x. fits (Bytes text) (kind_of x)) h
fits_right (Stored d) o h = ap (λ x. fits (Stored d) (kind_of x)) h.1
fits_right (Link text) o h = ap (λ x. fits (Link text) (kind_of x)) h

-- nothing stands as planned where nothing is
pub none_right : (w : Planned) → StandsAs w None → ⊥
none_right Folder h = cc h
none_right (Bytes text) h = cc h
none_right (Stored d) h = cc h.1
none_right (Link text) h = cc h

-- what fits isn't taken away
kept_where : (plan : List Item) (q : Path) (w : Planned) (k : Kind) → at_path plan q ≡ Some w → fits w k ≡ true → is_doomed plan (q, k) ≡ false
kept_where plan q w k at fit = ap (λ o. is_unfit o k) at ∙ ap not fit

-- what isn't planned is, and the other way round
doomed_where : (plan : List Item) (q : Path) (k : Kind) → (IsPlanned plan q → ⊥) → is_doomed plan (q, k) ≡ true
doomed_where plan q k out = elim (at_path plan q) as (λ o. at_path plan q ≡ o → is_doomed plan (q, k) ≡ true) [
  | None ↦ λ is. ap (λ o. is_unfit o k) is
  | Some w ↦ λ is. absurd (out (w, at_found plan q w is))
] refl

planned_where : (plan : List Item) (q : Path) (k : Kind) → is_doomed plan (q, k) ≡ false → IsPlanned plan q
planned_where plan q k kept = elim (at_path plan q) as (λ o. at_path plan q ≡ o → IsPlanned plan q) [
  | None ↦ λ is. absurd (true_false (is_doomed plan (q, k)) (ap (λ o. is_unfit o k) is) kept)
  | Some w ↦ λ is. (w, at_found plan q w is)
] refl

fit_where : (plan : List Item) (q : Path) (w : Planned) (k : Kind) → at_path plan q ≡ Some w → is_doomed plan (q, k) ≡ false → fits w k ≡ true
fit_where plan q w k at kept = fit_is (fits w k) (sym (ap (λ o. is_unfit o k) at) ∙ kept)

-- a managed path at or above a managed folder is that folder
pub managed_above : (managed : List Managed) → AreApart managed → (m : Managed) (q : Path) → Contains managed m → is_within q m.0 ≡ true → is_managed managed q ≡ true → q ≡ m.0
managed_above managed apart m q inside up is = elim (within_cases q m.0 up) [
  | inl same ↦ sym same
  | inr below ↦
      let n = managed_in managed q is in
      let one = apart_one managed apart m n.0 inside n.1 (within_trans n.0.0 q m.0 n.2 up) in
      absurd (below_other n.0.0 m.0 (within_below n.0.0 q m.0 n.2 below) (ap (λ (z : Managed). z.0) (sym one)))
]

module _ (s : Scanned) (plan : List Item) (t u : Tree) (b : Begun s plan t u) where
  planned_at : (q : Path) (w : Planned) → Contains plan (q, w) → at_path plan q ≡ Some w
  planned_at q w planned = found_at plan (q, w) b.order planned

  -- what begins at a managed path is planned, and fits
  begins_planned : (q : Path) → is_managed s.managed q ≡ true → BeginsIn s.managed t q → (w : Planned) × Contains plan (q, w) × (fits w (kind_of (u q)) ≡ true)
  begins_planned q is (m, inside, inl at) =
      (Bytes m.1, subst (λ p. Contains plan (p, Bytes m.1)) (sym at) (b.rooted.markers m inside), ap (λ o. fits (Bytes m.1) (kind_of o)) (ap u at ∙ b.begun.markers m inside))
  begins_planned q is (m, inside, inr new) =
      let at = managed_above s.managed b.apart m q inside new.0 is in
      (Folder, subst (λ p. Contains plan (p, Folder)) (sym at) (b.rooted.tops m inside), ap (λ o. fits Folder (kind_of o)) (b.begun.folders m q inside new.0))

  -- what stands at a managed path was found, or begins there
  found_or_new : (q : Path) (x : Entry) → is_managed s.managed q ≡ true → u q ≡ Some x → (Contains s.entries (q, kind_of (Some x)) × (t q ≡ Some x)) ⊎ BeginsIn s.managed t q
  found_or_new q x is stands = elim (b.begun.others q) [
    | inl same ↦ inl (b.scan.all q x is (sym same ∙ stands), sym same ∙ stands)
    | inr new ↦ inr new
  ]

  -- the kind of what was found is that of what stood
  kind_found : (e : Found) → Contains s.entries e → e.1 ≡ kind_of (t e.0)
  kind_found e inside = let x = b.scan.stand e inside in x.2 ∙ ap kind_of (sym x.1)

  -- what is planned and fits what stood isn't gone
  fit_stays : (q : Path) (w : Planned) → Contains plan (q, w) → fits w (kind_of (t q)) ≡ true → is_gone plan s.entries q ≡ false
  fit_stays q w planned fit = false_from_ne_true (is_gone plan s.entries q) (λ gone.
      let e = gone_is plan s.entries q gone in
      let kind : e.0.1 ≡ kind_of (t q) = kind_found e.0 e.1 ∙ ap (λ p. kind_of (t p)) e.2 in
      true_false (is_doomed plan e.0) e.3
      (kept_where plan e.0.0 w e.0.1 (ap (at_path plan) e.2 ∙ planned_at q w planned) (ap (fits w) kind ∙ fit)))

  -- nor is what stood as planned
  pub right_stays : (e : Item) → Contains plan e → StandsAs e.1 (t e.0) → is_gone plan s.entries e.0 ≡ false
  right_stays e planned right = fit_stays e.0 e.1 planned (fits_right e.1 (t e.0) right)

  -- what is gone was managed, and stood
  pub gone_stood : (q : Path) → is_gone plan s.entries q ≡ true → (is_managed s.managed q ≡ true) × (t q ≢ None)
  gone_stood q gone =
      let e = gone_is plan s.entries q gone in
      let x = b.scan.stand e.0 e.1 in (
        subst (λ p. is_managed s.managed p ≡ true) e.2 (b.scan.within e.0 e.1),
        λ none. (let clash : Some x.0 ≡ None = sym x.1 ∙ ap t e.2 ∙ none in cc clash),
      )

  -- the managed folders aren't gone, nor are their markers and the folders above them
  pub folder_stays : (m : Managed) (q : Path) → Contains s.managed m → is_within q m.0 ≡ true → is_gone plan s.entries q ≡ false
  folder_stays m q inside up = false_from_ne_true (is_gone plan s.entries q) (λ gone.
      let at = managed_above s.managed b.apart m q inside up (gone_stood q gone).0 in
      let e = gone_is plan s.entries q gone in
      let x = b.scan.stand e.0 e.1 in
      let stood : t q ≡ Some x.0 = ap t (sym e.2) ∙ x.1 in
      let is : x.0 ≡ folder = (b.ours m inside).folders q x.0 up stood in
      true_false (is_gone plan s.entries q) gone (fit_stays q Folder (subst (λ p. Contains plan (p, Folder)) (sym at) (b.rooted.tops m inside)) (ap (λ o. fits Folder (kind_of o)) (stood ∙ ap Some is))))

  pub marker_stays : (m : Managed) → Contains s.managed m → is_gone plan s.entries (marker_name ∷ m.0) ≡ false
  marker_stays m inside = elim ((b.ours m inside).marked) [
    | inl marked ↦ fit_stays (marker_name ∷ m.0) (Bytes m.1) (b.rooted.markers m inside) (ap (λ o. fits (Bytes m.1) (kind_of o)) marked.1)
    | inr empty ↦ false_from_ne_true (is_gone plan s.entries (marker_name ∷ m.0)) (λ gone.
        let e = gone_is plan s.entries (marker_name ∷ m.0) gone in
        let x = b.scan.stand e.0 e.1 in
        empty (marker_name, x.0, ap t (sym e.2) ∙ x.1))
  ]

  -- what stood as planned still does
  pub right_begun : (e : Item) → Contains plan e → StandsAs e.1 (t e.0) → StandsAs e.1 (u e.0)
  right_begun e planned right = elim (b.begun.others e.0) [
    | inl same ↦ subst (StandsAs e.1) (sym same) right
    | inr (m, inside, inl at) ↦
        let w : e.1 ≡ Bytes m.1 = planned_once plan e.0 e.1 (Bytes m.1) b.order planned (subst (λ p. Contains plan (p, Bytes m.1)) (sym at) (b.rooted.markers m inside)) in
        subst (λ v. StandsAs v (u e.0)) (sym w) (ap u at ∙ b.begun.markers m inside)
    | inr (m, inside, inr new) ↦ absurd (none_right e.1 (subst (StandsAs e.1) new.1 right))
  ]

  stood_still : (e : Found) → Contains s.entries e → u e.0 ≡ None → ⊥
  stood_still e inside none = let x = b.scan.stand e inside in
      elim (b.begun.others e.0) [
        | inl same ↦ (let clash : Some x.0 ≡ None = sym x.1 ∙ sym same ∙ none in cc clash)
        | inr (m, at, inl is) ↦ (let clash : Some (file m.1) ≡ None = sym (b.begun.markers m at) ∙ ap u (sym is) ∙ none in cc clash)
        | inr (m, at, inr new) ↦ (let clash : Some x.0 ≡ None = sym x.1 ∙ new.1 in cc clash)
      ]

  -- `/` isn't taken away
  not_root : (e : Found) → Contains s.entries e → is_doomed plan e ≡ true → e.0 ≡ [] → ⊥
  not_root e inside doomed root =
      let n = managed_in s.managed e.0 (b.scan.within e inside) in
      let up : is_within e.0 n.0.0 ≡ true = subst (λ p. is_within p n.0.0 ≡ true) (sym root) (root_within n.0.0) in
      true_false (is_gone plan s.entries e.0) (is_gone_at plan s.entries e inside doomed) (folder_stays n.0 e.0 n.1 up)
    where
      root_within : (p : Path) → is_within [] p ≡ true
      root_within [] = refl
      root_within (x ∷ p) = below_within [] (x ∷ p) (root_within p)

  below_root : (e : Found) → Contains s.entries e → is_doomed plan e ≡ true → (x : List ℕ) × (p : Path) × (e.0 ≡ x ∷ p)
  below_root e inside doomed = at e.0 refl where
    at : (q : Path) → e.0 ≡ q → (x : List ℕ) × (p : Path) × (e.0 ≡ x ∷ p)
    at [] is = absurd (not_root e inside doomed is)
    at (x ∷ p) is = (x, p, is)

  -- a folder that is taken away isn't planned as one
  no_folder : (e : Found) (y : List ℕ) (f : Entry) → Contains s.entries e → is_doomed plan e ≡ true → u (y ∷ e.0) ≡ Some f → Contains plan (e.0, Folder) → ⊥
  no_folder e y f inside doomed child planned =
      let stands = b.new.parents y e.0 f child in
      let x = b.scan.stand e inside in
      elim (b.begun.others e.0) [
        | inl same ↦ true_false (is_gone plan s.entries e.0) (is_gone_at plan s.entries e inside doomed) (fit_stays e.0 Folder planned (ap (λ o. fits Folder (kind_of o)) (sym same ∙ stands)))
        | inr (m, at, inl is) ↦ (let clash : Some (file m.1) ≡ Some folder = sym (b.begun.markers m at) ∙ ap u (sym is) ∙ stands in cc clash)
        | inr (m, at, inr new) ↦ (let clash : Some x.0 ≡ None = sym x.1 ∙ new.1 in cc clash)
      ]

  child_managed : (q : Path) (y : List ℕ) → is_managed s.managed q ≡ true → is_managed s.managed (y ∷ q) ≡ true
  child_managed q y is = managed_below s.managed q (y ∷ q) is (below_within q (y ∷ q) (within_itself q))

  no_child : (e : Found) (y : List ℕ) (f : Entry) → Contains s.entries e → is_doomed plan e ≡ true → u (y ∷ e.0) ≡ Some f → IsPlanned plan (y ∷ e.0) → ⊥
  no_child e y f inside doomed child planned = no_folder e y f inside doomed child (b.rooted.parents y e.0 planned.0 planned.1 (b.scan.within e inside))

  pub can_clear : CanClear plan s.entries u
  can_clear = record {
    below = below_root;
    stand = λ e inside doomed none. stood_still e inside none;
    children = λ e y f inside doomed child.
        let out = no_child e y f inside doomed child in
        let is = child_managed e.0 y (b.scan.within e inside) in
        elim (found_or_new (y ∷ e.0) f is child) [
          | inl found ↦ (kind_of (Some f), found.0, doomed_where plan (y ∷ e.0) (kind_of (Some f)) out)
          | inr new ↦ (let p = begins_planned (y ∷ e.0) is new in absurd (out (p.0, p.1)))
        ];
  }

  pub cleared : Cleared plan s.entries u (without plan s.entries u)
  cleared = record { kept = λ q stays. ap (λ g. if g then None else u q) stays }

  gone_none : (q : Path) → is_gone plan s.entries q ≡ true → without plan s.entries u q ≡ None
  gone_none q gone = ap (λ g. if g then None else u q) gone

  pub folder_cleared : (v : Tree) → Cleared plan s.entries u v → (m : Managed) (q : Path) → Contains s.managed m → is_within q m.0 ≡ true → v q ≡ Some folder
  folder_cleared v c m q inside up = c.kept q (folder_stays m q inside up) ∙ b.begun.folders m q inside up

  pub marker_cleared : (v : Tree) → Cleared plan s.entries u v → (m : Managed) → Contains s.managed m → v (marker_name ∷ m.0) ≡ Some (file m.1)
  marker_cleared v c m inside = c.kept (marker_name ∷ m.0) (marker_stays m inside) ∙ b.begun.markers m inside

  pub right_cleared : (v : Tree) → Cleared plan s.entries u v → (e : Item) → Contains plan e → StandsAs e.1 (t e.0) → StandsAs e.1 (v e.0)
  right_cleared v c e planned right = subst (StandsAs e.1) (sym (c.kept e.0 (right_stays e planned right))) (right_begun e planned right)

  -- what stands behind it at a managed path is planned, and fits
  left : (q : Path) (x : Entry) → is_managed s.managed q ≡ true → without plan s.entries u q ≡ Some x → (w : Planned) × Contains plan (q, w) × (fits w (kind_of (Some x)) ≡ true)
  left q x is stands = elim (is_gone plan s.entries q) as (λ g. is_gone plan s.entries q ≡ g → (w : Planned) × Contains plan (q, w) × (fits w (kind_of (Some x)) ≡ true)) [
    | true ↦ λ gone. (let clash : None ≡ Some x = sym (gone_none q gone) ∙ stands in cc clash)
    | false ↦ λ kept.
        let now : u q ≡ Some x = sym (cleared.kept q kept) ∙ stands in
        elim (found_or_new q x is now) [
          | inl found ↦
              let stays : is_doomed plan (q, kind_of (Some x)) ≡ false = false_from_ne_true (is_doomed plan (q, kind_of (Some x))) (λ doomed. true_false (is_gone plan s.entries q) (is_gone_at plan s.entries (q, kind_of (Some x)) found.0 doomed) kept) in
              let p = planned_where plan q (kind_of (Some x)) stays in
              (p.0, p.1, fit_where plan q p.0 (kind_of (Some x)) (planned_at q p.0 p.1) stays)
          | inr new ↦ (let p = begins_planned q is new in (p.0, p.1, subst (λ o. fits p.0 (kind_of o) ≡ true) now p.2))
        ]
  ] refl

  pub left_planned : (q : Path) (x : Entry) → is_managed s.managed q ≡ true → without plan s.entries u q ≡ Some x → IsPlanned plan q
  left_planned q x is stands = let l = left q x is stands in (l.0, l.1)

  -- what is planned can be made
  pub ready : IsReady plan (without plan s.entries u)
  ready = record { fitting = fitting; parents = parents } where
    fitting : (e : Item) → Contains plan e → fits e.1 (kind_of (without plan s.entries u e.0)) ≡ true
    fitting e planned = elim (without plan s.entries u e.0) as (λ o. without plan s.entries u e.0 ≡ o → fits e.1 (kind_of o) ≡ true) [
      | None ↦ λ is. fits_absent e.1
      | Some x ↦ λ is.
          let l = left e.0 x (b.rooted.within e planned) is in
          subst (λ w. fits w (kind_of (Some x)) ≡ true) (planned_once plan e.0 l.0 e.1 b.order l.1 planned) l.2
    ] refl

    parents : (x : List ℕ) (p : Path) (w : Planned) → Contains plan (x ∷ p, w) → without plan s.entries u (x ∷ p) ≡ None → Contains plan (p, Folder)
    parents x p w planned none =
        let n = managed_in s.managed (x ∷ p) (b.rooted.within (x ∷ p, w) planned) in
        elim (within_cases n.0.0 (x ∷ p) n.2) [
          | inl at ↦ (let clash : Some folder ≡ None = sym (folder_cleared (without plan s.entries u) cleared n.0 n.0.0 n.1 (within_itself n.0.0)) ∙ ap (without plan s.entries u) (sym at) ∙ none in cc clash)
          | inr below ↦ b.rooted.parents x p w planned (managed_of s.managed p n.0 n.1 below)
        ]
