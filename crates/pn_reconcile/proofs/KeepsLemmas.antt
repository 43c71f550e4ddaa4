-- Lemmas on what stood as planned and stands as it did.
use Rattle.std.proofs.Common.{◌≡◌, List, refl, sym, ap, ◌∙◌, subst, true, false, Some, None, Ok, Err, inl, inr}
use Rattle.std.specs.Prelude.{Option, Result, OnOk, OnErr, IfSome, ◌⊎◌}
use Rattle.std.specs.Option.{ForSome}
use Rattle.std.specs.List.{Contains}
use Rattle.pn_text.specs.Path.{Path, same_path}
use Rattle.pn_text.proofs.Paths.{same_path-Decides}
use Rattle.pn_text.proofs.Results.{for_some, same_some}
use Rattle.pn_fs.specs.Tree.{Tree}
use Rattle.pn_repair.specs.declared.fault.RepairFault.{RepairFault}
use Rattle.pn_repair.specs.Repairs.{DiffersAt, Repaired, HalfRepaired}
use Rattle.pn_repair.specs.Stands.{StandsAs}
use Rattle.pn_clear.specs.Items.{Item, Rises}
use Rattle.pn_reconcile.specs.Plans.{KeepsAllRight, Made, HalfMade}
use Rattle.pn_reconcile.specs.Phases.{IsDown, IsHalfDown, IsNewAbove}
use Rattle.pn_reconcile.proofs.BegunLemmas.{none_right}
use Rattle.pn_reconcile.proofs.MadeLemmas.{made_at}
use Rattle.pn_reconcile.proofs.PlannedLemmas.{planned_once}

-- a tree that was told is told still
abbrev pub IsTold : Option Tree → Option Tree → Type 0
IsTold a b = ForSome a (λ t. (u : Tree) × (b ≡ Some u))

pub told_made : (P : Tree → Tree → Type 0) (a b : Option Tree) → Made P a b → IsTold a b
told_made P a b h t told = let m = made_at P a b t h told in (m.0, m.1)

pub told_half : (P : Tree → Tree → Type 0) (a b : Option Tree) → HalfMade P a b → IsTold a b
told_half P a b h t told = let m = h t told in (m.0, m.1)

one_tree : (a : Option Tree) (t u : Tree) → a ≡ Some t → a ≡ Some u → u ≡ t
one_tree a t u h k = same_some u t (sym k ∙ h)

pub keeps_none : (plan : List Item) (a : Option Tree) → KeepsAllRight plan a a
keeps_none plan a t told u now e planned right = ap (λ v. v e.0) (one_tree a t u told now)

pub keeps_both : (plan : List Item) (a b c : Option Tree) → IsTold a b → KeepsAllRight plan a b → KeepsAllRight plan b c → KeepsAllRight plan a c
keeps_both plan a b c mid h k t told w now e planned right =
    let u = mid t told in
    let same = h t told u.0 u.1 e planned right in
    k u.0 u.1 w now e planned (subst (StandsAs e.1) (sym same) right) ∙ same

-- folders that are new stand where nothing did
pub keeps_new : (plan : List Item) (p : Path) (a b : Option Tree) → ForSome a (λ t. (u : Tree) × (b ≡ Some u) × ((q : Path) → (u q ≡ t q) ⊎ IsNewAbove p t q)) → KeepsAllRight plan a b
keeps_new plan p a b h t told w now e planned right =
    let u = h t told in
    let same = one_tree b u.0 w u.1 now in
    ap (λ v. v e.0) same ∙ elim (u.2 e.0) [ inl still ↦ still | inr new ↦ absurd (none_right e.1 (subst (StandsAs e.1) new.1 right)) ]

pub keeps_down : (plan : List Item) (p : Path) (a b : Option Tree) → Made (IsDown p) a b → KeepsAllRight plan a b
keeps_down plan p a b h = keeps_new plan p a b (λ t told. let m = made_at (IsDown p) a b t h told in (m.0, m.1, m.2.others))

pub keeps_half_down : (plan : List Item) (p : Path) (a b : Option Tree) → HalfMade (IsHalfDown p) a b → KeepsAllRight plan a b
keeps_half_down plan p a b h = keeps_new plan p a b (λ t told. let m = h t told in (m.0, m.1, m.2.others))

differs_ok : (e : Item) (a b : Option Tree) → Repaired e a b → ForSome a (λ t. ForSome b (DiffersAt e.0 t))
differs_ok e None b h t told u now = cc
differs_ok e (Some s) b h t told u now =
    let same : s ≡ t = same_some s t told in
    subst (λ v. DiffersAt e.0 v u) same (subst (DiffersAt e.0 s) (one_tree b u h.0 now h.1) h.2)

differs_err : (e : Item) (a b : Option Tree) → HalfRepaired e a b → ForSome a (λ t. ForSome b (DiffersAt e.0 t))
differs_err e a b h t told u now = let m = h t told in subst (DiffersAt e.0 t) (one_tree b u m.0 now m.1) m.2

pub differs : {T : Type 0} (r : Result T RepairFault) (e : Item) (a b : Option Tree) → OnOk r (Repaired e a b) → OnErr r (HalfRepaired e a b) → ForSome a (λ t. ForSome b (DiffersAt e.0 t))
differs (Ok v) e a b ok err = differs_ok e a b ok
differs (Err f) e a b ok err = differs_err e a b err

-- the repair of a planned entry
pub keeps_next : {T : Type 0} (r : Result T RepairFault) (plan : List Item) (e : Item) (a b : Option Tree) → Rises plan → Contains plan e → OnOk r (Repaired e a b) → OnErr r (HalfRepaired e a b) → IfSome a (λ t. StandsAs e.1 (t e.0) → b ≡ a) → KeepsAllRight plan a b
keeps_next r plan e a b order inside ok err stays t told u now f planned right = elim (same_path e.0 f.0) as (λ s. same_path e.0 f.0 ≡ s → u f.0 ≡ t f.0) [
  | false ↦ λ out. (differs r e a b ok err t told u now).others f.0 out
  | true ↦ λ is.
      let at : e.0 ≡ f.0 = (same_path-Decides e.0 f.0).0 is in
      let what : f.1 ≡ e.1 = planned_once plan f.0 f.1 e.1 order planned (subst (λ q. Contains plan (q, e.1)) at inside) in
      let here : StandsAs e.1 (t e.0) = subst (λ q. StandsAs e.1 (t q)) (sym at) (subst (λ w. StandsAs w (t f.0)) what right) in
      let still : b ≡ a = for_some (λ t. StandsAs e.1 (t e.0) → b ≡ a) a stays t told here in
      ap (λ v. v f.0) (one_tree a t u told (sym still ∙ now))
] refl
