-- Lemmas on the point of the virtual store's place.
use Rattle.std.proofs.Common.{◌≡◌, ◌⊎◌, refl, sym, subst, inl, inr, true, false}
use Rattle.pn_text.specs.Path.{Path, same_path}
use Rattle.pn_text.proofs.Bools.{true_false}
use Rattle.pn_text.proofs.Paths.{same_path-Decides, same_path_refl}
use Rattle.pn_workspace.specs.Stores.{IsPlaced, NoPlace, default_store}
use Rattle.pn_workspace.specs.declared.fault.StoreFault.TheVariants.{Misplaced}
use Rattle.pn_workspace.specs.declared.fault.WorkspaceWhy.TheVariants.{BadKey}
use Rattle.pn_status.specs.declared.status.FileWhy.TheVariants.{Workspace as of_workspace}
use Rattle.pn_status.specs.declared.status.Status.{Status}
use Rattle.pn_status.specs.declared.status.Status.TheVariants.{Memory, Manifest as BadManifest, NotYet}
use Rattle.pn_cmd.specs.Known.{Space}
use Rattle.pn_cmd.specs.Points.{Refuses}
use Rattle.pn_cmd.specs.Stores.{Displaces, IsDefault, NoDefault, projects_of, store_key}
use Rattle.pn_cmd.specs.World.{World}

-- the store may not lie there
pub displaced : (s : Status) (k : Space) (w : World) → Displaces k s → NoPlace k.workspace k.place (projects_of k) Misplaced → Refuses (NoDefault k) w w s
displaced Memory k w d n = tt
displaced (BadManifest text (of_workspace (BadKey key))) k w d n = (d.0, d.1, n)
displaced s k w d n = absurd d

-- it lies at the default place
pub at_default : (k : Space) (p : Path) → IsPlaced k.workspace k.place (projects_of k) p → same_path p (default_store k.place) ≡ true → IsDefault k
at_default k p placed same = subst (IsPlaced k.workspace k.place (projects_of k)) ((same_path-Decides p (default_store k.place)).0 same) placed

-- it lies elsewhere
pub elsewhere : (s : Status) (k : Space) (w : World) (p : Path) → IsPlaced k.workspace k.place (projects_of k) p → same_path p (default_store k.place) ≡ false → (s ≡ NotYet store_key) ⊎ (s ≡ Memory) → Refuses (NoDefault k) w w s
elsewhere s k w p placed other is = elim is [
  | inl e ↦ subst (λ (x : Status). Refuses (NoDefault k) w w x) (sym e) (refl, (p, placed, λ same. true_false (same_path p (default_store k.place)) (subst (λ q. same_path p q ≡ true) same (same_path_refl p)) other))
  | inr e ↦ subst (λ (x : Status). Refuses (NoDefault k) w w x) (sym e) tt
]
