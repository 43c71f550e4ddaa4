-- The point at which the virtual store has its place.
use Rattle.std.specs.Prelude.{◌≡◌, ◌≢◌, ◌+◌, ◌∷◌, [], ℕ, List, codes}
use Rattle.pn_text.specs.declared.limits.TheConstants.{PATH_LIMIT}
use Rattle.pn_text.specs.Path.{Path, path_text}
use Rattle.pn_workspace.specs.Roots.{settings_path}
use Rattle.pn_workspace.specs.Stores.{IsPlaced, NoPlace, default_store}
use Rattle.pn_workspace.specs.declared.fault.StoreFault.TheVariants.{Long, Misplaced}
use Rattle.pn_workspace.specs.declared.fault.WorkspaceWhy.TheVariants.{BadKey}
use Rattle.pn_status.specs.declared.status.FileWhy.TheVariants.{Workspace as of_workspace}
use Rattle.pn_status.specs.declared.status.Which.TheVariants.{Path as PathLength}
use Rattle.pn_status.specs.declared.status.Status.{Status}
use Rattle.pn_status.specs.declared.status.Status.TheVariants.{Memory, Manifest as BadManifest, Limit, NotYet}
use Rattle.pn_cmd.specs.Known.{Space}
use Rattle.pn_cmd.specs.Points.{Point}
use Rattle.pn_cmd.specs.World.{Shown}

abbrev pub store_key : List ℕ
store_key = codes "virtualStoreDir"

-- the one project is the root
abbrev pub projects_of : Space → List Path
projects_of k = k.place ∷ []

-- It may lie where the setting leads, and that is the default place.
abbrev pub IsDefault : Space → Type 0
IsDefault k = IsPlaced k.workspace k.place (projects_of k) (default_store k.place)

-- Its path is too long, it may not lie there, or it isn't the default place.
abbrev pub NoDefault : Space → Shown → Status → Type 0
NoDefault k w (Limit PathLength n) = (n ≡ PATH_LIMIT + 1) × NoPlace k.workspace k.place (projects_of k) Long
NoDefault k w (BadManifest text (of_workspace (BadKey key))) = (text ≡ path_text (settings_path k.place)) × (key ≡ store_key) × NoPlace k.workspace k.place (projects_of k) Misplaced
NoDefault k w (NotYet text) = (text ≡ store_key) × ((p : Path) × IsPlaced k.workspace k.place (projects_of k) p × (p ≢ default_store k.place))
NoDefault k w s = ⊥

-- the same, or there was no memory
abbrev pub Displaces : Space → Status → Type 0
Displaces k Memory = Unit {0}
Displaces k (BadManifest text (of_workspace (BadKey key))) = (text ≡ path_text (settings_path k.place)) × (key ≡ store_key)
Displaces k s = ⊥

abbrev pub store : Point Space (Unit {0})
store = record { Finds = λ k t u. IsDefault k; Cause = NoDefault }
