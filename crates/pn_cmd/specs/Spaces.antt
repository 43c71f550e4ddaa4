-- The point at which the workspace is found.
use Rattle.std.specs.Prelude.{◌≡◌, ℕ, List, Option, None, Some, IfSome, if◌then◌else◌, codes}
use Rattle.pn_glob.specs.Matching.{is_bare}
use Rattle.pn_text.specs.Path.{Path, path_text, same_path}
use Rattle.pn_fs.specs.Tree.{Tree}
use Rattle.pn_manifest.specs.Values.{or_else}
use Rattle.pn_choice.specs.Built.{where_filled}
use Rattle.pn_config.specs.declared.config.Config.{Config}
use Rattle.pn_workspace.specs.Laws.{IsOwn}
use Rattle.pn_workspace.specs.Workspaces.{Fits, IsWorkspace, NoWorkspace}
use Rattle.pn_workspace.specs.declared.fault.WorkspaceFault.{WorkspaceFault}
use Rattle.pn_workspace.specs.declared.fault.WorkspaceFault.TheVariants.{Long, TooLarge, Wrong, Fault, Memory as NoMemory}
use Rattle.pn_workspace.specs.declared.search.Workspace.{Workspace}
use Rattle.pn_status.specs.declared.status.FileWhy.TheVariants.{Workspace as of_workspace}
use Rattle.pn_status.specs.declared.status.Which.TheVariants.{Text, Path as PathLength}
use Rattle.pn_status.specs.declared.status.Status.{Status}
use Rattle.pn_status.specs.declared.status.Status.TheVariants.{Memory, Manifest as BadManifest, Limit, ProjectFault, NotYet}
use Rattle.pn_cmd.specs.Points.{Point}
use Rattle.pn_cmd.specs.World.{Shown}

-- the status that tells of a refusal
abbrev pub space_status : WorkspaceFault → Status
space_status (Long n) = Limit PathLength n
space_status (TooLarge n) = Limit Text n
space_status (Wrong p why) = BadManifest (path_text p) (of_workspace why)
space_status Fault = ProjectFault
space_status NoMemory = Memory

-- the first setting that isn't built yet
abbrev pub unbuilt_key : Config → Option (List ℕ)
unbuilt_key c = or_else (if is_bare c.packages then None else Some (codes "packages")) (or_else (where_filled c.catalogs (codes "catalogs")) (where_filled c.overrides (codes "overrides")))

-- What of a workspace isn't built yet: a root that isn't the folder itself, told by its path; or a setting.
abbrev pub unbuilt_space : Path → Workspace → Option (List ℕ)
unbuilt_space place w = if same_path w.root place then unbuilt_key w.config else Some (path_text w.root)

-- The folder is the root of this workspace, and nothing of it isn't built yet.
pub record IsSpace (project : Option Tree) (place : Path) (w : Workspace) : Type 0 where
  pub fits : Fits place
  pub found : IfSome project (λ t. IsWorkspace t place w)
  pub built : unbuilt_space place w ≡ None

-- There is no workspace, or something of it isn't built yet.
abbrev pub NoSpace : Path → Shown → Status → Type 0
NoSpace place w ProjectFault = Fits place
NoSpace place w (NotYet text) = Fits place × IfSome w.trees.project (λ t. (space : Workspace) × IsWorkspace t place space × (unbuilt_space place space ≡ Some text))
NoSpace place w s = (fault : WorkspaceFault) × (s ≡ space_status fault) × IsOwn fault × NoWorkspace w.trees.project place fault

-- why a workspace isn't taken, or there was no memory
abbrev pub IsUnbuilt : Option (List ℕ) → Status → Type 0
IsUnbuilt found Memory = Unit {0}
IsUnbuilt found (NotYet text) = found ≡ Some text
IsUnbuilt found s = ⊥

abbrev pub workspace : Point Path Workspace
workspace = record { Finds = λ p t w. IsSpace t.project p w; Cause = NoSpace }
