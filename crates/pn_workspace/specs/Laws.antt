-- Laws of workspaces, in the subject's own words.
use Rattle.std.specs.Prelude.{◌≡◌, ◌≢◌, List, [], ◌∷◌, ◌++◌, Some, true, false, codes}
use Rattle.std.specs.List.{Contains}
use Rattle.pn_text.specs.Path.{Path}
use Rattle.pn_fs.specs.Tree.{Tree}
use Rattle.pn_workspace.specs.Roots.{has_settings, root_of}
use Rattle.pn_workspace.specs.Stores.{IsPlaced, default_store, is_misplaced, modules_name}
use Rattle.pn_workspace.specs.Workspaces.{IsWorkspace, NoWorkspace}
use Rattle.pn_workspace.specs.declared.fault.WorkspaceFault.{WorkspaceFault}
use Rattle.pn_workspace.specs.declared.fault.WorkspaceFault.TheVariants as fault
use Rattle.pn_workspace.specs.declared.search.Workspace.{Workspace}

-- A folder at or above another one has a workspace file, and none between them, that one included, has.
pub record IsNearest (t : Tree) (p r : Path) : Type 0 where
  pub way : Path
  pub above : p ≡ way ++ r
  pub file : has_settings t r ≡ true
  pub none_nearer : (near rest : Path) → way ≡ near ++ rest → rest ≢ [] → has_settings t (rest ++ r) ≡ false

-- neither a folder nor one above it has a workspace file
abbrev pub HasNone : Tree → Path → Type 0
HasNone t p = (way q : Path) → p ≡ way ++ q → has_settings t q ≡ false

-- The nearest folder with a workspace file, or the folder itself.
pub data IsRoot (t : Tree) (p r : Path) : Type 0 where
  with_file : IsNearest t p r → IsRoot t p r
  without_file : r ≡ p → HasNone t p → IsRoot t p r

abbrev pub RootLaw : Type 0
RootLaw = (t : Tree) (p : Path) → IsRoot t p (root_of t p)

-- neither want of memory nor a fault
abbrev pub IsOwn : WorkspaceFault → Type 0
IsOwn fault.Fault = ⊥
IsOwn fault.Memory = ⊥
IsOwn f = Unit {0}

-- A known tree gives a folder at most one workspace, at most one refusal, and never both.
pub record AnswerLaw : Type 0 where
  pub value : (t : Tree) (place : Path) (w v : Workspace) → IsWorkspace t place w → IsWorkspace t place v → w ≡ v
  pub refusal : (t : Tree) (place : Path) (e f : WorkspaceFault) → IsOwn e → IsOwn f → NoWorkspace (Some t) place e → NoWorkspace (Some t) place f → e ≡ f
  pub either : (t : Tree) (place : Path) (w : Workspace) (e : WorkspaceFault) → IsOwn e → IsWorkspace t place w → NoWorkspace (Some t) place e → ⊥

-- Where the virtual store lies: neither at a project's folder nor above one; in a project's `node_modules` only as the
-- default one; not at or below the lockfile, nor what is written in place of a lockfile or a manifest; and under another name
-- than `node_modules`. The default one of a root that is the only project may lie there.
pub record PlaceLaw : Type 0 where
  pub apart : (w : Workspace) (place : Path) (projects : List Path) (p q : Path) → IsPlaced w place projects p → Contains projects q → (s : Path) → q ≢ s ++ p
  pub inside : (w : Workspace) (place : Path) (projects : List Path) (p q : Path) → IsPlaced w place projects p → Contains projects q → (s : Path) → p ≡ s ++ modules_name ∷ q → p ≡ default_store w.root
  pub lock : (w : Workspace) (place : Path) (projects : List Path) (p : Path) → IsPlaced w place projects p → (s : Path) → p ≢ s ++ codes "pnpm-lock.yaml" ∷ w.root
  pub new_lock : (w : Workspace) (place : Path) (projects : List Path) (p : Path) → IsPlaced w place projects p → (s : Path) → p ≢ s ++ codes "pnpm-lock.yaml.pnpm-rs" ∷ w.root
  pub new_manifest : (w : Workspace) (place : Path) (projects : List Path) (p : Path) → IsPlaced w place projects p → (s : Path) → p ≢ s ++ codes "package.json.pnpm-rs" ∷ place
  pub named : (w : Workspace) (place : Path) (projects : List Path) (q : Path) → IsPlaced w place projects (modules_name ∷ q) → ⊥
  pub default : (root : Path) → is_misplaced root root (root ∷ []) (default_store root) ≡ false
