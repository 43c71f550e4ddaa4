-- The workspace of a folder, and why there is none.
use Rattle.std.specs.Prelude.{◌≡◌, ◌<◌, ◌≤◌, ℕ, List, Vec, length, Option, None, Some, IfSome}
use Rattle.std.specs.Global.{Global}
use Rattle.pn_text.specs.Causes.{Rose}
use Rattle.pn_text.specs.declared.limits.TheConstants.{PATH_LIMIT, TEXT_LIMIT}
use Rattle.pn_text.specs.Path.{Path, path_text}
use Rattle.pn_fs.specs.Seen.{Seen}
use Rattle.pn_fs.specs.Tree.{Entry, Tree}
use Rattle.pn_read.specs.Small.{IsFileOf, IsNoFile}
use Rattle.pn_yaml.specs.declared.fault.YamlFault.{YamlFault}
use Rattle.pn_yaml.specs.declared.fault.YamlFault.TheVariants as yaml
use Rattle.pn_workspace.specs.declared.fault.WorkspaceWhy.TheVariants as why
use Rattle.pn_workspace.specs.Contents.{IsText, IsWrong, Says, WrongBytes}
use Rattle.pn_workspace.specs.Roots.{nearest, root_of, settings_path}
use Rattle.pn_workspace.specs.declared.fault.WorkspaceFault.{WorkspaceFault}
use Rattle.pn_workspace.specs.declared.fault.WorkspaceFault.TheVariants as fault
use Rattle.pn_workspace.specs.declared.search.Found.{Found}
use Rattle.pn_workspace.specs.declared.search.Workspace.{Workspace}

-- The path of the folder's own workspace file is within the limit; those above it are shorter.
abbrev pub Fits : Path → Type 0
Fits place = length (path_text (settings_path place)) ≤ PATH_LIMIT

-- The root, and what its workspace file says.
pub record IsWorkspace (t : Tree) (place : Path) (w : Workspace) : Type 0 where
  pub fits : Fits place
  pub root : w.root ≡ root_of t place
  pub says : Says (t (settings_path (root_of t place))) w.config

-- Why there is no workspace: that path is too long, or the root's file is too large or wrong. A path that is too long isn't
-- asked for.
abbrev pub NoWorkspace : Option Tree → Path → WorkspaceFault → Type 0
NoWorkspace shown place (fault.Long n) = (n ≡ length (path_text (settings_path place))) × (PATH_LIMIT < n)
NoWorkspace shown place (fault.TooLarge n) = Fits place × (TEXT_LIMIT < n) × IfSome shown (λ t. IsFileOf n (t (settings_path (root_of t place))))
NoWorkspace shown place (fault.Wrong path why) = Fits place × IfSome shown (λ t. (path ≡ settings_path (root_of t place)) × IsWrong (t (settings_path (root_of t place))) why)
NoWorkspace shown place fault.Fault = Fits place
NoWorkspace shown place fault.Memory = Unit {0}

-- The same between two states of the tree: a fault is answered only where its count rose.
abbrev pub Refused : Seen → Seen → Path → WorkspaceFault → Type 0
Refused old new place fault.Fault = Rose old.faults new.faults × Fits place
Refused old new place f = NoWorkspace old.tree place f

-- what the search found: the root's file, or none
abbrev pub IsFound : Tree → Path → Option Found → Type 0
IsFound t place None = nearest t place ≡ None
IsFound t place (Some f) = (nearest t place ≡ Some f.root) × IsText (t (settings_path f.root)) f.bytes.items

-- the file's path is its folder's, and the file isn't too large
pub record HasFile (f : Found) : Type 0 where
  pub path : f.path ≡ settings_path f.root
  pub short : length f.bytes.items ≤ TEXT_LIMIT

-- what was read at an entry
abbrev pub IsReadAt : Option Entry → Option (Vec ℕ Global) → Type 0
IsReadAt e None = IsNoFile e
IsReadAt e (Some v) = IsText e v.items

-- Why a file wasn't read.
abbrev pub Unread : Seen → Seen → Path → WorkspaceFault → Type 0
Unread old new p (fault.TooLarge n) = (TEXT_LIMIT < n) × IfSome old.tree (λ t. IsFileOf n (t p))
Unread old new p fault.Fault = Rose old.faults new.faults
Unread old new p fault.Memory = Unit {0}
Unread old new p f = ⊥

-- Why the bytes of a file give no settings.
abbrev pub Unsaid : Path → List ℕ → WorkspaceFault → Type 0
Unsaid p bytes (fault.Wrong path why) = (path ≡ p) × WrongBytes bytes why
Unsaid p bytes fault.Memory = Unit {0}
Unsaid p bytes f = ⊥

-- the refusal of a file that is no text of the YAML subset
abbrev pub of_yaml : Path → YamlFault → WorkspaceFault
of_yaml p yaml.NotUtf8 = fault.Wrong p why.NotUtf8
of_yaml p (yaml.Line n w) = fault.Wrong p (why.Line n w)
of_yaml p yaml.TooDeep = fault.Wrong p why.TooDeep
of_yaml p yaml.Memory = fault.Memory
