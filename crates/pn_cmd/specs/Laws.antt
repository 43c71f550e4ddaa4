-- Laws of a run, which follow from how it ends.
use Rattle.std.specs.Prelude.{◌≡◌, ◌⊎◌, ◌∷◌, ℕ, List, Option, Some, None}
use Rattle.sha2.specs.Sha512.{sha512}
use Rattle.serde_json.specs.Data.{Data}
use Rattle.pn_text.specs.Path.{Path}
use Rattle.pn_fs.specs.Tree.{Entry, file, Tree, IsTree}
use Rattle.pn_manifest.specs.Fields.{said}
use Rattle.pn_status.specs.declared.status.IntegrityWhy.TheVariants.{Stored as of_store}
use Rattle.pn_status.specs.declared.status.Which.TheVariants.{Numbers}
use Rattle.pn_status.specs.declared.status.Status.{Status}
use Rattle.pn_status.specs.declared.status.Status.TheVariants.{Done, Memory, Integrity, Limit, DigestClash, ProjectFault, StoreFault, RegistryFault, SinkFault}
use Rattle.pn_cmd.specs.World.{World, Inputs, Shown}
use Rattle.pn_cmd.specs.Points.{Excludes}
use Rattle.pn_cmd.specs.Names.{package_name}
use Rattle.pn_cmd.specs.Words.{words}
use Rattle.pn_cmd.specs.Spaces.{workspace}
use Rattle.pn_cmd.specs.Standing.{standing}
use Rattle.pn_cmd.specs.Scans.{scanned}
use Rattle.pn_cmd.specs.Stores.{store}
use Rattle.pn_cmd.specs.Manifests.{IsManifest, manifest}
use Rattle.pn_cmd.specs.Graph.{graph}
use Rattle.pn_cmd.specs.Packages.{listed}
use Rattle.pn_cmd.specs.Fetches.{fetched}
use Rattle.pn_cmd.specs.Plans.{planned}
use Rattle.pn_cmd.specs.Chain.{install, StandsAt}
use Rattle.pn_cmd.specs.Lookup.{LooksUp}
use Rattle.pn_cmd.specs.Endings.{Ends}
use Rattle.pn_cmd.specs.Causes.{CauseOf}

-- Each answer has its cause.
abbrev pub CauseLaw : Type 0
CauseLaw = (i : Inputs) (old new : World) (s : Status) → Ends i old new s → CauseOf i old new s

-- The cause of a refusal is at one of the points, after all that is found before it.
abbrev pub PointLaw : Type 0
PointLaw = (i : Inputs) (w : Shown) (s : Status) → install.Cause i w s → StandsAt i w s

-- After an install each package finds what it depends on, and so does the project, where the trees are told.
abbrev pub LookupLaw : Type 0
LookupLaw = (i : Inputs) (old new : World) → Ends i old new Done → (r t u : Tree) (d : Data) → old.registry.tree ≡ Some r → old.project.tree ≡ Some t → new.project.tree ≡ Some u → IsManifest (t (package_name ∷ i.place)) d → LooksUp r u i.place (said d)

-- the trees are told
pub record AreTold (w : Shown) : Type 0 where
  pub tree : Tree
  pub project : w.trees.project ≡ Some tree
  pub packages : Tree
  pub registry : w.trees.registry ≡ Some packages

-- Where a point is passed, none of its causes is there.
pub record OrderLaw : Type 0 where
  pub words : Excludes words AreTold
  pub workspace : Excludes workspace AreTold
  pub standing : Excludes standing AreTold
  pub scanned : Excludes scanned AreTold
  pub manifest : Excludes manifest AreTold
  pub store : Excludes store AreTold
  pub graph : Excludes graph AreTold
  pub listed : Excludes listed AreTold
  pub fetched : Excludes fetched AreTold
  pub planned : Excludes planned AreTold

-- neither for want of memory, nor for a fault, nor for what other steps left in the store
abbrev pub IsOwn : Status → Type 0
IsOwn Memory = ⊥
IsOwn ProjectFault = ⊥
IsOwn StoreFault = ⊥
IsOwn (Integrity (of_store at found)) = ⊥
IsOwn (DigestClash at) = ⊥
IsOwn (Limit Numbers n) = ⊥
IsOwn RegistryFault = ⊥
IsOwn SinkFault = ⊥
IsOwn s = Unit {0}

-- Both trees are told, and these.
pub record Starts (t r : Tree) (w : World) : Type 0 where
  pub project : w.project.tree ≡ Some t
  pub registry : w.registry.tree ≡ Some r

-- one entry, or two files whose bytes have one SHA-512
abbrev pub IsLike : Option Entry → Option Entry → Type 0
IsLike a b = (a ≡ b) ⊎ ((x : List ℕ) × (y : List ℕ) × (a ≡ Some (file x)) × (b ≡ Some (file y)) × (sha512 x ≡ sha512 y))

-- one tree but for bytes of files that have one SHA-512
abbrev pub AreAlike : Option Tree → Option Tree → Type 0
AreAlike None None = Unit {0}
AreAlike None (Some v) = ⊥
AreAlike (Some u) None = ⊥
AreAlike (Some u) (Some v) = (q : Path) → IsLike (u q) (v q)

-- Two runs end alike: with one answer, with one tree by the digests of its files, and where their outputs began alike with the same output.
pub record EndAlike (old new other now : World) (s v : Status) : Type 0 where
  pub status : s ≡ v
  pub tree : AreAlike new.project.tree now.project.tree
  pub out : old.out.bytes ≡ other.out.bytes → new.out.bytes ≡ now.out.bytes

-- So do two runs of one start whose answers the trees settle.
abbrev pub SettledLaw : Type 0
SettledLaw = (i : Inputs) (t r : Tree) (old new other now : World) (s v : Status) → IsTree t → IsTree r → Starts t r old → Starts t r other → Ends i old new s → Ends i other now v → IsOwn s → IsOwn v → EndAlike old new other now s v
