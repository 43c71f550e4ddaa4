-- The point of the project's manifest.
use Rattle.std.specs.Prelude.{◌≡◌, ◌<◌, ◌≤◌, ℕ, List, length, Option, Some, None, IfSome}
use Rattle.serde_json.specs.Data.{Data}
use Rattle.pn_text.specs.declared.limits.TheConstants.{PATH_LIMIT, TEXT_LIMIT}
use Rattle.pn_text.specs.Path.{Path, path_text}
use Rattle.pn_fs.specs.Tree.{Entry, Tree}
use Rattle.pn_manifest.specs.Fields.{first_wrong, said}
use Rattle.pn_manifest.specs.Said.{Said}
use Rattle.pn_manifest.specs.Text.{IsObjectText}
use Rattle.pn_manifest.specs.Refusals.{WrongBytes}
use Rattle.pn_manifest.specs.Says.{said_of}
use Rattle.pn_manifest.specs.declared.manifest.Manifest.{Manifest}
use Rattle.pn_read.specs.Small.{IsNoFile, IsFileOf}
use Rattle.pn_manifest.specs.declared.fault.ManifestWhy.{ManifestWhy}
use Rattle.pn_manifest.specs.declared.fault.ManifestWhy.TheVariants.{Missing, NotJson, BadField}
use Rattle.pn_choice.specs.Built.{unbuilt_field}
use Rattle.pn_workspace.specs.Contents.{IsText}
use Rattle.pn_status.specs.declared.status.FileWhy.TheVariants.{Manifest as of_manifest}
use Rattle.pn_status.specs.declared.status.Which.TheVariants.{Text, Path as PathLength}
use Rattle.pn_status.specs.declared.status.Status.{Status}
use Rattle.pn_status.specs.declared.status.Status.TheVariants.{Memory, Manifest as BadManifest, Limit, ProjectFault, NotYet}
use Rattle.pn_cmd.specs.World.{Shown}
use Rattle.pn_cmd.specs.Points.{Point}

-- the file is the text of an object in which nothing is wrong
pub record IsManifest (e : Option Entry) (d : Data) : Type 0 where
  pub bytes : List ℕ
  pub stands : IsText e bytes
  pub text : IsObjectText bytes d
  pub right : first_wrong d ≡ None

abbrev pub IsWrong : Option Entry → ManifestWhy → Type 0
IsWrong e Missing = IsNoFile e
IsWrong e NotJson = (bytes : List ℕ) × IsText e bytes × ((d : Data) → IsObjectText bytes d → ⊥)
IsWrong e (BadField f k) = (bytes : List ℕ) × (d : Data) × IsText e bytes × IsObjectText bytes d × (first_wrong d ≡ Some (f, k))

-- the first field of the project's manifest that isn't built yet
abbrev pub project_later : Data → Option (List ℕ)
project_later d = unbuilt_field (said d)

-- The path is too long, or the file there is refused. A path that is too long isn't asked for.
abbrev pub NoManifest : Path → Shown → Status → Type 0
NoManifest p w (Limit PathLength n) = (n ≡ length (path_text p)) × (PATH_LIMIT < n)
NoManifest p w (Limit Text n) = (length (path_text p) ≤ PATH_LIMIT) × (TEXT_LIMIT < n) × IfSome w.trees.project (λ t. IsFileOf n (t p))
NoManifest p w (BadManifest text (of_manifest why)) = (length (path_text p) ≤ PATH_LIMIT) × (text ≡ path_text p) × IfSome w.trees.project (λ t. IsWrong (t p) why)
NoManifest p w (NotYet key) = (length (path_text p) ≤ PATH_LIMIT) × IfSome w.trees.project (λ t. (d : Data) × IsManifest (t p) d × (project_later d ≡ Some key))
NoManifest p w ProjectFault = length (path_text p) ≤ PATH_LIMIT
NoManifest p w s = ⊥

-- The file at this path is the project's manifest, with nothing in it that isn't built yet.
pub record IsProjectManifest (project : Option Tree) (p : Path) (d : Data) : Type 0 where
  pub fits : length (path_text p) ≤ PATH_LIMIT
  pub read : IfSome project (λ t. IsManifest (t p) d)
  pub right : first_wrong d ≡ None
  pub built : project_later d ≡ None

-- The manifest there says this.
pub record Declares (project : Option Tree) (p : Path) (m : Said) : Type 0 where
  pub value : Data
  pub manifest : IsProjectManifest project p value
  pub says : m ≡ said value

abbrev pub manifest : Point Path Said
manifest = record { Finds = λ p t m. Declares t.project p m; Cause = NoManifest }

-- the same of the bytes alone
abbrev pub FoundIn : List ℕ → Manifest → Type 0
FoundIn bytes m = (d : Data) × IsObjectText bytes d × (first_wrong d ≡ None) × (project_later d ≡ None) × (said_of m ≡ said d)

abbrev pub BytesRefused : Path → List ℕ → Status → Type 0
BytesRefused p bytes Memory = Unit {0}
BytesRefused p bytes (BadManifest text (of_manifest why)) = (text ≡ path_text p) × WrongBytes bytes why
BytesRefused p bytes (NotYet key) = (d : Data) × IsObjectText bytes d × (first_wrong d ≡ None) × (project_later d ≡ Some key)
BytesRefused p bytes s = ⊥
