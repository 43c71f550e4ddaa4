-- Lemmas on the point of the project's manifest.
use Rattle.std.proofs.Common.{◌≡◌, ◌≤◌, ℕ, List, subst, Option, Some, None, Ok, Err, length}
use Rattle.std.specs.Prelude.{Result, IfSome, IfOk, IfErr}
use Rattle.serde_json.specs.Data.{Data}
use Rattle.pn_text.specs.declared.limits.TheConstants.{PATH_LIMIT}
use Rattle.pn_text.specs.Path.{Path, path_text}
use Rattle.pn_fs.specs.Tree.{Tree}
use Rattle.pn_manifest.specs.Text.{IsObjectText}
use Rattle.pn_manifest.specs.Fields.{first_wrong}
use Rattle.pn_manifest.specs.Refusals.{WrongBytes}
use Rattle.pn_manifest.specs.Says.{said_of}
use Rattle.pn_manifest.specs.declared.manifest.Manifest.{Manifest}
use Rattle.pn_manifest.specs.declared.fault.ManifestWhy.{ManifestWhy}
use Rattle.pn_manifest.specs.declared.fault.ManifestWhy.TheVariants.{Missing, NotJson, BadField}
use Rattle.pn_status.specs.declared.status.FileWhy.TheVariants.{Manifest as of_manifest}
use Rattle.pn_status.specs.declared.status.Status.{Status}
use Rattle.pn_status.specs.declared.status.Status.TheVariants.{Memory, Manifest as BadManifest, NotYet}
use Rattle.pn_cmd.specs.World.{World}
use Rattle.pn_cmd.specs.Points.{Refuses}
use Rattle.pn_workspace.specs.Contents.{IsText}
use Rattle.pn_cmd.specs.Manifests.{NoManifest, Declares, IsManifest, FoundIn, BytesRefused, IsWrong, project_later}

read_at : (shown : Option Tree) (p : Path) (bytes : List ℕ) (d : Data) → IfSome shown (λ t. IsText (t p) bytes) → IsObjectText bytes d → first_wrong d ≡ None → IfSome shown (λ t. IsManifest (t p) d)
read_at None p bytes d is text right = tt
read_at (Some t) p bytes d is text right = record { bytes = bytes; stands = is; text = text; right = right }

-- a manifest that the bytes say is the one that stands where they were read
found_at : (m : Manifest) (shown : Option Tree) (p : Path) (bytes : List ℕ) → length (path_text p) ≤ PATH_LIMIT → IfSome shown (λ t. IsText (t p) bytes) → FoundIn bytes m → Declares shown p (said_of m)
found_at m shown p bytes fits is h = record {
  value = h.0;
  manifest = record { fits = fits; read = read_at shown p bytes h.0 is h.1 h.2; right = h.2; built = h.3 };
  says = h.4;
}

pub found_ok : (r : Result Manifest Status) (shown : Option Tree) (p q : Path) (bytes slice : List ℕ) → length (path_text q) ≤ PATH_LIMIT → IfSome shown (λ t. IsText (t p) bytes) → slice ≡ bytes → p ≡ q → IfOk r (FoundIn slice) → IfOk r (λ m. Declares shown q (said_of m))
found_ok (Err s) shown p q bytes slice fits is same at h = tt
found_ok (Ok m) shown p q bytes slice fits is same at h = found_at m shown q bytes fits (subst (λ x. IfSome shown (λ t. IsText (t x) bytes)) at is) (subst (λ b. FoundIn b m) same h)

wrong_at : (why : ManifestWhy) (shown : Option Tree) (p : Path) (bytes : List ℕ) → IfSome shown (λ t. IsText (t p) bytes) → WrongBytes bytes why → IfSome shown (λ t. IsWrong (t p) why)
wrong_at why None p bytes is h = tt
wrong_at Missing (Some t) p bytes is h = absurd h
wrong_at NotJson (Some t) p bytes is h = (bytes, is, h)
wrong_at (BadField f k) (Some t) p bytes is h = (bytes, h.0, is, h.1, h.2)

later_at : (key : List ℕ) (shown : Option Tree) (p : Path) (bytes : List ℕ) (d : Data) → IfSome shown (λ t. IsText (t p) bytes) → IsObjectText bytes d → first_wrong d ≡ None → project_later d ≡ Some key
    → IfSome shown (λ t. (d : Data) × IsManifest (t p) d × (project_later d ≡ Some key))
later_at key None p bytes d is text right later = tt
later_at key (Some t) p bytes d is text right later = (d, record { bytes = bytes; stands = is; text = text; right = right }, later)

refused_at : (s : Status) (old new : World) (p : Path) (bytes : List ℕ) → length (path_text p) ≤ PATH_LIMIT → IfSome old.project.tree (λ t. IsText (t p) bytes) → BytesRefused p bytes s → Refuses (NoManifest p) old new s
refused_at Memory old new p bytes fits is h = tt
refused_at (BadManifest text (of_manifest why)) old new p bytes fits is h = (fits, h.0, wrong_at why old.project.tree p bytes is h.1)
refused_at (NotYet key) old new p bytes fits is h = (fits, later_at key old.project.tree p bytes h.0 is h.1 h.2 h.3)
refused_at s old new p bytes fits is h = absurd h

pub refused_err : (r : Result Manifest Status) (old new : World) (p q : Path) (bytes slice : List ℕ) → length (path_text q) ≤ PATH_LIMIT → IfSome old.project.tree (λ t. IsText (t p) bytes) → slice ≡ bytes → p ≡ q → IfErr r (BytesRefused p slice) → IfErr r (Refuses (NoManifest q) old new)
refused_err (Ok m) old new p q bytes slice fits is same at h = tt
refused_err (Err s) old new p q bytes slice fits is same at h = refused_at s old new q bytes fits (subst (λ x. IfSome old.project.tree (λ t. IsText (t x) bytes)) at is) (subst (λ x. BytesRefused x bytes s) at (subst (λ b. BytesRefused p b s) same h))
