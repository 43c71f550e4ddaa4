-- Whether what is planned stands at a path.
use Rattle.std.specs.Prelude.{◌≡◌, ◌≤◌, ℕ, List, length, Option, Some}
use Rattle.pn_text.specs.Path.{Path}
use Rattle.sha2.specs.Sha512.{sha512}
use Rattle.pn_text.specs.declared.limits.TheConstants.{FILE_LIMIT}
use Rattle.pn_fs.specs.Tree.{Entry, folder, file, link, Tree}
use Rattle.pn_digest.specs.declared.planned.Planned.{Planned}
use Rattle.pn_digest.specs.declared.planned.Planned.TheVariants.{Folder, Bytes, Stored, Link}

-- What is planned stands there; of a stored file, one of at most 268,435,456 bytes with that SHA-512.
abbrev pub StandsAs : Planned → Option Entry → Type 0
StandsAs Folder o = o ≡ Some folder
StandsAs (Bytes text) o = o ≡ Some (file text)
StandsAs (Stored d) o = (bytes : List ℕ) × (o ≡ Some (file bytes)) × (sha512 bytes ≡ d) × (length bytes ≤ FILE_LIMIT)
StandsAs (Link text) o = o ≡ Some (link text)

-- No file has to come from the store: another entry is planned, or the file stands in the tree that is told.
abbrev pub NeedsNoFile : Planned → Path → Option Tree → Type 0
NeedsNoFile (Stored d) p shown = (t : Tree) × (shown ≡ Some t) × StandsAs (Stored d) (t p)
NeedsNoFile w p shown = Unit {0}
