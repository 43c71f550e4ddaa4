-- The files of packages, which are put one after the other.
use Rattle.std.specs.Prelude.{◌≤◌, ◌++◌, ℕ, List, map, Option, Some, length}
use Rattle.std.specs.List.{flat_map, sum_by}
use Rattle.sha2.specs.Sha512.{sha512}
use Rattle.pn_text.specs.Path.{Path}
use Rattle.pn_text.specs.declared.limits.TheConstants.{FILE_LIMIT}
use Rattle.pn_fs.specs.Tree.{Tree}
use Rattle.pn_digest.specs.Listing.{Entry, listing_text}
use Rattle.pn_storecore.specs.declared.step.Place.TheVariants.{Files, Listings}
use Rattle.pn_storecore.specs.Seen.{Seen}
use Rattle.pn_storecore.specs.Grew.{Was}
use Rattle.pn_store.specs.Puts.{IsMet, IsSource, file_length}
use Rattle.pn_package.specs.declared.packages.Package.{Package}

-- the places of a package's files in the registry, in their order
abbrev pub places_of : Package → List Path
places_of p = map (λ f. f ++ p.folder) p.files.items

-- those of each package's files, in the packages' order
abbrev pub places : List Package → List Path
places packages = flat_map places_of packages

-- how many bytes the files at these places have
abbrev pub bytes_at : Tree → List Path → ℕ
bytes_at t all = sum_by (λ q. file_length (t q)) all

-- The file at a place was put: its bytes, which are not too many, stood at their address at a step between, where no other
-- bytes with their digest had been read.
pub record WasPut (r : Option Tree) (old new : Seen) (q : Path) : Type 0 where
  pub bytes : List ℕ
  pub short : length bytes ≤ FILE_LIMIT
  pub from : IsSource r q bytes
  pub met : IsMet r q (sha512 bytes) old new
  pub was : Was Files (sha512 bytes) (Some bytes) old new

-- the listing was put: its text stood at its address at a step between
abbrev pub WasListed : Seen → Seen → List Entry → Type 0
WasListed old new es = Was Listings (sha512 (listing_text es)) (Some (listing_text es)) old new
