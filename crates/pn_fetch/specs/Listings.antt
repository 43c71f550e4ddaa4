-- The listings of packages, and what a store has of them.
use Rattle.std.specs.Prelude.{◌≡◌, ◌≤◌, ◌++◌, ℕ, List, [], false, length, map, Option, IsPermutation}
use Rattle.std.specs.Cmp.Lexicographic.{slice_cmp}
use Rattle.std.specs.List.{AllZip, Contains, list_any}
use Rattle.std.specs.List.Sorted.{IsStrictlySortedBy}
use Rattle.std.specs.Ordering.{nat_cmp}
use Rattle.sha2.specs.Sha512.{sha512}
use Rattle.pn_text.specs.Path.{Path, path_text, text_below}
use Rattle.pn_text.specs.declared.limits.TheConstants.{FILE_LIMIT, PATH_LIMIT}
use Rattle.pn_fs.specs.Tree.{Tree}
use Rattle.pn_digest.specs.Listing.{Entry, IsListing, has_feed, listing_text}
use Rattle.pn_storecore.specs.declared.step.Place.TheVariants.{Files, Listings}
use Rattle.pn_storecore.specs.Seen.{Seen}
use Rattle.pn_storecore.specs.Held.{HasObject}
use Rattle.pn_store.specs.Puts.{IsSource}
use Rattle.pn_package.specs.declared.packages.Package.{Package}

-- Paths that a listing may have: they rise in byte order, none is a folder of another one, and no part has a line feed.
pub record AreListable (files : List Path) : Type 0 where
  pub rising : IsStrictlySortedBy (slice_cmp nat_cmp) (map text_below files)
  pub apart : (s f : Path) → Contains files f → Contains files (s ++ f) → s ≡ []
  pub lines : (f : Path) → Contains files f → list_any has_feed f ≡ false

-- The package's files are such, and each has a path in the registry.
pub record CanList (p : Package) : Type 0 where
  pub files : AreListable p.files.items
  pub short : (f : Path) → Contains p.files.items f → length (path_text (f ++ p.folder)) ≤ PATH_LIMIT

-- The digest is that of bytes which are not too many, and are those of the registry's file at a path, where that is told.
pub record IsDigestOf (r : Option Tree) (q : Path) (d : List ℕ) : Type 0 where
  pub bytes : List ℕ
  pub digest : d ≡ sha512 bytes
  pub short : length bytes ≤ FILE_LIMIT
  pub from : IsSource r q bytes

abbrev pub path_of : Entry → Path
path_of e = e.0

-- A listing of exactly the package's files, each with the digest of its bytes.
pub record IsListingOf (r : Option Tree) (p : Package) (es : List Entry) : Type 0 where
  pub listing : IsListing es
  pub files : IsPermutation p.files.items (map path_of es)
  pub digests : (e : Entry) → Contains es e → IsDigestOf r (e.0 ++ p.folder) e.1

-- the packages' listings, in their order
abbrev pub AreListingsOf : Option Tree → List Package → List (List Entry) → Type 0
AreListingsOf r packages listings = AllZip (IsListingOf r) packages listings

-- The listing stands at the address of its text, and each file that it names at its digest.
pub record IsStored (s : Seen) (es : List Entry) : Type 0 where
  pub listing : HasObject s Listings (sha512 (listing_text es))
  pub files : (e : Entry) → Contains es e → HasObject s Files e.1

-- The path's file was put: the digest is that of its bytes, and something stands there.
pub record IsFilePut (r : Option Tree) (folder : Path) (s : Seen) (e : Entry) : Type 0 where
  pub digest : IsDigestOf r (e.0 ++ folder) e.1
  pub stands : HasObject s Files e.1
