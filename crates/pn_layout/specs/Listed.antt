-- Packages with their listings.
use Rattle.std.specs.Prelude.{List, map, IsPermutation}
use Rattle.std.specs.Cmp.Lexicographic.{slice_cmp}
use Rattle.std.specs.List.{AllZip}
use Rattle.std.specs.List.Sorted.{IsStrictlySortedBy}
use Rattle.std.specs.Ordering.{nat_cmp}
use Rattle.pn_digest.specs.Listing.{Entry, IsListing}
use Rattle.pn_package.specs.declared.packages.Package.{Package}

-- a package, and its files by content
abbrev pub Listed : Type 0
Listed = Package × List Entry

-- A listing of exactly the package's files.
pub record HasListing (p : Package) (es : List Entry) : Type 0 where
  pub listing : IsListing es
  pub files : IsPermutation p.files.items (map (λ (e : Entry). e.0) es)

-- The packages stand in byte order of ids, each once, and the listings are theirs, in their order.
pub record AreOfPackages (packages : List Package) (listings : List (List Entry)) : Type 0 where
  pub rising : IsStrictlySortedBy (slice_cmp nat_cmp) (map (λ (p : Package). p.id) packages)
  pub each : AllZip HasListing packages listings
