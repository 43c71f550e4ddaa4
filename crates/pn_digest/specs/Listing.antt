-- Listings: the files of a package, each with its digest, and their text.
use Rattle.std.specs.Prelude.{◌≡◌, ℕ, ◌≤◌, ◌==◌, Bool, true, false, List, [], ◌∷◌, ◌++◌, length, drop, map}
use Rattle.std.specs.List.{Contains, list_any}
use Rattle.std.specs.List.Sorted.{IsStrictlySortedBy}
use Rattle.std.specs.Str.{is_utf8}
use Rattle.std.specs.Cmp.Lexicographic.{slice_cmp}
use Rattle.std.specs.Ordering.{nat_cmp}
use Rattle.hex.specs.Hex.{encode_lower}
use Rattle.pn_text.specs.declared.limits.TheConstants.{PATH_LIMIT}
use Rattle.pn_text.specs.Path.{Path, text_below, SpellsParts}
use Rattle.pn_digest.specs.Digests.{IsDigest}

-- a file's path below the package's folder, and the digest of its bytes
abbrev pub Entry : Type 0
Entry = Path × List ℕ

-- the path's text, without a slash before it
abbrev pub rel_text : Path → List ℕ
rel_text p = drop 1 (text_below p)

-- 128 hex digits in lower case, a space and the path
abbrev pub line_text : Entry → List ℕ
line_text e = encode_lower e.1 ++ 32 ∷ rel_text e.0

-- the lines, each ended by a line feed
abbrev pub listing_text : List Entry → List ℕ
listing_text [] = []
listing_text (e ∷ es) = line_text e ++ 10 ∷ listing_text es

-- whether a text has a line feed
abbrev pub has_feed : List ℕ → Bool
has_feed text = list_any (λ b. b == 10) text

-- A path below some folder, of at most 4,096 bytes of UTF-8.
pub record IsRelPath (p : Path) : Type 0 where
  pub spelled : SpellsParts (rel_text p) p
  pub short : length (rel_text p) ≤ PATH_LIMIT
  pub utf8 : is_utf8 (rel_text p) ≡ true

-- Such a path without a line feed, and a digest.
pub record IsEntry (e : Entry) : Type 0 where
  pub path : IsRelPath e.0
  pub one_line : has_feed (rel_text e.0) ≡ false
  pub digest : IsDigest e.1

-- byte order of the paths' texts, each once
abbrev pub IsRising : List Entry → Type 0
IsRising es = IsStrictlySortedBy (slice_cmp nat_cmp) (map (λ (e : Entry). rel_text e.0) es)

-- no path is a folder of another one
abbrev pub AreApart : List Entry → Type 0
AreApart es = (s p : Path) (d d' : List ℕ) → Contains es (p, d) → Contains es (s ++ p, d') → s ≡ []

-- What a listing keeps.
pub record IsListing (es : List Entry) : Type 0 where
  pub entries : (e : Entry) → Contains es e → IsEntry e
  pub rising : IsRising es
  pub apart : AreApart es

-- These bytes are the text of this listing.
pub record IsTextOf (es : List Entry) (bytes : List ℕ) : Type 0 where
  pub listing : IsListing es
  pub is : bytes ≡ listing_text es

-- these bytes are the text of some listing
abbrev pub IsListingText : List ℕ → Type 0
IsListingText bytes = (es : List Entry) × IsTextOf es bytes

-- These bytes are the text of a listing that has a file with this digest.
pub record Names (bytes d : List ℕ) : Type 0 where
  pub entries : List Entry
  pub text : IsTextOf entries bytes
  pub path : Path
  pub file : Contains entries (path, d)

-- Two listings with one text are one.
abbrev pub ListingLaw : Type 0
ListingLaw = (a b : List Entry) → IsListing a → IsListing b → listing_text a ≡ listing_text b → a ≡ b
