-- The lines of a listing's text.
use Rattle.std.specs.Prelude.{◌≡◌, ℕ, List, ◌∷◌, [], ◌++◌, length, false}
use Rattle.std.specs.List.{Contains}
use Rattle.pn_text.specs.Path.{Path}
use Rattle.pn_text.specs.declared.fault.PathFault.{PathFault}
use Rattle.pn_text.specs.declared.fault.PathFault.TheVariants.{NotAbsolute, BadPart, Long, Memory}
use Rattle.pn_digest.specs.declared.fault.ListingFault.{ListingFault}
use Rattle.pn_digest.specs.declared.fault.ListingFault.TheVariants.{NotListing, Memory as no_memory}
use Rattle.pn_digest.specs.Listing.{Entry, IsEntry, IsRelPath, rel_text, has_feed, line_text, listing_text}

-- The bytes are a line, its line feed and what stands behind.
pub record IsCut (bytes line rest : List ℕ) : Type 0 where
  pub whole : bytes ≡ line ++ 10 ∷ rest
  pub flat : has_feed line ≡ false

-- The line has 128 bytes, a space and what stands behind.
pub record HasParts (line digits path : List ℕ) : Type 0 where
  pub whole : line ≡ digits ++ 32 ∷ path
  pub sized : length digits ≡ 128

-- the bytes are a path's text
abbrev pub IsPathText : List ℕ → Type 0
IsPathText bytes = (p : Path) × IsRelPath p × (bytes ≡ rel_text p)

-- what the refusal of a path is for its line
abbrev pub line_fault : PathFault → ListingFault
line_fault NotAbsolute = NotListing
line_fault (BadPart at) = NotListing
line_fault Long = NotListing
line_fault Memory = no_memory

-- the line is that of a file
abbrev pub IsFileLine : List ℕ → Type 0
IsFileLine line = (e : Entry) × IsEntry e × (line ≡ line_text e)

-- the first line is that of a file
abbrev pub BeginsWithFile : List ℕ → Type 0
BeginsWithFile bytes = (e : Entry) × (rest : List ℕ) × IsEntry e × (bytes ≡ line_text e ++ 10 ∷ rest)

-- each of them is a path that may be listed, with a digest
abbrev pub AreEntries : List Entry → Type 0
AreEntries es = (e : Entry) → Contains es e → IsEntry e

-- the lines are those of files
abbrev pub AreFileLines : List ℕ → Type 0
AreFileLines bytes = (es : List Entry) × AreEntries es × (bytes ≡ listing_text es)

-- One more file was taken from the bytes.
pub record TakesFile (old new : List Entry) (bytes rest : List ℕ) : Type 0 where
  pub file : Entry
  pub entry : IsEntry file
  pub taken : new ≡ old ++ file ∷ []
  pub whole : bytes ≡ line_text file ++ 10 ∷ rest
