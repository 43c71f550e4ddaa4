-- What a put of a file leaves.
use Rattle.std.specs.Prelude.{◌≡◌, ◌≢◌, ◌⊎◌, ◌≤◌, ◌<◌, ℕ, List, Option, IfSome, Some, None, length}
use Rattle.sha2.specs.Sha512.{sha512}
use Rattle.pn_text.specs.declared.limits.TheConstants.{FILE_LIMIT}
use Rattle.pn_text.specs.Path.{Path}
use Rattle.pn_fs.specs.Tree.{Entry, Tree, file}
use Rattle.pn_storecore.specs.declared.step.Place.TheVariants.{Files}
use Rattle.pn_storecore.specs.declared.step.StoreStep.TheVariants.{PublishFile}
use Rattle.pn_storecore.specs.Seen.{Seen}
use Rattle.pn_storecore.specs.Held.{HasObject}
use Rattle.pn_storecore.specs.Grew.{Grew, Was}
use Rattle.pn_store.specs.Held.{HoldsFile}
use Rattle.pn_store.specs.Own.{PublishedNone, PublishedAtMost}
use Rattle.pn_store.specs.Reads.{StoodThere}
use Rattle.pn_store.specs.declared.compare.Met.{Met}
use Rattle.pn_store.specs.declared.compare.Met.TheVariants as met
use Rattle.pn_store.specs.declared.files.Put.{Put}
use Rattle.pn_store.specs.declared.fault.PutFault.{PutFault}
use Rattle.pn_store.specs.declared.fault.PutFault.TheVariants.{StoreFault, Memory}

-- the source has these bytes at the path, where it is told
abbrev pub IsSource : Option Tree → Path → List ℕ → Type 0
IsSource source p bytes = IfSome source (λ r. r p ≡ Some (file bytes))

-- how many bytes the file that stands there has
abbrev pub file_length : Option Entry → ℕ
file_length (Some (file bytes)) = length bytes
file_length e = 0

-- What was read at the address before a put published there: nothing, the source's bytes, bytes of another digest, or
-- more than the limit. So no other bytes than the source's that have the address as digest.
pub data IsMet (source : Option Tree) (p : Path) (at : List ℕ) (old new : Seen) : Type 0 where
  absent : Was Files at None old new → IsMet source p at old new
  same : (stored : List ℕ) → IsSource source p stored → StoodThere Files at stored old new → IsMet source p at old new
  other : (stored : List ℕ) → sha512 stored ≢ at → StoodThere Files at stored old new → IsMet source p at old new
  long : (stored : List ℕ) → FILE_LIMIT < length stored → StoodThere Files at stored old new → IsMet source p at old new

-- It was met before this installer moved something to an address.
pub record MetFirst (source : Option Tree) (p : Path) (at : List ℕ) (old new : Seen) : Type 0 where
  pub mid : Seen
  pub unpublished : PublishedNone old mid
  pub later : Grew mid new
  pub met : IsMet source p at old mid

-- the same, by what the comparison answers
abbrev pub IsFound : Option Tree → Path → List ℕ → Seen → Seen → Met → Type 0
IsFound source p at old new met.Absent = Was Files at None old new
IsFound source p at old new met.Same = (stored : List ℕ) × IsSource source p stored × StoodThere Files at stored old new
IsFound source p at old new (met.Other d) = (stored : List ℕ) × (sha512 stored ≡ d) × IfSome source (λ r. r p ≢ Some (file stored)) × StoodThere Files at stored old new
IsFound source p at old new met.Long = (stored : List ℕ) × (FILE_LIMIT < length stored) × StoodThere Files at stored old new

-- At a step between, the source's bytes stood at the address that they have, and something stands there now.
pub record IsPut (source : Option Tree) (p : Path) (old new : Seen) (put : Put) : Type 0 where
  pub bytes : List ℕ
  pub digest : put.digest ≡ sha512 bytes
  pub size : put.length ≡ length bytes
  pub short : length bytes ≤ FILE_LIMIT
  pub from : IsSource source p bytes
  pub met : MetFirst source p put.digest old new
  pub was : Was Files put.digest (Some bytes) old new
  pub stands : HasObject new Files put.digest

-- Nothing was published, or at most the source's bytes, at the address that they have.
abbrev pub PutAtMost : Option Tree → Path → ℕ → Seen → Seen → Type 0
PutAtMost source p k old new = PublishedNone old new ⊎ ((bytes : List ℕ) × IsSource source p bytes × PublishedAtMost (PublishFile k 0 (sha512 bytes)) old new)

-- what a refused put published: nothing, but where a call of the store failed or memory was wanted
abbrev pub PutLeft : Option Tree → Path → ℕ → Seen → Seen → PutFault → Type 0
PutLeft source p k old new StoreFault = PutAtMost source p k old new
PutLeft source p k old new Memory = PutAtMost source p k old new
PutLeft source p k old new e = PublishedNone old new

-- The file of a held folder has the source's bytes, and the put tells their digest and length.
pub record IsFilled (source : Option Tree) (p : Path) (k : ℕ) (s : Seen) (put : Put) : Type 0 where
  pub bytes : List ℕ
  pub digest : put.digest ≡ sha512 bytes
  pub size : put.length ≡ length bytes
  pub short : length bytes ≤ FILE_LIMIT
  pub from : IsSource source p bytes
  pub holds : HoldsFile s k (Some bytes)

-- a file of at most 268,435,456 bytes
pub record IsShortFile (r : Tree) (p : Path) : Type 0 where
  pub bytes : List ℕ
  pub stands : r p ≡ Some (file bytes)
  pub short : length bytes ≤ FILE_LIMIT

-- The source has bytes of this digest and length.
pub record HasSource (source : Option Tree) (p : Path) (at : List ℕ) (size : ℕ) : Type 0 where
  pub bytes : List ℕ
  pub digest : sha512 bytes ≡ at
  pub count : size ≡ length bytes
  pub from : IsSource source p bytes
