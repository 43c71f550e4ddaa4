-- The point at which the packages' files go into the store.
use Rattle.std.specs.Prelude.{◌≡◌, ◌<◌, ◌≤◌, ◌+◌, ℕ, List, Option, None}
use Rattle.sha2.specs.Sha512.{sha512}
use Rattle.pn_text.specs.declared.limits.TheConstants.{FILE_LIMIT}
use Rattle.pn_text.specs.Path.{Path}
use Rattle.pn_fs.specs.Tree.{Tree}
use Rattle.pn_digest.specs.Listing.{Entry}
use Rattle.pn_storecore.specs.Seen.{Seen as Stored}
use Rattle.pn_storecore.specs.Grew.{Grew}
use Rattle.pn_store.specs.declared.number.TheConstants.{NUMBERS}
use Rattle.pn_store.specs.Own.{Made}
use Rattle.pn_store.specs.Puts.{IsSource}
use Rattle.pn_package.specs.declared.packages.Package.{Package}
use Rattle.pn_fetch.specs.Listings.{AreListingsOf}
use Rattle.pn_fetch.specs.Numbers.{IsStuck as IsStuckFetch}
use Rattle.pn_fetch.specs.Steps.{IsFetchStep, IsPlaceOf}
use Rattle.pn_fetch.specs.declared.fault.FetchFault.{FetchFault}
use Rattle.pn_fetch.specs.declared.fault.FetchFault.TheVariants as fault
use Rattle.pn_status.specs.declared.status.Which.TheVariants.{File, Numbers}
use Rattle.pn_status.specs.declared.status.Status.{Status}
use Rattle.pn_status.specs.declared.status.Status.TheVariants.{Memory, Limit, DigestClash, StoreFault, RegistryFault}
use Rattle.pn_cmd.specs.World.{Shown}
use Rattle.pn_cmd.specs.Points.{Point}
use Rattle.pn_cmd.specs.Known.{Sources}

-- a file of one of the packages has this digest
pub record HasDigest (registry : Option Tree) (packages : List Package) (at : List ℕ) : Type 0 where
  pub path : Path
  pub place : IsPlaceOf packages path
  pub bytes : List ℕ
  pub digest : sha512 bytes ≡ at
  pub from : IsSource registry path bytes

-- the status that tells of a refusal
abbrev pub fetch_status : FetchFault → Status
fetch_status fault.StoreFault = StoreFault
fetch_status fault.RegistryFault = RegistryFault
fetch_status fault.NumbersFull = Limit Numbers (NUMBERS + 1)
fetch_status (fault.TooLarge n) = Limit File n
fetch_status (fault.Clash at) = DigestClash at
fetch_status fault.Memory = Memory

-- Why the packages' files aren't in the store, besides what the store alone shows: a file of a registry that tells nothing
-- went on past the limit. A clash is one with a package's file.
abbrev pub Unfetched : List Package → Shown → Status → Type 0
Unfetched packages w StoreFault = Unit {0}
Unfetched packages w RegistryFault = Unit {0}
Unfetched packages w (DigestClash at) = HasDigest w.trees.registry packages at
Unfetched packages w (Limit Numbers n) = n ≡ NUMBERS + 1
Unfetched packages w (Limit File n) = (FILE_LIMIT < n) × (w.trees.registry ≡ None)
Unfetched packages w s = ⊥

abbrev pub fetched : Point Sources (List (List Entry))
fetched = record { Finds = λ k t listings. AreListingsOf t.registry k.packages listings; Cause = λ k. Unfetched k.packages }

-- why a number may stay taken where a run is refused: so may that of a fetch, by the refusal that the status tells of
abbrev pub IsStuck : Option Tree → List Package → Stored → Stored → Status → Type 0
IsStuck registry packages old new s = (e : FetchFault) × (s ≡ fetch_status e) × IsStuckFetch registry packages old new e

-- What a run did to the store, whatever it answered: its own steps put files of these packages there, and their listings.
pub record Filled (registry : Option Tree) (packages : List Package) (old new : Stored) : Type 0 where
  pub own : Made (IsFetchStep registry packages) old new
  pub grew : Grew old new
  pub later : old.faults ≤ new.faults
