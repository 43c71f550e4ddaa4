-- The steps of a fetch on the store.
use Rattle.std.specs.Prelude.{◌≡◌, ◌≤◌, ℕ, ◌++◌, List, Option}
use Rattle.std.specs.List.{Contains}
use Rattle.sha2.specs.Sha512.{sha512}
use Rattle.pn_text.specs.Path.{Path}
use Rattle.pn_fs.specs.Tree.{Tree}
use Rattle.pn_fs.specs.Seen.{Seen as Source, Keeps}
use Rattle.pn_digest.specs.Listing.{Entry, listing_text}
use Rattle.pn_storecore.specs.declared.step.Place.{Place}
use Rattle.pn_storecore.specs.declared.step.Place.TheVariants.{Files, Listings}
use Rattle.pn_storecore.specs.declared.step.StoreStep.{StoreStep}
use Rattle.pn_storecore.specs.declared.step.StoreStep.TheVariants.{Claim, Create, Append, Shard, PublishFile, PublishListing, DropTemp, Read, Discard}
use Rattle.pn_storecore.specs.World.{first_byte}
use Rattle.pn_storecore.specs.Seen.{Seen}
use Rattle.pn_storecore.specs.Grew.{Grew}
use Rattle.pn_store.specs.Held.{Works}
use Rattle.pn_store.specs.Leaves.{LeavesOthers}
use Rattle.pn_store.specs.Own.{Made}
use Rattle.pn_store.specs.Puts.{IsSource}
use Rattle.pn_package.specs.declared.packages.Package.{Package}
use Rattle.pn_fetch.specs.Listings.{IsListingOf}

-- the place of a file of one of the packages in the registry
abbrev pub IsPlaceOf : List Package → Path → Type 0
IsPlaceOf packages q = (p : Package) × Contains packages p × ((f : Path) × Contains p.files.items f × (q ≡ f ++ p.folder))

-- the address of the bytes of a file of one of the packages, which are the registry's where that is told
abbrev pub IsFileAt : Option Tree → List Package → List ℕ → Type 0
IsFileAt r packages at = (q : Path) × IsPlaceOf packages q × ((bytes : List ℕ) × IsSource r q bytes × (at ≡ sha512 bytes))

-- the address of a listing of one of the packages
abbrev pub IsListingAt : Option Tree → List Package → List ℕ → Type 0
IsListingAt r packages at = (p : Package) × Contains packages p × ((es : List Entry) × IsListingOf r p es × (at ≡ sha512 (listing_text es)))

-- the first byte of such an address, which names its shard folder
abbrev pub IsFirstOf : Option Tree → List Package → Place → ℕ → Type 0
IsFirstOf r packages Files first = (at : List ℕ) × IsFileAt r packages at × (first ≡ first_byte at)
IsFirstOf r packages Listings first = (at : List ℕ) × IsListingAt r packages at × (first ≡ first_byte at)

-- The step claims a number, drops its folder or a file in it, is on file 0 of it, or reads. What it moves to an address is a
-- file or the listing of one of the packages, and a shard folder that it makes is that of such an address.
abbrev pub IsFetchStep : Option Tree → List Package → StoreStep → Type 0
IsFetchStep r packages (Claim k) = Unit {0}
IsFetchStep r packages (Create k n) = n ≡ 0
IsFetchStep r packages (Append k n more) = n ≡ 0
IsFetchStep r packages (Shard place first) = IsFirstOf r packages place first
IsFetchStep r packages (PublishFile k n at) = (n ≡ 0) × IsFileAt r packages at
IsFetchStep r packages (PublishListing k n at) = (n ≡ 0) × IsListingAt r packages at
IsFetchStep r packages (DropTemp k n) = Unit {0}
IsFetchStep r packages Read = Unit {0}
IsFetchStep r packages (Discard taken) = ⊥

-- Whatever calls that put these packages under a number answered.
pub record Fetches (packages : List Package) (k : ℕ) (from gone : Source) (old new : Seen) : Type 0 where
  pub works : Works k old new
  pub own : Made (IsFetchStep from.tree packages) old new
  pub registry : Keeps from gone

-- The same of calls that drop the number too.
pub record Ends (packages : List Package) (k : ℕ) (from gone : Source) (old new : Seen) : Type 0 where
  pub own : Made (IsFetchStep from.tree packages) old new
  pub others : LeavesOthers k old new
  pub grew : Grew old new
  pub later : old.faults ≤ new.faults
  pub registry : Keeps from gone
