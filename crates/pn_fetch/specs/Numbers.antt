-- What a fetch leaves of an installer's numbers.
use Rattle.std.specs.Prelude.{◌≡◌, ◌≢◌, ◌⊎◌, ℕ, List, Option}
use Rattle.std.specs.List.{All}
use Rattle.pn_text.specs.Causes.{Rose}
use Rattle.pn_fs.specs.Tree.{Tree}
use Rattle.pn_digest.specs.Listing.{Entry}
use Rattle.pn_storecore.specs.Seen.{Seen}
use Rattle.pn_storecore.specs.Held.{Holds, IsFree, TempFiles}
use Rattle.pn_storecore.specs.Grew.{TookNone}
use Rattle.pn_store.specs.Held.{IsHeld}
use Rattle.pn_store.specs.Claims.{OnlyClaims}
use Rattle.pn_package.specs.declared.packages.Package.{Package}
use Rattle.pn_fetch.specs.declared.fault.FetchFault.{FetchFault}
use Rattle.pn_fetch.specs.declared.fault.FetchFault.TheVariants.{StoreFault, NumbersFull, Memory}
use Rattle.pn_fetch.specs.Listings.{AreListingsOf, IsStored}

-- No step between made the folder of another number for this installer, and other folders that were held are as they were.
pub record LeavesBut (k : ℕ) (old new : Seen) : Type 0 where
  pub took : (j : ℕ) → j ≢ k → TookNone j old new
  pub held : (j : ℕ) (files : TempFiles) → j ≢ k → Holds old j files → Holds new j files

-- the same, with no number aside
pub record TookNothing (old new : Seen) : Type 0 where
  pub took : (j : ℕ) → TookNone j old new
  pub held : (j : ℕ) (files : TempFiles) → Holds old j files → Holds new j files

-- No number was taken, or one, of which this is so now.
abbrev pub TookOne : (ℕ → Type 0) → Seen → Seen → Type 0
TookOne P old new = TookNothing old new ⊎ ((k : ℕ) × P k × LeavesBut k old new)

-- the number that was taken is free again
abbrev pub IsReleased : Seen → Seen → Type 0
IsReleased old new = TookOne (IsFree new) old new

-- a number that is free, or for a cause held
abbrev pub IsFreeUnless : Type 0 → Seen → ℕ → Type 0
IsFreeUnless Cause s k = IsFree s k ⊎ (IsHeld s k × Cause)

-- the number that was taken is free again, or for a cause still held
abbrev pub LeavesOne : Type 0 → Seen → Seen → Type 0
LeavesOne Cause old new = TookOne (IsFreeUnless Cause new) old new

-- why a release may leave its number taken: a call of the store failed in it, or there was no memory
abbrev pub IsHeldBack : Seen → Seen → FetchFault → Type 0
IsHeldBack old new e = Rose old.faults new.faults ⊎ (e ≡ Memory)

-- two calls of the store failed
abbrev pub FailedTwice : Seen → Seen → Type 0
FailedTwice old new = (n : ℕ) × Rose old.faults n × Rose n new.faults

-- The listing of each package and its files are in the store, and a call of the store failed.
pub record PutThenFailed (r : Option Tree) (packages : List Package) (old new : Seen) : Type 0 where
  pub listings : List (List Entry)
  pub right : AreListingsOf r packages listings
  pub stored : All (IsStored new) listings
  pub failed : Rose old.faults new.faults

-- A call of the store failed, and nothing but claims was tried.
pub record ClaimFailed (old new : Seen) : Type 0 where
  pub only : OnlyClaims old new
  pub failed : Rose old.faults new.faults

-- Why packages that weren't put may leave their number taken. Behind a call of the store that failed a second one did, or the
-- release alone failed, with all packages put. Behind another refusal a call of the store failed too, or there was no memory.
abbrev pub IsUnreleased : Option Tree → List Package → Seen → Seen → FetchFault → Type 0
IsUnreleased r packages old new StoreFault = FailedTwice old new ⊎ PutThenFailed r packages old new
IsUnreleased r packages old new NumbersFull = ⊥
IsUnreleased r packages old new Memory = Unit {0}
IsUnreleased r packages old new e = Rose old.faults new.faults

-- why a fetch that is refused may leave its number taken: so too, or the claim failed
abbrev pub IsStuck : Option Tree → List Package → Seen → Seen → FetchFault → Type 0
IsStuck r packages old new StoreFault = IsUnreleased r packages old new StoreFault ⊎ ClaimFailed old new
IsStuck r packages old new e = IsUnreleased r packages old new e
