-- What an installer knows after a call, and which call it may make next.
use Rattle.std.specs.Prelude.{◌≡◌, ◌≢◌, ◌⊎◌, ℕ, ◌≤◌, Bool, List, length, take, Option, Some, None, Result, IfOk, OnOk, OnErr, IfSome, Vec}
use Rattle.std.specs.Bool.{OnTrue, OnFalse}
use Rattle.std.specs.List.{Contains}
use Rattle.std.specs.Global.{Global}
use Rattle.sha2.specs.Sha512.{sha512}
use Rattle.pn_text.specs.declared.fault.DevFault.{DevFault}
use Rattle.pn_digest.specs.Listing.{IsListingText, Names}
use Rattle.pn_storecore.specs.declared.step.Place.{Place}
use Rattle.pn_storecore.specs.declared.step.Place.TheVariants.{Files, Listings}
use Rattle.pn_storecore.specs.declared.step.StoreStep.{StoreStep}
use Rattle.pn_storecore.specs.declared.step.StoreStep.TheVariants as step
use Rattle.pn_storecore.specs.World.{objects, first_byte}
use Rattle.pn_storecore.specs.Stored.{IsStoredFile}
use Rattle.pn_storecore.specs.Sound.{MayStand}
use Rattle.pn_storecore.specs.Seen.{Seen, Keeps, Asks, fresh}
use Rattle.pn_storecore.specs.Calls.{Answers, Does, Appends, IsClaim, IsRead, AreAddresses, AreNumbersOf}
use Rattle.pn_storecore.specs.Held.{Holds, HasShard, HasObject, HasBytes, HasDigest, IsFree, IsSoundStore, IsAddressedStore, IsIn, Spares, files_after, files_with, no_files, TempFiles}
use Rattle.pn_storecore.specs.Grew.{Did, Grew, Stood, Took, TookNone, Was, ReadTo}

-- What an installer holds and knows lets it make a step.
pub record AsksLaw : Type 0 where
  pub create : (s : Seen) (k n : ℕ) (files : TempFiles) → Holds s k files → files n ≡ None → Asks s (step.Create k n)
  pub append : (s : Seen) (k n : ℕ) (more bytes : List ℕ) (files : TempFiles) → Holds s k files → files n ≡ Some bytes → Asks s (step.Append k n more)
  pub publish_file : (s : Seen) (k n : ℕ) (at bytes : List ℕ) (files : TempFiles) → Holds s k files → files n ≡ Some bytes → IsStoredFile at bytes → HasShard s Files (first_byte at) → Asks s (step.PublishFile k n at)
  pub publish_listing : (s : Seen) (k n : ℕ) (at bytes : List ℕ) (files : TempFiles) → Holds s k files → files n ≡ Some bytes → sha512 bytes ≡ at → IsListingText bytes
      → ((file : List ℕ) → Names bytes file → HasObject s Files file) → HasShard s Listings (first_byte at) → Asks s (step.PublishListing k n at)
  pub drop_file : (s : Seen) (k n : ℕ) (files : TempFiles) → Holds s k files → Asks s (step.DropTemp k (Some n))
  pub drop_folder : (s : Seen) (k : ℕ) (files : TempFiles) → Holds s k files → ((n : ℕ) → files n ≡ None) → Asks s (step.DropTemp k None)

-- What a call leaves in the installer's folder of a number. After a refusal the step was made or not,
-- and of an append a front. A folder that was dropped is gone.
pub record HoldsLaw : Type 0 where
  pub claimed : (old new : Seen) (k : ℕ) (result : Result Bool DevFault) → Keeps old new → Answers old (step.Claim k) new result (IsClaim k) → IfOk result (λ free. OnTrue free (Holds new k no_files))
  pub made : (old new : Seen) (own : StoreStep) (k : ℕ) (files : TempFiles) (result : Result (Unit {0}) DevFault) → Keeps old new → IsIn k own → Does old own new result → Holds old k files
      → OnOk result (Holds new k (files_after own files))
  pub refused : (old new : Seen) (own : StoreStep) (k : ℕ) (files : TempFiles) (result : Result (Unit {0}) DevFault) → Keeps old new → IsIn k own → Does old own new result → Holds old k files
      → OnErr result (Holds new k files ⊎ Holds new k (files_after own files))
  pub appended : (old new : Seen) (k n : ℕ) (more : List ℕ) (files : TempFiles) (result : Result (Unit {0}) DevFault) → Keeps old new → Appends old k n more new result → Holds old k files
      → OnOk result (Holds new k (files_after (step.Append k n more) files))
  pub append_refused : (old new : Seen) (k n : ℕ) (more : List ℕ) (files : TempFiles) (result : Result (Unit {0}) DevFault) → Keeps old new → Appends old k n more new result → Holds old k files
      → OnErr result (Holds new k files ⊎ ((i : ℕ) × (i ≤ length more) × Holds new k (files_after (step.Append k n (take i more)) files)))
  pub freed : (old new : Seen) (k : ℕ) (result : Result (Unit {0}) DevFault) → Keeps old new → Does old (step.DropTemp k None) new result → OnOk result (IsFree new k)
  pub free_refused : (old new : Seen) (k : ℕ) (files : TempFiles) (result : Result (Unit {0}) DevFault) → Keeps old new → Does old (step.DropTemp k None) new result → Holds old k files
      → OnErr result (Holds new k files ⊎ IsFree new k)
  pub again : (files : TempFiles) (n : ℕ) (old new : Option (List ℕ)) → files_with (files_with files n old) n new ≡ files_with files n new
  pub emptied : (n : ℕ) → files_with no_files n None ≡ no_files

-- What stands after a call that was not refused: what it made, published, or found. In a store that isn't
-- damaged, what stands has its address as digest.
pub record StandsLaw : Type 0 where
  pub shard : (old new : Seen) (place : Place) (first : ℕ) (result : Result (Unit {0}) DevFault) → Keeps old new → Does old (step.Shard place first) new result → OnOk result (HasShard new place first)
  pub file : (old new : Seen) (k n : ℕ) (at bytes : List ℕ) (files : TempFiles) (result : Result (Unit {0}) DevFault) → Keeps old new → Does old (step.PublishFile k n at) new result → Holds old k files → files n ≡ Some bytes
      → OnOk result (HasBytes new Files at bytes)
  pub listing : (old new : Seen) (k n : ℕ) (at bytes : List ℕ) (files : TempFiles) (result : Result (Unit {0}) DevFault) → Keeps old new → Does old (step.PublishListing k n at) new result → Holds old k files → files n ≡ Some bytes
      → OnOk result (HasBytes new Listings at bytes)
  pub read : (old new : Seen) (place : Place) (at : List ℕ) (from : ℕ) (into : List ℕ) (result : Result (Option ℕ) DevFault) → Keeps old new → Answers old step.Read new result (λ w found. IsRead ((objects w place).bytes at) from into found)
      → IfOk result (λ found. IfSome found (λ n. HasObject new place at))
  pub list : (old new : Seen) (place : Place) (result : Result (Vec (List ℕ) Global) DevFault) → Keeps old new → Answers old step.Read new result (λ w all. AreAddresses (objects w place) all.items)
      → IfOk result (λ all. (at : List ℕ) → Contains all.items at → HasObject new place at)
  pub object : (s : Seen) (place : Place) (at bytes : List ℕ) → HasBytes s place at bytes → HasObject s place at
  pub digest : (s : Seen) (place : Place) (at : List ℕ) → IsAddressedStore s → HasObject s place at → HasDigest s place at

-- What each call did to the journal, whatever it answered.
pub record DidLaw : Type 0 where
  pub claim : (old new : Seen) (k : ℕ) (result : Result Bool DevFault) → Keeps old new → Answers old (step.Claim k) new result (IsClaim k) → Did (step.Claim k) old new
  pub does : (old new : Seen) (own : StoreStep) (result : Result (Unit {0}) DevFault) → Keeps old new → Does old own new result → Did own old new
  pub append : (old new : Seen) (k n : ℕ) (more : List ℕ) (result : Result (Unit {0}) DevFault) → Keeps old new → Appends old k n more new result → Did (step.Append k n more) old new
  pub read : (old new : Seen) (place : Place) (at : List ℕ) (from : ℕ) (into : List ℕ) (result : Result (Option ℕ) DevFault) → Keeps old new
      → Answers old step.Read new result (λ w found. IsRead ((objects w place).bytes at) from into found) → Did step.Read old new
  pub list : (old new : Seen) (place : Place) (result : Result (Vec (List ℕ) Global) DevFault) → Keeps old new → Answers old step.Read new result (λ w all. AreAddresses (objects w place) all.items) → Did step.Read old new
  pub numbers : (old new : Seen) (result : Result (Vec ℕ Global) DevFault) → Keeps old new → Answers old step.Read new result (λ w all. AreNumbersOf w.temps all.items) → Did step.Read old new

-- A call leaves the held folders that its step is not on.
abbrev pub LeavesLaw : Type 0
LeavesLaw = (old new : Seen) (own : StoreStep) (k : ℕ) (files : TempFiles) → Did own old new → Spares k own → Holds old k files → Holds new k files

-- Calls that are asked for grow the journal by lawful steps, and what stands keeps standing in it.
pub record GrewLaw : Type 0 where
  pub none : (s : Seen) → Grew s s
  pub both : (a b c : Seen) → Grew a b → Grew b c → Grew a c
  pub call : (old new : Seen) (own : StoreStep) → Asks old own → Did own old new → Grew old new
  pub shard : (old new : Seen) (place : Place) (first : ℕ) → Grew old new → HasShard old place first → HasShard new place first
  pub object : (old new : Seen) (place : Place) (at : List ℕ) → Grew old new → HasObject old place at → HasObject new place at
  pub sound : (old new : Seen) → Grew old new → IsSoundStore old → IsSoundStore new
  pub at_first : (me : ℕ) → IsSoundStore (fresh me)
  pub digests : (s : Seen) → IsSoundStore s → IsAddressedStore s
  pub addressed : (old new : Seen) → Grew old new → IsAddressedStore old → IsAddressedStore new

-- Whose step made a number's folder. A claim that answers true made it, and one that answers false
-- found it. After a refusal it was made, or no step of the installer's made it.
pub record ClaimsLaw : Type 0 where
  pub took : (old new : Seen) (k : ℕ) (result : Result Bool DevFault) → Keeps old new → Answers old (step.Claim k) new result (IsClaim k) → IfOk result (λ free. OnTrue free (Took k old new))
  pub stood : (old new : Seen) (k : ℕ) (result : Result Bool DevFault) → Keeps old new → Answers old (step.Claim k) new result (IsClaim k) → IfOk result (λ free. OnFalse free (Stood k old new))
  pub found : (old new : Seen) (k : ℕ) (result : Result Bool DevFault) → Keeps old new → Answers old (step.Claim k) new result (IsClaim k) → IfOk result (λ free. OnFalse free (TookNone k old new))
  pub refused : (old new : Seen) (k : ℕ) (result : Result Bool DevFault) → Keeps old new → Answers old (step.Claim k) new result (IsClaim k) → OnErr result (Holds new k no_files ⊎ TookNone k old new)
  pub other : (old new : Seen) (own : StoreStep) (k : ℕ) → Did own old new → own ≢ step.Claim k → TookNone k old new
  pub none : (s : Seen) (k : ℕ) → TookNone k s s
  pub both : (a b c : Seen) (k : ℕ) → TookNone k a b → TookNone k b c → TookNone k a c
  pub stood_before : (a b c : Seen) (k : ℕ) → Grew a b → Stood k b c → Stood k a c
  pub stood_behind : (a b c : Seen) (k : ℕ) → Stood k a b → Grew b c → Stood k a c
  pub took_before : (a b c : Seen) (k : ℕ) → Grew a b → Took k b c → Took k a c
  pub took_behind : (a b c : Seen) (k : ℕ) → Took k a b → Grew b c → Took k a c

-- What stood at an address at a step of some calls: what a read found, and what stands at their end. Where the
-- store wasn't damaged at their entry, it had the address as digest.
pub record WasLaw : Type 0 where
  pub read : (old new : Seen) (place : Place) (at : List ℕ) (from : ℕ) (into : List ℕ) (result : Result (Option ℕ) DevFault) → Keeps old new → Answers old step.Read new result (λ w found. IsRead ((objects w place).bytes at) from into found)
      → IfOk result (λ found. IfSome old.journal (λ j. ReadTo place at from into found j new.journal))
  pub now : (old new : Seen) (place : Place) (at bytes : List ℕ) → Grew old new → HasBytes new place at bytes → Was place at (Some bytes) old new
  pub before : (a b c : Seen) (place : Place) (at : List ℕ) (bytes : Option (List ℕ)) → Grew a b → Was place at bytes b c → Was place at bytes a c
  pub behind : (a b c : Seen) (place : Place) (at : List ℕ) (bytes : Option (List ℕ)) → Was place at bytes a b → Grew b c → Was place at bytes a c
  pub digest : (old new : Seen) (place : Place) (at bytes : List ℕ) → Grew old new → IsAddressedStore old → Was place at (Some bytes) old new → IfSome old.journal (λ j. MayStand place at bytes)
