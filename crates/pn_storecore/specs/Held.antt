-- What an installer holds of a told store, and what it knows to stand there.
use Rattle.std.specs.Prelude.{◌≡◌, ◌≢◌, ℕ, true, List, [], ◌++◌, Option, Some, None, nat_eq}
use Rattle.std.specs.Option.{ForSome, option_map}
use Rattle.std.specs.Map.{update}
use Rattle.sha2.specs.Sha512.{sha512}
use Rattle.pn_storecore.specs.declared.step.Place.{Place}
use Rattle.pn_storecore.specs.declared.step.Discard.TheVariants as what
use Rattle.pn_storecore.specs.declared.step.StoreStep.{StoreStep}
use Rattle.pn_storecore.specs.declared.step.StoreStep.TheVariants.{Create, Append, PublishFile, PublishListing, DropTemp, Discard}
use Rattle.pn_storecore.specs.World.{objects, Stands}
use Rattle.pn_storecore.specs.Steps.{world_of}
use Rattle.pn_storecore.specs.Sound.{IsSound, IsAddressed}
use Rattle.pn_storecore.specs.Seen.{Seen}

-- the bytes of each file of a folder, by its number
abbrev pub TempFiles : Type 0
TempFiles = ℕ → Option (List ℕ)

abbrev pub no_files : TempFiles
no_files = λ n. None

-- other bytes of a file; `None` takes the file away
abbrev pub files_with : TempFiles → ℕ → Option (List ℕ) → TempFiles
files_with files n bytes = update nat_eq files n bytes

-- the folder of the number is the installer's and has these files
abbrev pub Holds : Seen → ℕ → TempFiles → Type 0
Holds s k files = ForSome s.journal (λ j. (world_of j).temps k ≡ Some (record { owner = s.me; files = files }))

-- the folder of a first byte stands
abbrev pub HasShard : Seen → Place → ℕ → Type 0
HasShard s place first = ForSome s.journal (λ j. (objects (world_of j) place).shards first ≡ true)

-- something stands at an address
abbrev pub HasObject : Seen → Place → List ℕ → Type 0
HasObject s place at = ForSome s.journal (λ j. Stands (objects (world_of j) place) at)

-- these bytes stand at an address
abbrev pub HasBytes : Seen → Place → List ℕ → List ℕ → Type 0
HasBytes s place at bytes = ForSome s.journal (λ j. (objects (world_of j) place).bytes at ≡ Some bytes)

-- nothing stands at an address
abbrev pub Lacks : Seen → Place → List ℕ → Type 0
Lacks s place at = ForSome s.journal (λ j. (objects (world_of j) place).bytes at ≡ None)

-- something stands at an address and has it as digest
abbrev pub HasDigest : Seen → Place → List ℕ → Type 0
HasDigest s place at = ForSome s.journal (λ j. (bytes : List ℕ) × ((objects (world_of j) place).bytes at ≡ Some bytes) × (sha512 bytes ≡ at))

-- no folder of the number stands
abbrev pub IsFree : Seen → ℕ → Type 0
IsFree s k = ForSome s.journal (λ j. (world_of j).temps k ≡ None)

-- the store is sound
abbrev pub IsSoundStore : Seen → Type 0
IsSoundStore s = ForSome s.journal (λ j. IsSound (world_of j))

-- what stands in the store has its address as digest
abbrev pub IsAddressedStore : Seen → Type 0
IsAddressedStore s = ForSome s.journal (λ j. IsAddressed (world_of j))

-- the step is on a file in the folder of the number
abbrev pub IsIn : ℕ → StoreStep → Type 0
IsIn k (Create q n) = q ≡ k
IsIn k (Append q n more) = q ≡ k
IsIn k (PublishFile q n at) = q ≡ k
IsIn k (PublishListing q n at) = q ≡ k
IsIn k (DropTemp q (Some n)) = q ≡ k
IsIn k step = ⊥

-- the step is on no file in the folder of the number, nor on the folder
abbrev pub Spares : ℕ → StoreStep → Type 0
Spares k (Create q n) = q ≢ k
Spares k (Append q n more) = q ≢ k
Spares k (PublishFile q n at) = q ≢ k
Spares k (PublishListing q n at) = q ≢ k
Spares k (DropTemp q n) = q ≢ k
Spares k (Discard (what.Temp q)) = q ≢ k
Spares k step = Unit {0}

-- the files of a folder after a step on one of them
abbrev pub files_after : StoreStep → TempFiles → TempFiles
files_after (Create k n) files = files_with files n (Some [])
files_after (Append k n more) files = files_with files n (option_map (λ bytes. bytes ++ more) (files n))
files_after (PublishFile k n at) files = files_with files n None
files_after (PublishListing k n at) files = files_with files n None
files_after (DropTemp k (Some n)) files = files_with files n None
files_after step files = files
