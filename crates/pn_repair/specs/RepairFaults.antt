-- Why a planned entry was not made to stand.
use Rattle.std.specs.Prelude.{◌≡◌, ◌≢◌, ◌⊎◌, ◌<◌, ℕ, List, length, Option, Some, None, Result, Ok, Err}
use Rattle.sha2.specs.Sha512.{sha512}
use Rattle.pn_text.specs.Causes.{Rose}
use Rattle.pn_text.specs.declared.fault.DevFault.{DevFault}
use Rattle.pn_text.specs.declared.fault.DevFault.TheVariants.{Failed, Memory as no_memory}
use Rattle.pn_text.specs.declared.limits.TheConstants.{FILE_LIMIT}
use Rattle.pn_fs.specs.Tree.{Entry}
use Rattle.pn_fs.specs.Seen.{Seen as Shown}
use Rattle.pn_digest.specs.declared.planned.Planned.{Planned}
use Rattle.pn_digest.specs.declared.planned.Planned.TheVariants as planned
use Rattle.pn_storecore.specs.declared.step.Place.TheVariants.{Files}
use Rattle.pn_storecore.specs.Seen.{Seen}
use Rattle.pn_storecore.specs.Grew.{Was}
use Rattle.pn_store.specs.Reads.{StoodThere}
use Rattle.pn_store.specs.declared.fault.ReadFault.{ReadFault}
use Rattle.pn_store.specs.declared.fault.ReadFault.TheVariants as read
use Rattle.pn_repair.specs.Stands.{StandsAs}
use Rattle.pn_repair.specs.declared.fault.RepairFault.{RepairFault}
use Rattle.pn_repair.specs.declared.fault.RepairFault.TheVariants.{Fault, StoreFault, Stored, Memory}

-- What was read at a store's address isn't a file of that digest: nothing, or more than 268,435,456 bytes, or bytes of
-- another digest, which is named.
abbrev pub IsWrongFile : List ℕ → Option (List ℕ) → Seen → Seen → Type 0
IsWrongFile at None old new = Was Files at None old new ⊎ ((bytes : List ℕ) × (FILE_LIMIT < length bytes) × StoodThere Files at bytes old new)
IsWrongFile at (Some found) old new = (bytes : List ℕ) × (sha512 bytes ≡ found) × (found ≢ at) × StoodThere Files at bytes old new

-- a call of the tree failed
abbrev pub TreeRefused : ℕ → ℕ → RepairFault → Type 0
TreeRefused before now Fault = Rose before now
TreeRefused before now Memory = Unit {0}
TreeRefused before now e = ⊥

-- why the entry doesn't stand
abbrev pub RepairRefused : Shown → Shown → Seen → Seen → RepairFault → Type 0
RepairRefused was now old new Fault = Rose was.faults now.faults
RepairRefused was now old new StoreFault = Rose old.faults new.faults
RepairRefused was now old new (Stored at found) = IsWrongFile at found old new
RepairRefused was now old new Memory = Unit {0}

-- what failed in the store, or was wrong there, is the file that is planned
abbrev pub IsOfPlan : Planned → RepairFault → Type 0
IsOfPlan w StoreFault = (at : List ℕ) × (w ≡ planned.Stored at)
IsOfPlan w (Stored at found) = w ≡ planned.Stored at
IsOfPlan w e = Unit {0}

-- the store was asked where the entry didn't stand
abbrev pub IsNeeded : Planned → Option Entry → RepairFault → Type 0
IsNeeded w was StoreFault = StandsAs w was → ⊥
IsNeeded w was (Stored at found) = StandsAs w was → ⊥
IsNeeded w was e = Unit {0}

-- the answer of a call of the tree, in these words
abbrev pub tree_answer : {T : Type 0} → Result T DevFault → Result T RepairFault
tree_answer (Ok u) = Ok u
tree_answer (Err Failed) = Err Fault
tree_answer (Err no_memory) = Err Memory

-- the fault of a read of the store, in these words
abbrev pub store_fault : ReadFault → RepairFault
store_fault read.Fault = StoreFault
store_fault (read.Damaged at found) = Stored at (Some found)
store_fault read.Memory = Memory

-- what was read whole has the digest, or another one
abbrev pub IsEnd : List ℕ → List ℕ → Result Unit RepairFault → Type 0
IsEnd at found (Ok u) = found ≡ at
IsEnd at found (Err e) = (found ≢ at) × (e ≡ Stored at (Some found))
