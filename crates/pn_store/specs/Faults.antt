-- Why a call of this crate refused.
use Rattle.std.specs.Prelude.{◌≡◌, ◌≢◌, ◌<◌, ℕ, List, Option, IfSome, Some, length, Result, Ok, Err}
use Rattle.sha2.specs.Sha512.{sha512}
use Rattle.pn_text.specs.Causes.{Rose}
use Rattle.pn_text.specs.Path.{Path}
use Rattle.pn_text.specs.declared.limits.TheConstants.{FILE_LIMIT}
use Rattle.pn_fs.specs.Seen.{Seen as Tree}
use Rattle.pn_fs.specs.Tree.{Entry, file}
use Rattle.pn_storecore.specs.declared.step.Place.TheVariants.{Files}
use Rattle.pn_store.specs.Reads.{StoodThere}
use Rattle.pn_storecore.specs.Seen.{Seen}
use Rattle.pn_text.specs.declared.fault.DevFault.{DevFault}
use Rattle.pn_text.specs.declared.fault.DevFault.TheVariants.{Failed, Memory as no_memory}
use Rattle.pn_store.specs.declared.fault.PutFault.{PutFault}
use Rattle.pn_store.specs.declared.fault.PutFault.TheVariants.{StoreFault, SourceFault, TooLarge, Clash, Memory}

-- a call of the store failed
abbrev pub StoreRefuses : Seen → Seen → PutFault → Type 0
StoreRefuses old new StoreFault = Rose old.faults new.faults
StoreRefuses old new Memory = Unit {0}
StoreRefuses old new e = ⊥

-- a call of the source failed
abbrev pub SourceRefuses : Tree → Tree → PutFault → Type 0
SourceRefuses old new SourceFault = Rose old.faults new.faults
SourceRefuses old new Memory = Unit {0}
SourceRefuses old new e = ⊥

-- Bytes of this digest were read at it, the source's bytes have it too, and where the source is told they are others.
pub record Clashes (from : Tree) (p : Path) (at : List ℕ) (old new : Seen) : Type 0 where
  pub stored : List ℕ
  pub own : List ℕ
  pub first : sha512 stored ≡ at
  pub second : sha512 own ≡ at
  pub source : IfSome from.tree (λ r. (r p ≡ Some (file own)) × (stored ≢ own))
  pub stood : StoodThere Files at stored old new

-- a file of so many bytes
abbrev pub IsLong : Option Entry → ℕ → Type 0
IsLong e n = (bytes : List ℕ) × (e ≡ Some (file bytes)) × (n ≡ length bytes)

-- why a file was not put, but for a clash
abbrev pub FileRefused : Path → Tree → Tree → Seen → Seen → PutFault → Type 0
FileRefused p from gone old new StoreFault = Rose old.faults new.faults
FileRefused p from gone old new SourceFault = Rose from.faults gone.faults
FileRefused p from gone old new (TooLarge n) = (FILE_LIMIT < n) × IfSome from.tree (λ r. IsLong (r p) n)
FileRefused p from gone old new Memory = Unit {0}
FileRefused p from gone old new e = ⊥

-- why a file was not put
abbrev pub PutRefused : Path → Tree → Tree → Seen → Seen → PutFault → Type 0
PutRefused p from gone old new (Clash at) = Clashes from p at old new
PutRefused p from gone old new e = FileRefused p from gone old new e

-- the answer of a call of the store, in this crate's words
abbrev pub store_answer : {T : Type 0} → Result T DevFault → Result T PutFault
store_answer (Ok u) = Ok u
store_answer (Err Failed) = Err StoreFault
store_answer (Err no_memory) = Err Memory
