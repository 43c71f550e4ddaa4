-- Why packages weren't fetched.
use Rattle.std.specs.Prelude.{◌<◌, List, IfSome}
use Rattle.pn_text.specs.Path.{Path}
use Rattle.pn_text.specs.Causes.{Rose}
use Rattle.pn_text.specs.First.{FirstFails}
use Rattle.pn_text.specs.declared.limits.TheConstants.{FILE_LIMIT}
use Rattle.pn_fs.specs.Seen.{Seen as Source}
use Rattle.pn_storecore.specs.Seen.{Seen}
use Rattle.pn_store.specs.Claims.{AreTaken}
use Rattle.pn_store.specs.Faults.{Clashes, IsLong}
use Rattle.pn_store.specs.declared.number.TheConstants.{NUMBERS}
use Rattle.pn_store.specs.declared.fault.ClaimFault.{ClaimFault}
use Rattle.pn_store.specs.declared.fault.ClaimFault.TheVariants as claim
use Rattle.pn_store.specs.declared.fault.PutFault.{PutFault}
use Rattle.pn_store.specs.declared.fault.PutFault.TheVariants as put
use Rattle.pn_store.specs.declared.fault.ReadFault.{ReadFault}
use Rattle.pn_store.specs.declared.fault.ReadFault.TheVariants as read
use Rattle.pn_package.specs.declared.packages.Package.{Package}
use Rattle.pn_fetch.specs.declared.fault.FetchFault.{FetchFault}
use Rattle.pn_fetch.specs.declared.fault.FetchFault.TheVariants.{StoreFault, RegistryFault, NumbersFull, TooLarge, Clash, Memory}
use Rattle.pn_fetch.specs.Puts.{WasPut, places}

-- a file is refused for what it is: it is too large, or other bytes with its digest were read at its address
abbrev pub FileRefuses : Source → Seen → Seen → Path → FetchFault → Type 0
FileRefuses from old new q (TooLarge n) = (FILE_LIMIT < n) × IfSome from.tree (λ t. IsLong (t q) n)
FileRefuses from old new q (Clash at) = Clashes from q at old new
FileRefuses from old new q e = ⊥

-- The first file in order that is so refused: all before it were put.
abbrev pub IsFirstRefused : List Path → Source → Seen → Seen → FetchFault → Type 0
IsFirstRefused all from old new e = FirstFails (WasPut from.tree old new) (FileRefuses from old new) all e

-- why the files at some places weren't put
abbrev pub PlacesRefused : List Path → Source → Source → Seen → Seen → FetchFault → Type 0
PlacesRefused all from gone old new StoreFault = Rose old.faults new.faults
PlacesRefused all from gone old new RegistryFault = Rose from.faults gone.faults
PlacesRefused all from gone old new NumbersFull = ⊥
PlacesRefused all from gone old new (TooLarge n) = IsFirstRefused all from old new (TooLarge n)
PlacesRefused all from gone old new (Clash at) = IsFirstRefused all from old new (Clash at)
PlacesRefused all from gone old new Memory = Unit {0}

-- why packages weren't put under a number
abbrev pub PutsRefused : List Package → Source → Source → Seen → Seen → FetchFault → Type 0
PutsRefused packages from gone old new e = PlacesRefused (places packages) from gone old new e

-- why packages weren't fetched
abbrev pub FetchRefused : List Package → Source → Source → Seen → Seen → FetchFault → Type 0
FetchRefused packages from gone old new NumbersFull = AreTaken NUMBERS old new
FetchRefused packages from gone old new e = PutsRefused packages from gone old new e

-- a call of the store failed, or there was no memory
abbrev pub StoreRefused : Seen → Seen → FetchFault → Type 0
StoreRefused old new StoreFault = Rose old.faults new.faults
StoreRefused old new Memory = Unit {0}
StoreRefused old new e = ⊥

-- a refusal of the store, in this crate's words
abbrev pub claim_fault : ClaimFault → FetchFault
claim_fault claim.Fault = StoreFault
claim_fault claim.NumbersFull = NumbersFull
claim_fault claim.Memory = Memory

abbrev pub put_fault : PutFault → FetchFault
put_fault put.StoreFault = StoreFault
put_fault put.SourceFault = RegistryFault
put_fault (put.TooLarge n) = TooLarge n
put_fault (put.Clash at) = Clash at
put_fault put.Memory = Memory

abbrev pub release_fault : ReadFault → FetchFault
release_fault read.Fault = StoreFault
release_fault (read.Damaged asked found) = Memory
release_fault read.Memory = Memory
