-- Why managed folders were not scanned.
use Rattle.std.specs.Prelude.{◌≡◌, ◌≢◌, ◌+◌, ◌<◌, ◌≤◌, ℕ, true, List, ◌∷◌, ◌++◌, length, Some, IfSome, []}
use Rattle.std.specs.List.{Contains, list_any}
use Rattle.pn_text.specs.Causes.{Rose}
use Rattle.pn_text.specs.declared.limits.TheConstants.{ENTRY_LIMIT}
use Rattle.pn_text.specs.Path.{Path}
use Rattle.pn_fs.specs.Seen.{Seen}
use Rattle.pn_fs.specs.Tree.{Entry, folder, Tree}
use Rattle.pn_scan.specs.Managed.{Managed, is_below, is_within, IsMarked, HasEntry, AreOurs}
use Rattle.pn_scan.specs.declared.fault.ScanFault.{ScanFault}
use Rattle.pn_scan.specs.declared.fault.ScanFault.TheVariants.{Foreign, Entries, Fault, Memory}

-- Why a folder isn't the installer's, by the path that is named: an entry on its path that is no folder, or itself,
-- which has an entry and no marker.
pub data IsForeignAt (t : Tree) (m : Managed) : Path → Type 0 where
  no_folder : (p : Path) (e : Entry) → is_within p m.0 ≡ true → t p ≡ Some e → e ≢ folder → IsForeignAt t m p
  unmarked : HasEntry t m.0 → (IsMarked t m → ⊥) → IsForeignAt t m m.0

-- This path shows that the first such folder isn't the installer's.
pub record IsForeign (t : Tree) (managed : List Managed) (p : Path) : Type 0 where
  pub before : List Managed
  pub first : Managed
  pub after : List Managed
  pub is : managed ≡ before ++ first ∷ after
  pub ours : AreOurs t before
  pub why : IsForeignAt t first p

-- an entry stands there, strictly below one of the folders
abbrev pub StandsBelow : Tree → List Managed → Path → Type 0
StandsBelow t managed p = (list_any (λ (m : Managed). is_below m.0 p) managed ≡ true) × ((e : Entry) × (t p ≡ Some e))

-- no path twice
abbrev pub IsDistinct : List Path → Type 0
IsDistinct [] = Unit {0}
IsDistinct (p ∷ ps) = (Contains ps p → ⊥) × IsDistinct ps

-- More entries than the limit stand strictly below the folders, all of which are the installer's.
pub record HasMany (t : Tree) (managed : List Managed) : Type 0 where
  pub ours : AreOurs t managed
  pub paths : List Path
  pub many : ENTRY_LIMIT < length paths
  pub distinct : IsDistinct paths
  pub stand : (p : Path) → Contains paths p → StandsBelow t managed p

-- No more entries than the limit stand strictly below the folders.
pub record HasFew (t : Tree) (managed : List Managed) : Type 0 where
  pub paths : List Path
  pub few : length paths ≤ ENTRY_LIMIT
  pub all : (p : Path) → StandsBelow t managed p → Contains paths p

-- why there is no scan
abbrev pub ScanRefused : List Managed → Seen → Seen → ScanFault → Type 0
ScanRefused managed old new (Foreign p) = IfSome old.tree (λ t. IsForeign t managed p)
ScanRefused managed old new Entries = IfSome old.tree (λ t. HasMany t managed)
ScanRefused managed old new Fault = Rose old.faults new.faults
ScanRefused managed old new Memory = Unit {0}
