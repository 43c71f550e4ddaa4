-- What is found where a managed folder is looked at.
use Rattle.std.specs.Prelude.{◌≡◌, ◌≢◌, ◌⊎◌, ◌+◌, ◌∷◌, [], ℕ, Bool, true, false, List, length, take, Option, Some, None, IfSome}
use Rattle.std.specs.List.{Contains}
use Rattle.pn_text.specs.Causes.{Rose}
use Rattle.pn_text.specs.Path.{Path}
use Rattle.pn_fs.specs.Calls.{IsListing}
use Rattle.pn_fs.specs.Seen.{Seen, GaveAtMost}
use Rattle.pn_fs.specs.Tree.{Entry, folder, file, Tree}
use Rattle.pn_fs.specs.declared.kind.Kind.TheVariants.{Folder}
use Rattle.pn_scan.specs.Managed.{Managed, is_within, is_managed, HasEntry, IsOurs, AreOurs}
use Rattle.pn_scan.specs.ScanFaults.{IsForeign, IsForeignAt}
use Rattle.pn_scan.specs.Scans.{Found}
use Rattle.pn_scan.specs.declared.fault.ScanFault.{ScanFault}
use Rattle.pn_scan.specs.declared.fault.ScanFault.TheVariants.{Foreign, Entries, Fault, Memory}
use Rattle.pn_scan.specs.declared.ours.Standing.{Standing}
use Rattle.pn_scan.specs.declared.ours.Standing.TheVariants.{Absent, Empty, Marked}

-- the paths at and above this one, but for `/`, the longest first
abbrev pub ups : Path → List Path
ups [] = []
ups (x ∷ p) = (x ∷ p) ∷ ups p

-- what stands at and above this path is folders
abbrev pub AreFolders : Tree → Path → Type 0
AreFolders t p = (q : Path) (e : Entry) → is_within q p ≡ true → t q ≡ Some e → e ≡ folder

-- a folder stands there, or nothing
abbrev pub StandsOrNot : Tree → Path → Bool → Type 0
StandsOrNot t p true = AreFolders t p × (t p ≡ Some folder)
StandsOrNot t p false = AreFolders t p × (t p ≡ None)

-- an entry on the path is no folder
abbrev pub IsNoFolder : Tree → Path → Path → Type 0
IsNoFolder t p q = (is_within q p ≡ true) × ((e : Entry) × (t q ≡ Some e) × (e ≢ folder))

-- a file whose bytes are a front of this text
abbrev pub IsFrontAt : Tree → Path → List ℕ → Type 0
IsFrontAt t p text = (n : ℕ) × (t p ≡ Some (file (take n text)))

-- a call failed, or there was no memory
abbrev pub CallRefused : Seen → Seen → ScanFault → Type 0
CallRefused old new (Foreign q) = ⊥
CallRefused old new Entries = ⊥
CallRefused old new Fault = Rose old.faults new.faults
CallRefused old new Memory = Unit {0}

-- the same, or an entry on the path is no folder
abbrev pub PathRefused : Path → Seen → Seen → ScanFault → Type 0
PathRefused p old new (Foreign q) = IfSome old.tree (λ t. IsNoFolder t p q)
PathRefused p old new Entries = ⊥
PathRefused p old new Fault = Rose old.faults new.faults
PathRefused p old new Memory = Unit {0}

-- the same, or the folder isn't the installer's
abbrev pub LookRefused : Managed → Seen → Seen → ScanFault → Type 0
LookRefused m old new (Foreign q) = IfSome old.tree (λ t. IsForeignAt t m q)
LookRefused m old new Entries = ⊥
LookRefused m old new Fault = Rose old.faults new.faults
LookRefused m old new Memory = Unit {0}

-- the same of several folders
abbrev pub OursRefused : List Managed → Seen → Seen → ScanFault → Type 0
OursRefused managed old new (Foreign q) = IfSome old.tree (λ t. IsForeign t managed q)
OursRefused managed old new Entries = ⊥
OursRefused managed old new Fault = Rose old.faults new.faults
OursRefused managed old new Memory = Unit {0}

-- what stands at the folder
abbrev pub StandsAs : Tree → Path → Standing → Type 0
StandsAs t p Absent = t p ≡ None
StandsAs t p Empty = (t p ≡ Some folder) × (HasEntry t p → ⊥)
StandsAs t p Marked = t p ≡ Some folder

-- A folder is the installer's, and this stands there.
pub record IsLook (t : Tree) (m : Managed) (s : Standing) : Type 0 where
  pub ours : IsOurs t m
  pub stands : StandsAs t m.0 s

-- the folder, where its entries are to be listed
abbrev pub marked_at : Path → Standing → List Path
marked_at p Absent = []
marked_at p Empty = []
marked_at p Marked = p ∷ []

-- the folder, where it stands
abbrev pub standing_at : Path → Standing → List Found
standing_at p Absent = []
standing_at p Empty = (p, Folder) ∷ []
standing_at p Marked = (p, Folder) ∷ []

-- These folders are the installer's: which of them stand, and those whose entries are to be listed.
pub record AreLooked (t : Tree) (managed : List Managed) (marked : List Path) (standing : List Found) : Type 0 where
  pub ours : AreOurs t managed
  pub from : (p : Path) → Contains marked p → ((m : Managed) × Contains managed m × (m.0 ≡ p)) × (t p ≡ Some folder)
  pub to : (m : Managed) → Contains managed m → HasEntry t m.0 → Contains marked m.0
  pub stand : (e : Found) → Contains standing e → ((m : Managed) × Contains managed m × (m.0 ≡ e.0)) × (t e.0 ≡ Some folder) × (e.1 ≡ Folder)
  pub all : (m : Managed) (e : Entry) → Contains managed m → t m.0 ≡ Some e → Contains standing (m.0, Folder)

-- each marker's text, and one byte
abbrev pub marker_bytes : List Managed → ℕ
marker_bytes [] = 0
marker_bytes (m ∷ ms) = length m.1 + 1 + marker_bytes ms

-- the names of this folder, or none
abbrev pub MayList : Tree → Path → List (List ℕ) → Type 0
MayList t p names = (names ≡ []) ⊎ IsListing t p names

-- Calls gave at most so many bytes, and the names of this folder.
pub record GaveListing (t : Tree) (p : Path) (bytes : ℕ) (old new : Seen) : Type 0 where
  pub last : List (List ℕ)
  pub listed : MayList t p last
  pub gave : GaveAtMost old bytes (length last) new

-- Calls gave at most so many bytes and names, and the names of one folder at or below these more.
pub record GaveListings (t : Tree) (managed : List Managed) (bytes names : ℕ) (old new : Seen) : Type 0 where
  pub at : Path
  pub last : List (List ℕ)
  pub within : (last ≡ []) ⊎ ((is_managed managed at ≡ true) × IsListing t at last)
  pub gave : GaveAtMost old bytes (names + length last) new
