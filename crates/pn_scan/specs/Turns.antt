-- What is found where a folder's entries are listed.
use Rattle.std.specs.Prelude.{◌≡◌, ◌≤◌, ◌<◌, ◌+◌, ℕ, List, [], ◌∷◌, ◌++◌, length, map, Option, Some, None, IfSome}
use Rattle.std.specs.List.{Contains}
use Rattle.pn_text.specs.Causes.{Rose}
use Rattle.pn_text.specs.Path.{Path, path_text}
use Rattle.pn_text.specs.declared.limits.TheConstants.{ENTRY_LIMIT}
use Rattle.pn_fs.specs.Calls.{IsListing, kind_of}
use Rattle.pn_fs.specs.Seen.{Seen}
use Rattle.pn_fs.specs.Tree.{Entry, folder, file, link, Tree}
use Rattle.pn_scan.specs.Managed.{Managed}
use Rattle.pn_scan.specs.ScanFaults.{HasMany, StandsBelow}
use Rattle.pn_scan.specs.Scans.{Found}
use Rattle.pn_scan.specs.declared.fault.ScanFault.{ScanFault}
use Rattle.pn_scan.specs.declared.fault.ScanFault.TheVariants.{Foreign, Entries, Fault, Memory}

-- the path where a folder stands there
abbrev pub folder_at : Option Entry → Path → List Path
folder_at None p = []
folder_at (Some folder) p = p ∷ []
folder_at (Some (file bytes)) p = []
folder_at (Some (link text)) p = []

-- the path and the kind where an entry stands there
abbrev pub found_at : Option Entry → Path → List Found
found_at None p = []
found_at (Some e) p = (p, kind_of (Some e)) ∷ []

-- the folders among these entries of a folder
abbrev pub folders_in : Tree → Path → List (List ℕ) → List Path
folders_in t p [] = []
folders_in t p (x ∷ xs) = folder_at (t (x ∷ p)) (x ∷ p) ++ folders_in t p xs

-- those that stand
abbrev pub found_in : Tree → Path → List (List ℕ) → List Found
found_in t p [] = []
found_in t p (x ∷ xs) = found_at (t (x ∷ p)) (x ∷ p) ++ found_in t p xs

-- One entry was looked at.
pub record Takes (t : Tree) (p : Path) (x : List ℕ) (todo todo' : List Path) (found found' : List Found) : Type 0 where
  pub folders : todo' ≡ todo ++ folder_at (t (x ∷ p)) (x ∷ p)
  pub entries : found' ≡ found ++ found_at (t (x ∷ p)) (x ∷ p)

-- These entries were looked at.
pub record TakesAll (t : Tree) (p : Path) (names : List (List ℕ)) (todo todo' : List Path) (found found' : List Found) : Type 0 where
  pub folders : todo' ≡ todo ++ folders_in t p names
  pub entries : found' ≡ found ++ found_in t p names

-- A folder was listed, and each of its n entries looked at.
pub record Lists (t : Tree) (p : Path) (n : ℕ) (todo todo' : List Path) (found found' : List Found) : Type 0 where
  pub names : List (List ℕ)
  pub listing : IsListing t p names
  pub count : n ≡ length names
  pub takes : TakesAll t p names todo todo' found found'

-- a folder with more entries than that
pub record IsFull (t : Tree) (p : Path) (room : ℕ) : Type 0 where
  pub names : List (List ℕ)
  pub listing : IsListing t p names
  pub many : room < length names

abbrev pub ListRefused : Path → ℕ → Seen → Seen → ScanFault → Type 0
ListRefused p room old new (Foreign q) = ⊥
ListRefused p room old new Entries = IfSome old.tree (λ t. IsFull t p room)
ListRefused p room old new Fault = Rose old.faults new.faults
ListRefused p room old new Memory = Unit {0}

abbrev pub WalkRefused : List Managed → Seen → Seen → ScanFault → Type 0
WalkRefused managed old new (Foreign q) = ⊥
WalkRefused managed old new Entries = IfSome old.tree (λ t. HasMany t managed)
WalkRefused managed old new Fault = Rose old.faults new.faults
WalkRefused managed old new Memory = Unit {0}

-- a path, and what stands there
abbrev pub kinded : Tree → Path → Found
kinded t p = (p, kind_of (t p))

-- All that stands below the folders was found, behind what was found before, and isn't more than the limit.
pub record FindsBelow (t : Tree) (managed : List Managed) (before found : List Found) : Type 0 where
  pub paths : List Path
  pub is : found ≡ before ++ map (kinded t) paths
  pub few : length paths ≤ ENTRY_LIMIT
  pub stand : (p : Path) → Contains paths p → StandsBelow t managed p
  pub all : (p : Path) → StandsBelow t managed p → Contains paths p

-- The second list has only entries of the first one, and one for each of their paths' texts.
pub record KeepsPaths (entries kept : List Found) : Type 0 where
  pub from : (e : Found) → Contains kept e → Contains entries e
  pub paths : (e : Found) → Contains entries e → (g : Found) × Contains kept g × (path_text g.0 ≡ path_text e.0)
