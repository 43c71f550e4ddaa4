-- What is found where a folder's entries are listed.
use Rattle.std.specs.Prelude.{◌≡◌, ◌⊎◌, ◌<◌, ◌+◌, ◌-◌, ℕ, List, [], ◌∷◌, ◌++◌, length, take, Option, Some, None, IfSome, if◌then◌else◌}
use Rattle.pn_text.specs.Path.{Path}
use Rattle.pn_text.specs.Causes.{Rose}
use Rattle.pn_fs.specs.Tree.{Entry, folder, file, link, Tree}
use Rattle.pn_fs.specs.Seen.{Seen, GaveAtMost}
use Rattle.pn_fs.specs.Calls.{IsListing}
use Rattle.pn_registry.specs.Files.{File, holds_line_feed}
use Rattle.pn_registry.specs.Below.{IsWithin, HasMany}
use Rattle.pn_registry.specs.declared.walk.WalkFault.{WalkFault}
use Rattle.pn_registry.specs.declared.walk.WalkFault.TheVariants.{Entries, Fault, Memory}

-- what leads from a folder to a path below it
abbrev pub path_from : Path → Path → Path
path_from at p = take (length p - length at) p

-- a tree but for the paths with a line feed in a part below a folder
abbrev pub without_line_feeds : Path → Tree → Tree
without_line_feeds at t p = if holds_line_feed (path_from at p) then None else t p

-- the path where a folder stands there
abbrev pub folder_at : Option Entry → Path → List Path
folder_at None p = []
folder_at (Some folder) p = p ∷ []
folder_at (Some (file bytes)) p = []
folder_at (Some (link text)) p = []

-- the path and the length where a file stands there
abbrev pub file_at : Option Entry → Path → List File
file_at None p = []
file_at (Some folder) p = []
file_at (Some (file bytes)) p = (p, length bytes) ∷ []
file_at (Some (link text)) p = []

-- the folders among these entries of a folder
abbrev pub folders_in : Tree → Path → List (List ℕ) → List Path
folders_in t p [] = []
folders_in t p (x ∷ xs) = folder_at (t (x ∷ p)) (x ∷ p) ++ folders_in t p xs

-- the files among them
abbrev pub files_in : Tree → Path → List (List ℕ) → List File
files_in t p [] = []
files_in t p (x ∷ xs) = file_at (t (x ∷ p)) (x ∷ p) ++ files_in t p xs

-- One entry was looked at, in a walk from the folder `at`.
pub record Takes (t : Tree) (at p : Path) (x : List ℕ) (todo todo' : List Path) (found found' : List File) : Type 0 where
  pub folders : todo' ≡ todo ++ folder_at (t (x ∷ p)) (x ∷ p)
  pub files : found' ≡ found ++ file_at (without_line_feeds at t (x ∷ p)) (x ∷ p)

-- These entries were looked at.
pub record TakesAll (t : Tree) (at p : Path) (names : List (List ℕ)) (todo todo' : List Path) (found found' : List File) : Type 0 where
  pub folders : todo' ≡ todo ++ folders_in t p names
  pub files : found' ≡ found ++ files_in (without_line_feeds at t) p names

-- A folder was listed, and each of its n entries looked at.
pub record Lists (t : Tree) (at p : Path) (n : ℕ) (todo todo' : List Path) (found found' : List File) : Type 0 where
  pub names : List (List ℕ)
  pub listing : IsListing t p names
  pub count : n ≡ length names
  pub takes : TakesAll t at p names todo todo' found found'

-- a folder with more entries than that
pub record IsFull (t : Tree) (p : Path) (room : ℕ) : Type 0 where
  pub names : List (List ℕ)
  pub listing : IsListing t p names
  pub many : room < length names

abbrev pub ListRefused : Seen → Seen → Path → ℕ → WalkFault → Type 0
ListRefused old new p room Entries = IfSome old.tree (λ t. IsFull t p room)
ListRefused old new p room Fault = Rose old.faults new.faults
ListRefused old new p room Memory = Unit {0}

-- a call failed, or there was no memory
abbrev pub CallRefused : Seen → Seen → WalkFault → Type 0
CallRefused old new Entries = ⊥
CallRefused old new Fault = Rose old.faults new.faults
CallRefused old new Memory = Unit {0}

abbrev pub WalkRefused : Seen → Seen → Path → ℕ → WalkFault → Type 0
WalkRefused old new at limit Entries = IfSome old.tree (λ t. HasMany t at limit)
WalkRefused old new at limit Fault = Rose old.faults new.faults
WalkRefused old new at limit Memory = Unit {0}

-- the names of the folder itself or of one below it, or none
abbrev pub MayList : Tree → Path → List (List ℕ) → Type 0
MayList t at names = (names ≡ []) ⊎ ((p : Path) × IsWithin at p × IsListing t p names)

-- Calls gave at most so many names, those of one folder at or below this one aside, and no bytes of files.
pub record GaveListings (t : Tree) (at : Path) (most : ℕ) (old new : Seen) : Type 0 where
  pub last : List (List ℕ)
  pub listed : MayList t at last
  pub gave : GaveAtMost old 0 (most + length last) new
