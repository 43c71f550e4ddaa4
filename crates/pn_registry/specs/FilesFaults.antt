-- Why the files of a package aren't told.
use Rattle.std.specs.Prelude.{◌≡◌, ◌≢◌, ◌<◌, ℕ, nat_lt, Bool, true, false, Option, Some, None, IfSome, List, find}
use Rattle.std.specs.declared.cmp.Ordering.TheVariants.{Less}
use Rattle.std.specs.Cmp.Lexicographic.{slice_cmp}
use Rattle.std.specs.Ordering.{nat_cmp}
use Rattle.pn_text.specs.declared.limits.TheConstants.{ENTRY_LIMIT}
use Rattle.pn_text.specs.Path.{Path, text_below}
use Rattle.pn_text.specs.Name.{holds_modules}
use Rattle.pn_text.specs.Causes.{Rose}
use Rattle.pn_fs.specs.Tree.{Tree}
use Rattle.pn_fs.specs.Seen.{Seen}
use Rattle.pn_read.specs.Small.{IsFileOf}
use Rattle.pn_registry.specs.Files.{File, file_limit, entry_below, IsShortBelow}
use Rattle.pn_registry.specs.Below.{HasFew, HasMany}
use Rattle.pn_registry.specs.declared.contents.FilesFault.{FilesFault}
use Rattle.pn_registry.specs.declared.contents.FilesFault.TheVariants.{Modules, TooLarge, Entries, Fault, Memory}

abbrev pub entry_limit : ℕ
entry_limit = ENTRY_LIMIT

abbrev pub is_modular : File → Bool
is_modular f = holds_modules f.0

abbrev pub is_large : File → Bool
is_large f = nat_lt file_limit f.1

-- Of the files below the folder that are so, this one's path comes first in byte order.
pub record IsFirstFile (so : File → Bool) (t : Tree) (at : Path) (f : File) : Type 0 where
  pub stands : IsFileOf f.1 (entry_below t at f.0)
  pub is : so f ≡ true
  pub first : (q : Path) (n : ℕ) → IsFileOf n (entry_below t at q) → so (q, n) ≡ true → slice_cmp nat_cmp (text_below q) (text_below f.0) ≢ Less

-- no file below the folder is so
abbrev pub HasNone : (File → Bool) → Tree → Path → Type 0
HasNone so t at = (q : Path) (n : ℕ) → IsFileOf n (entry_below t at q) → so (q, n) ≡ false

-- There are few entries, and of the files this one is the first with a part `node_modules`.
pub record IsFirstModules (t : Tree) (at q : Path) : Type 0 where
  pub few : HasFew t at entry_limit
  pub length : ℕ
  pub first : IsFirstFile is_modular t at (q, length)

-- There are few entries, no file has such a part, and this one is the first that is too long.
pub record IsFirstLarge (t : Tree) (at q : Path) (n : ℕ) : Type 0 where
  pub few : HasFew t at entry_limit
  pub plain : HasNone is_modular t at
  pub first : IsFirstFile is_large t at (q, n)

-- what the tree shows against the files
abbrev pub FilesCause : Path → Tree → FilesFault → Type 0
FilesCause at t (Modules q) = IsFirstModules t at q
FilesCause at t (TooLarge q n) = IsFirstLarge t at q n
FilesCause at t Entries = HasMany t at entry_limit
FilesCause at t Fault = ⊥
FilesCause at t Memory = ⊥

abbrev pub FilesRefused : Path → Seen → Seen → FilesFault → Type 0
FilesRefused at old new (Modules q) = (holds_modules q ≡ true) × IfSome old.tree (λ t. FilesCause at t (Modules q))
FilesRefused at old new (TooLarge q n) = (file_limit < n) × IfSome old.tree (λ t. FilesCause at t (TooLarge q n))
FilesRefused at old new Entries = IfSome old.tree (λ t. FilesCause at t Entries)
FilesRefused at old new Fault = Rose old.faults new.faults
FilesRefused at old new Memory = Unit {0}

-- the walk was refused
abbrev pub NotWalked : Path → Seen → Seen → FilesFault → Type 0
NotWalked at old new (Modules q) = ⊥
NotWalked at old new (TooLarge q n) = ⊥
NotWalked at old new Entries = IfSome old.tree (λ t. HasMany t at entry_limit)
NotWalked at old new Fault = Rose old.faults new.faults
NotWalked at old new Memory = Unit {0}

-- this file is named for a part `node_modules`
abbrev pub IsModular : Option File → FilesFault → Type 0
IsModular f (Modules q) = (n : ℕ) × (f ≡ Some (q, n))
IsModular f (TooLarge q n) = ⊥
IsModular f Entries = ⊥
IsModular f Fault = ⊥
IsModular f Memory = Unit {0}

-- this file is named for its length
abbrev pub IsLong : Option File → FilesFault → Type 0
IsLong f (Modules q) = ⊥
IsLong f (TooLarge q n) = f ≡ Some (q, n)
IsLong f Entries = ⊥
IsLong f Fault = ⊥
IsLong f Memory = Unit {0}

-- no file is named
pub record IsPassed (files : List File) : Type 0 where
  pub plain : find is_modular files ≡ None
  pub short : find is_large files ≡ None

-- the file that is named
abbrev pub IsNamed : List File → FilesFault → Type 0
IsNamed files (Modules q) = (n : ℕ) × (find is_modular files ≡ Some (q, n))
IsNamed files (TooLarge q n) = (find is_modular files ≡ None) × (find is_large files ≡ Some (q, n))
IsNamed files Entries = ⊥
IsNamed files Fault = ⊥
IsNamed files Memory = Unit {0}

-- the path of the file that is named isn't too long for one
abbrev pub NamesShort : Path → FilesFault → Type 0
NamesShort at (Modules q) = IsShortBelow at (q, 0)
NamesShort at (TooLarge q n) = IsShortBelow at (q, n)
NamesShort at Entries = Unit {0}
NamesShort at Fault = Unit {0}
NamesShort at Memory = Unit {0}
