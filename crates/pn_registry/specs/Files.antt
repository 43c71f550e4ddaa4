-- The files below a folder.
use Rattle.std.specs.Prelude.{◌≡◌, ◌≤◌, ◌==◌, ℕ, List, ◌++◌, length, map, Option, Some, None, Bool, false, if◌then◌else◌}
use Rattle.std.specs.List.{Contains, list_any}
use Rattle.std.specs.List.Sorted.{IsStrictlySortedBy}
use Rattle.std.specs.Cmp.Lexicographic.{slice_cmp}
use Rattle.std.specs.Ordering.{nat_cmp}
use Rattle.pn_text.specs.declared.limits.TheConstants.{FILE_LIMIT, PATH_LIMIT}
use Rattle.pn_text.specs.Path.{Path, path_text, text_below}
use Rattle.pn_text.specs.Name.{holds_modules}
use Rattle.pn_fs.specs.Tree.{Entry, Tree, file}
use Rattle.pn_read.specs.Small.{IsFileOf}

-- a path below some folder, and the length of the file there
abbrev pub File : Type 0
File = Path × ℕ

-- byte order of the paths' texts, each once
abbrev pub IsRising : List File → Type 0
IsRising files = IsStrictlySortedBy (slice_cmp nat_cmp) (map (λ (f : File). text_below f.0) files)

-- whether a part has a line feed
abbrev pub holds_line_feed : Path → Bool
holds_line_feed p = list_any (λ x. list_any (λ b. b == 10) x) p

-- what stands at a path below a folder; nothing where a part of the path has a line feed
abbrev pub entry_below : Tree → Path → Path → Option Entry
entry_below t at q = if holds_line_feed q then None else t (q ++ at)

-- These are all the files below a folder of the tree, with their lengths, but for those with a line feed in their path.
pub record IsFilesOf (t : Tree) (at : Path) (files : List File) : Type 0 where
  pub stands : (q : Path) (n : ℕ) → Contains files (q, n) → IsFileOf n (entry_below t at q)
  pub all : (q : Path) (bytes : List ℕ) → entry_below t at q ≡ Some (file bytes) → Contains files (q, length bytes)

abbrev pub file_limit : ℕ
file_limit = FILE_LIMIT

-- no part is `node_modules`, and the file isn't too long
pub record IsClean (f : File) : Type 0 where
  pub plain : holds_modules f.0 ≡ false
  pub short : f.1 ≤ file_limit

-- the file's path in the registry isn't too long for one
abbrev pub IsShortBelow : Path → File → Type 0
IsShortBelow at f = length (path_text (f.0 ++ at)) ≤ PATH_LIMIT

-- no part of the file's path has a line feed
abbrev pub IsOneLine : File → Type 0
IsOneLine f = holds_line_feed f.0 ≡ false

-- The second list has only files of the first one, and one for each of their paths' texts.
pub record KeepsPaths (files list : List File) : Type 0 where
  pub from : (f : File) → Contains list f → Contains files f
  pub paths : (f : File) → Contains files f → (g : File) × Contains list g × (text_below g.0 ≡ text_below f.0)
