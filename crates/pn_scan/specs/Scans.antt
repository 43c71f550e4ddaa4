-- What a scan of managed folders finds.
use Rattle.std.specs.Prelude.{◌≡◌, ℕ, true, List, map, Some}
use Rattle.std.specs.List.{Contains}
use Rattle.std.specs.List.Sorted.{IsStrictlySortedBy}
use Rattle.std.specs.Cmp.Lexicographic.{slice_cmp}
use Rattle.std.specs.Ordering.{nat_cmp}
use Rattle.pn_text.specs.Path.{Path, path_text}
use Rattle.pn_fs.specs.Tree.{Entry, Tree}
use Rattle.pn_fs.specs.Calls.{kind_of}
use Rattle.pn_fs.specs.declared.kind.Kind.{Kind}
use Rattle.pn_scan.specs.Managed.{Managed, is_managed}

-- a path, and what stands there
abbrev pub Found : Type 0
Found = Path × Kind

-- What a scan says: the folders that it was made of, and what stands at and below them.
pub record Scanned : Type 0 where
  pub managed : List Managed
  pub entries : List Found

-- byte order of the paths' texts, each once: so a folder before its entries
abbrev pub IsRising : List Found → Type 0
IsRising entries = IsStrictlySortedBy (slice_cmp nat_cmp) (map (λ (e : Found). path_text e.0) entries)

-- The entries are all that stands at and below the managed folders, each with its kind.
pub record IsScan (t : Tree) (s : Scanned) : Type 0 where
  pub within : (e : Found) → Contains s.entries e → is_managed s.managed e.0 ≡ true
  pub stand : (e : Found) → Contains s.entries e → (x : Entry) × (t e.0 ≡ Some x) × (e.1 ≡ kind_of (Some x))
  pub all : (q : Path) (x : Entry) → is_managed s.managed q ≡ true → t q ≡ Some x → Contains s.entries (q, kind_of (Some x))
