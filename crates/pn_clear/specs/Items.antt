-- Planned and scanned entries, found by their paths.
use Rattle.std.specs.Prelude.{◌&&◌, Bool, true, not, List, map, Option, Some, None, if◌then◌else◌}
use Rattle.std.specs.List.{list_any}
use Rattle.std.specs.List.Sorted.{IsStrictlySortedBy}
use Rattle.std.specs.Map.{lookup}
use Rattle.std.specs.Cmp.Lexicographic.{slice_cmp}
use Rattle.std.specs.Ordering.{nat_cmp}
use Rattle.pn_text.specs.Path.{Path, same_path, path_text}
use Rattle.pn_fs.specs.Tree.{Tree}
use Rattle.pn_fs.specs.declared.kind.Kind.{Kind}
use Rattle.pn_digest.specs.declared.planned.Planned.{Planned}
use Rattle.pn_scan.specs.Scans.{Found}
use Rattle.pn_repair.specs.Repairs.{fits}

-- what is to stand at a path
abbrev pub Item : Type 0
Item = Path × Planned

-- byte order of the paths' texts, each once: so a folder before its entries
abbrev pub Rises : {T : Type 0} → List (Path × T) → Type 0
Rises {T} es = IsStrictlySortedBy (slice_cmp nat_cmp) (map (λ (e : Path × T). path_text e.0) es)

-- what a list has at a path
abbrev pub at_path : {T : Type 0} → List (Path × T) → Path → Option T
at_path es q = lookup (same_path q) es

-- whether what stands must be taken away: nothing is planned there, or an entry of another kind
abbrev pub is_unfit : Option Planned → Kind → Bool
is_unfit None k = true
is_unfit (Some w) k = not (fits w k)

abbrev pub is_doomed : List Item → Found → Bool
is_doomed plan e = is_unfit (at_path plan e.0) e.1

-- whether one of these entries, to be taken away, stood there
abbrev pub is_gone : List Item → List Found → Path → Bool
is_gone plan entries q = list_any (λ (e : Found). same_path e.0 q && is_doomed plan e) entries

-- the tree without them
abbrev pub without : List Item → List Found → Tree → Tree
without plan entries t q = if is_gone plan entries q then None else t q
