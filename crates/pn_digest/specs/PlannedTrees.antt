-- Planned trees: what is to stand at which path.
use Rattle.std.specs.Prelude.{List, map}
use Rattle.std.specs.List.Sorted.{IsStrictlySortedBy}
use Rattle.std.specs.Cmp.Lexicographic.{slice_cmp}
use Rattle.std.specs.Ordering.{nat_cmp}
use Rattle.pn_text.specs.Path.{Path, path_text}
use Rattle.pn_digest.specs.declared.planned.Planned.{Planned}

-- The paths rise in byte order of their texts, so that each stands once, and a folder before its entries.
abbrev pub AreRising : List (Path × Planned) → Type 0
AreRising es = IsStrictlySortedBy (slice_cmp nat_cmp) (map (λ (e : Path × Planned). path_text e.0) es)
