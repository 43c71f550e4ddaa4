use Rattle.std.proofs.Common.{◌≡◌, ◌++◌, drop}
use Rattle.std.specs.List.{filter}
use Rattle.pn_lock_prod.specs.Kept.{stays}
use Rattle.pn_lock_prod.proofs.kept.packages.Given as goal

-- what is left completes what was made
abbrev pub invariant-loop-old : goal.invariant-loop-old
invariant-loop-old l = l.all ++ filter (stays l.marks l.snapshots) (drop l.old-index l.these) ≡ filter (stays l.marks l.snapshots) l.these
