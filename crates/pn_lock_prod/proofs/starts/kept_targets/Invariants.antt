use Rattle.std.proofs.Common.{◌≡◌, ◌++◌, drop}
use Rattle.pn_lock_prod.specs.Targets.{kept_targets}
use Rattle.pn_lock_prod.proofs.starts.kept_targets.Given as goal

abbrev pub invariant-loop-importer : goal.invariant-loop-importer
invariant-loop-importer l = l.row.items ++ kept_targets (drop l.importer-index l.importers) ≡ kept_targets l.importers
