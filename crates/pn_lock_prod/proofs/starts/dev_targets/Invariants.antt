use Rattle.std.proofs.Common.{◌≡◌, ◌++◌, drop}
use Rattle.pn_lock_prod.specs.Targets.{dev_targets}
use Rattle.pn_lock_prod.proofs.starts.dev_targets.Given as goal

abbrev pub invariant-loop-importer : goal.invariant-loop-importer
invariant-loop-importer l = l.row.items ++ dev_targets (drop l.importer-index l.importers) ≡ dev_targets l.importers
