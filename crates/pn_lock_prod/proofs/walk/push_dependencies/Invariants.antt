use Rattle.std.proofs.Common.{◌≡◌, ◌++◌, drop}
use Rattle.pn_lock_prod.specs.Targets.{dependency_targets}
use Rattle.pn_lock_prod.proofs.walk.push_dependencies.Given as goal

abbrev pub invariant-loop-dependency : goal.invariant-loop-dependency
invariant-loop-dependency l = l.row.items ++ dependency_targets (drop l.dependency-index l.dependencies) ≡ l.fn.row.items ++ dependency_targets l.dependencies
