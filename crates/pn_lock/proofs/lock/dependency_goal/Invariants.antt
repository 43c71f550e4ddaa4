use Rattle.std.proofs.Common.{◌≡◌, drop}
use Rattle.pn_lock.specs.Links.{dependency_goal}
use Rattle.pn_lock.proofs.lock.dependency_goal.Given as goal

-- the alias is looked for among those that are left
abbrev pub invariant-loop-dependency : goal.invariant-loop-dependency
invariant-loop-dependency l = dependency_goal l.alias (drop l.dependency-index l.dependencies) ≡ dependency_goal l.fn.alias l.fn.dependencies
