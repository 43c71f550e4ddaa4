use Rattle.std.proofs.Common.{◌≡◌, ◌++◌, drop, map}
use Rattle.pn_lock_print.specs.LockSamples.{dependency}
use Rattle.pn_lock_print.proofs.tests.dependencies.Given as goal

abbrev pub invariant-loop-alias : goal.invariant-loop-alias
invariant-loop-alias l = l.items ++ map (λ r. dependency r.0.now r.1.now r.2) (drop l.alias-index l.rows) ≡ map (λ r. dependency r.0.now r.1.now r.2) l.fn.rows
