use Rattle.std.proofs.Common.{◌≡◌, ◌++◌, drop, map}
use Rattle.pn_lock_print.specs.LockSamples.{rule}
use Rattle.pn_lock_print.proofs.tests.rules.Given as goal

abbrev pub invariant-loop-selector : goal.invariant-loop-selector
invariant-loop-selector l = l.items ++ map (λ r. rule r.0.now r.1.now) (drop l.selector-index l.rows) ≡ map (λ r. rule r.0.now r.1.now) l.fn.rows
