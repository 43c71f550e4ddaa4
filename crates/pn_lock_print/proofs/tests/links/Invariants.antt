use Rattle.std.proofs.Common.{◌≡◌, ◌++◌, drop, map}
use Rattle.pn_lock_print.specs.LockSamples.{link}
use Rattle.pn_lock_print.proofs.tests.links.Given as goal

abbrev pub invariant-loop-alias : goal.invariant-loop-alias
invariant-loop-alias l = l.items ++ map (λ r. link r.0.now r.1) (drop l.alias-index l.rows) ≡ map (λ r. link r.0.now r.1) l.fn.rows
