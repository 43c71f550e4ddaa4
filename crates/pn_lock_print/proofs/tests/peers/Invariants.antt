use Rattle.std.proofs.Common.{◌≡◌, ◌++◌, drop, map}
use Rattle.pn_lock_print.specs.LockSamples.{peer}
use Rattle.pn_lock_print.proofs.tests.peers.Given as goal

abbrev pub invariant-loop-name : goal.invariant-loop-name
invariant-loop-name l = l.items ++ map (λ r. peer r.0.now r.1.now) (drop l.name-index l.rows) ≡ map (λ r. peer r.0.now r.1.now) l.fn.rows
