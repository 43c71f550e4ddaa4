use Rattle.std.proofs.Common.{◌≡◌, ◌++◌, drop, map}
use Rattle.pn_lock_print.specs.LockSamples.{entry}
use Rattle.pn_lock_print.proofs.tests.catalogs.Given as goal

abbrev pub invariant-loop-catalog : goal.invariant-loop-catalog
invariant-loop-catalog l = l.items ++ map (λ r. entry r.0.now r.1.now r.2.now r.3.now) (drop l.catalog-index l.rows) ≡ map (λ r. entry r.0.now r.1.now r.2.now r.3.now) l.fn.rows
