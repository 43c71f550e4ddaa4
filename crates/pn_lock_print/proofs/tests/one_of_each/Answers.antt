use Rattle.std.proofs.Common.{refl}
use Rattle.pn_lock_print.specs.LockSamples.{one_of_each}
use Rattle.pn_lock_print.proofs.SampleLocks.{made, one_is, one_of_each_kept}
use Rattle.pn_lock_print.proofs.tests.one_of_each.Goals as goal

pub of-requires : goal.of-requires
of-requires c = made one_of_each _ _ _ _ _ _ one_of_each_kept refl c.in_ok-catalogs.ensures c.in_ok-rules.ensures
    (one_is _ _ _ c.in_ok-importers.ensures c.in_ok-lib.ensures) (one_is _ _ _ c.in_ok-packages.ensures c.in_ok-package.ensures) (one_is _ _ _ c.in_ok-snapshots.ensures c.in_ok-path.ensures)
