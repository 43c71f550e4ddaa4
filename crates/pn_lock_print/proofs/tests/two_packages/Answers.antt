use Rattle.std.proofs.Common.{refl}
use Rattle.pn_lock_print.specs.LockSamples.{two_packages}
use Rattle.pn_lock_print.proofs.SampleLocks.{made, one_is, two_is, two_packages_kept}
use Rattle.pn_lock_print.proofs.tests.two_packages.Goals as goal

pub of-requires : goal.of-requires
of-requires c = made two_packages _ _ _ _ _ _ two_packages_kept refl c.new-catalogs.ensures c.new-rules.ensures
    (one_is _ _ _ c.in_ok-importers.ensures c.in_ok-a.ensures) (two_is _ _ _ _ _ _ c.in_ok-push.ensures.ok c.in_ok-packages.ensures c.in_ok-package.ensures c.in_ok-package-2.ensures)
    (two_is _ _ _ _ _ _ c.in_ok-push-2.ensures.ok c.in_ok-snapshots.ensures c.in_ok-a-2.ensures c.in_ok-snapshot.ensures)
