use Rattle.std.proofs.Common.{refl}
use Rattle.pn_lock_prod.specs.Rows.{lock}
use Rattle.pn_lock_prod.proofs.RowLemmas.{lock_kept, made}
use Rattle.pn_lock_prod.proofs.tests.lock.Goals as goal

pub of-requires : goal.of-requires
of-requires c = made lock _ _ _ _ _ _ lock_kept refl c.new.ensures c.new-2.ensures c.in_ok-importers.ensures c.in_ok-packages.ensures c.in_ok-snapshots.ensures
