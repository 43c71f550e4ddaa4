use Rattle.pn_lock_layout.proofs.RowLemmas.{lock_kept, made}
use Rattle.pn_lock_layout.proofs.tests.lock.Goals as goal

pub of-requires : goal.of-requires
of-requires c = made _ _ _ _ _ lock_kept c.new.ensures c.new-2.ensures c.in_ok-importers.ensures c.in_ok-packages.ensures c.in_ok-snapshots.ensures
