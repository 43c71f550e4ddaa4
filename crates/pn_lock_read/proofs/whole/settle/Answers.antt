use Rattle.std.proofs.Common.{◌≡◌, Ok, arith, subst}
use Rattle.pn_lock.specs.Locks.{ids_of}
use Rattle.pn_lock_shape.specs.Kept.{folders_in, paths_in}
use Rattle.pn_lock_read.specs.Settling.{all_of, settled_importer, settled_snapshot}
use Rattle.pn_lock_read.proofs.LockKeptLemmas.{lock_kept}
use Rattle.pn_lock_read.proofs.whole.settle.Goals as goal

pub of-requires : goal.of-requires
of-requires c =
    let d = c.args.draft in
    let is = c.in_ok-importers.importers in
    let ss = c.in_ok-snapshots.snapshots in
    let hi : all_of (settled_importer (folders_in d.importers) (paths_in d.snapshots)) d.importers ≡ Ok is =
    subst (λ s. all_of (settled_importer (folders_in d.importers) (paths_in s)) d.importers ≡ Ok is) c.as_slice-2.ensures
    (subst (λ i. all_of (settled_importer (folders_in i) (paths_in c.as_slice-2.result.now)) i ≡ Ok is) c.as_slice.ensures c.in_ok-importers.ensures) in
    let hs : all_of (settled_snapshot (folders_in d.importers) (ids_of d.packages) (paths_in d.snapshots)) d.snapshots ≡ Ok ss =
    subst (λ i. all_of (settled_snapshot (folders_in i) (ids_of d.packages) (paths_in d.snapshots)) d.snapshots ≡ Ok ss) c.as_slice-3.ensures
    (subst (λ p. all_of (settled_snapshot (folders_in c.as_slice-3.result.now) (ids_of p) (paths_in d.snapshots)) d.snapshots ≡ Ok ss) c.as_slice-4.ensures
    (subst (λ s. all_of (settled_snapshot (folders_in c.as_slice-3.result.now) (ids_of c.as_slice-4.result.now) (paths_in s)) s ≡ Ok ss) c.as_slice-5.ensures c.in_ok-snapshots.ensures)) in
    lock_kept d is ss c.requires (omega (arith, c.if-len.false, c.len.ensures)) (omega (arith, c.if-len-2.false, c.len-2.ensures)) hi hs
