use Rattle.pn_deppath.specs.Folders.{folder_name}
use Rattle.pn_lock.specs.Locks.{paths_of}
use Rattle.pn_lock_layout.proofs.StepLemmas.{dir_here}
use Rattle.pn_lock_layout.proofs.instances.instances_of.Goals as goal

pub instance-requires-clause-dir : goal.instance-requires-clause-dir
instance-requires-clause-dir c =
    let l = c.args.lock.now in
    dir_here (folder_name (paths_of l.snapshots)) l.snapshots c.snapshots-snapshot-items.result.now c.args.dirs.now c.loop-n.n c.snapshot-item.result c.index-dirs-n.result c.snapshots-snapshot-items.ensures.list c.requires.dirs c.loop-n-test.true c.snapshot-item.is c.index-dirs-n.is
