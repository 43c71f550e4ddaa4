use Rattle.std.proofs.Common.{◌≡◌, map, take}
use Rattle.pn_lock_layout.specs.Folders.{found_folder}
use Rattle.pn_lock_layout.specs.Layouts.{instance_of}
use Rattle.pn_lock_layout.proofs.instances.instances_of.Given as goal

abbrev pub invariant-loop-n : goal.invariant-loop-n
invariant-loop-n l = l.all.items ≡ map (instance_of (found_folder l.folders) l.fn.lock l.listings) (take l.n l.fn.lock.snapshots)
