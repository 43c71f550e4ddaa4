use Rattle.std.proofs.Common.{◌≡◌, ◌++◌, map, take}
use Rattle.pn_lock_layout.specs.Folders.{found_folder}
use Rattle.pn_lock_layout.specs.Layouts.{target_of}
use Rattle.pn_lock_layout.proofs.instances.add_targets.Given as goal

abbrev pub invariant-loop-link : goal.invariant-loop-link
invariant-loop-link l = l.all.items ≡ l.fn.all.items ++ map (target_of (found_folder l.folders)) (take l.link-index l.links)
