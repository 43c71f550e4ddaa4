use Rattle.std.proofs.Common.{◌≡◌, ◌++◌, map, take}
use Rattle.pn_lock_layout.specs.Folders.{found_folder}
use Rattle.pn_lock_layout.specs.Layouts.{hoist_top}
use Rattle.pn_lock_layout.proofs.tops.add_hoisted.Given as goal

abbrev pub invariant-loop-hoist : goal.invariant-loop-hoist
invariant-loop-hoist l = l.all.items ≡ l.fn.all.items ++ map (hoist_top (found_folder l.folders)) (take l.hoist-index l.hoisted)
