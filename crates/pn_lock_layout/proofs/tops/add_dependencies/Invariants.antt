use Rattle.std.proofs.Common.{◌≡◌, ◌++◌, map, take}
use Rattle.pn_lock_layout.specs.Folders.{found_folder}
use Rattle.pn_lock_layout.specs.Layouts.{top_of}
use Rattle.pn_lock_layout.proofs.tops.add_dependencies.Given as goal

abbrev pub invariant-loop-dependency : goal.invariant-loop-dependency
invariant-loop-dependency l = l.all.items ≡ l.fn.all.items ++ map (top_of (found_folder l.folders) l.folder) (take l.dependency-index l.dependencies)
