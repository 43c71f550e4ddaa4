use Rattle.std.proofs.Common.{◌≡◌, ◌++◌, take}
use Rattle.std.specs.List.{flat_map}
use Rattle.pn_lock_layout.specs.Folders.{found_folder}
use Rattle.pn_lock_layout.specs.Layouts.{project_tops}
use Rattle.pn_lock_layout.proofs.tops.add_projects.Given as goal

abbrev pub invariant-loop-n : goal.invariant-loop-n
invariant-loop-n l = l.all.items ≡ l.fn.all.items ++ flat_map (project_tops (found_folder l.folders) l.fn.root) (take l.n l.importers)
