use Rattle.std.proofs.Common.{◌≡◌, ◌++◌, map, take}
use Rattle.pn_lock_layout.specs.Layouts.{project_managed}
use Rattle.pn_lock_layout.proofs.managed.add_projects.Given as goal

abbrev pub invariant-loop-n : goal.invariant-loop-n
invariant-loop-n l = l.all.items ≡ l.fn.all.items ++ map (project_managed l.fn.root) (take l.n l.importers)
