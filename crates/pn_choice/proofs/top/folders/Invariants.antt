use Rattle.std.proofs.Common.{◌≡◌, ◌++◌, map, drop}
use Rattle.pn_choice.specs.Given.{folder_of}
use Rattle.pn_choice.proofs.top.folders.Given as goal

abbrev pub invariant-loop-project : goal.invariant-loop-project
invariant-loop-project l = l.all.items ++ map folder_of (drop l.project-index l.projects) ≡ map folder_of l.projects
