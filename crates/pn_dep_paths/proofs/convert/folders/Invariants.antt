use Rattle.std.proofs.Common.{◌≡◌, take}
use Rattle.pn_dep_paths.specs.Converted.{folders_of}
use Rattle.pn_dep_paths.proofs.convert.folders.Given as goal

abbrev pub invariant-loop-project : goal.invariant-loop-project
invariant-loop-project l = l.all.items ≡ folders_of (take l.project-index l.project-items)
