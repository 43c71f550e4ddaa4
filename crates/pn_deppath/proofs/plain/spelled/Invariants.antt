use Rattle.std.proofs.Common.{◌≡◌, ◌++◌, drop}
use Rattle.pn_deppath.specs.Folders.{spelled, spelled_behind}
use Rattle.pn_deppath.proofs.plain.spelled.Given as goal

abbrev pub invariant-loop-b : goal.invariant-loop-b
invariant-loop-b l = l.name.items ++ spelled_behind l.before (drop l.b-index l.path) ≡ spelled l.path
