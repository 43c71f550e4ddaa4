use Rattle.std.proofs.Common.{◌≡◌, ◌++◌, drop}
use Rattle.std.specs.List.{All}
use Rattle.pn_dep_paths.specs.Converted.{outer_instances}
use Rattle.pn_dep_paths.specs.PathsLaw.{HasNames}
use Rattle.pn_dep_paths.proofs.convert.outer_instances.Given as goal

abbrev pub invariant-loop-i : goal.invariant-loop-i
invariant-loop-i l = record {
  all : l.all.items ++ outer_instances l.plain.packages (drop l.i l.instances.packages) (drop l.i l.instances.links) ≡ outer_instances l.plain.packages l.instances.packages l.instances.links;
  names : All HasNames l.all.items;
}
