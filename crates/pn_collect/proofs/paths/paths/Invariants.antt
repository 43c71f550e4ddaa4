use Rattle.std.proofs.Common.{◌≡◌, map, take}
use Rattle.std.specs.List.{All}
use Rattle.pn_registry.specs.Listed.{file_of}
use Rattle.pn_collect.specs.Outline.{IsBelow, path_of}
use Rattle.pn_collect.proofs.paths.paths.Given as goal

abbrev pub invariant-loop-file : goal.invariant-loop-file
invariant-loop-file l = record {
  same : l.all.items ≡ map path_of (map file_of (take l.file-index l.file-items));
  below : All IsBelow l.all.items;
}
