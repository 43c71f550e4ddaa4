use Rattle.std.proofs.Common.{◌≡◌, ◌≤◌, ◌++◌, length, map, take}
use Rattle.std.specs.List.{All}
use Rattle.pn_text.specs.Path.{path_text}
use Rattle.pn_text.specs.declared.limits.TheConstants.{PATH_LIMIT}
use Rattle.pn_fetch.specs.Listings.{path_of}
use Rattle.pn_fetch.proofs.tests.paths.Given as goal

abbrev pub invariant-loop-file : goal.invariant-loop-file
invariant-loop-file l = record {
  same : l.all.items ≡ map path_of (take l.file-index l.files);
  short : All (λ f. length (path_text (f ++ l.folder)) ≤ PATH_LIMIT) l.all.items;
}
