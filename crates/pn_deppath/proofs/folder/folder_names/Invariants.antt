use Rattle.std.proofs.Common.{map, take}
use Rattle.pn_deppath.specs.Folders.{plain_name}
use Rattle.pn_deppath.specs.Numbers.{given, HasNumbers, last_after}
use Rattle.pn_deppath.proofs.FolderLemmas.{AreNamed}
use Rattle.pn_deppath.proofs.folder.folder_names.Given as goal

-- the first of the sorted dep paths have their names
abbrev pub invariant-loop-path : goal.invariant-loop-path
invariant-loop-path l = record {
  numbers : HasNumbers l.numbers (map plain_name l.paths) (λ q. last_after (map plain_name l.paths) q (given plain_name (take l.path-index l.path-items) q));
  named : AreNamed l.folders l.paths l.path-items l.path-index;
}
