use Rattle.std.proofs.Common.{map, take}
use Rattle.pn_tree.specs.Leaves.{file_leaf}
use Rattle.pn_tree.specs.Drawn.{Draws}
use Rattle.pn_tree.proofs.leaves.add_files.Given as goal

abbrev pub invariant-loop-file : goal.invariant-loop-file
invariant-loop-file l = Draws l.fn.draft l.draft (map (file_leaf l.store l.one) (take l.file-index l.file-items))
