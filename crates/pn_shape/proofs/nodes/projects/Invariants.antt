use Rattle.std.proofs.Common.{◌≡◌, ◌++◌, length}
use Rattle.std.specs.Vec.Iter.{into_iter_items}
use Rattle.pn_shape.specs.DepLists.{projects_with}
use Rattle.pn_shape.proofs.nodes.projects.Given as goal

abbrev pub invariant-loop-folder : goal.invariant-loop-folder
invariant-loop-folder l = record {
  all : l.items.items ++ projects_with (into_iter_items l.folder-iterator) (into_iter_items l.lists) ≡ projects_with l.fn.folders.items l.fn.lists.items;
  long : length (into_iter_items l.folder-iterator) ≡ length (into_iter_items l.lists);
}
