use Rattle.std.proofs.Common.{◌≡◌, ◌++◌, List, length}
use Rattle.std.specs.Vec.Iter.{into_iter_items, into_iter_len}
use Rattle.pn_graph.specs.declared.links.Package.{Package}
use Rattle.pn_shape.specs.DepLists.{ArePackagesWith}
use Rattle.pn_shape.proofs.nodes.packages.Given as goal

abbrev pub invariant-loop-node : goal.invariant-loop-node
invariant-loop-node l = record {
  all : (rest : List Package) → ArePackagesWith (into_iter_items l.node-iterator) (into_iter_items l.lists) rest → ArePackagesWith l.fn.nodes.items l.fn.lists.items (l.items.items ++ rest);
  tied : into_iter_len l.node-iterator ≡ length (into_iter_items l.node-iterator);
  long : length (into_iter_items l.node-iterator) ≡ length (into_iter_items l.lists);
}
