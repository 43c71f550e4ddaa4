use Rattle.std.proofs.Common.{map}
use Rattle.std.specs.List.{All}
use Rattle.std.specs.Vec.Iter.{into_iter_items}
use Rattle.pn_walk.specs.Calls.{link_of}
use Rattle.pn_shape.specs.Fits.{IsBetween}
use Rattle.pn_shape.specs.DepLists.{HasDeps}
use Rattle.pn_shape.proofs.lists.DepLists.of.Given as goal

abbrev pub invariant-loop-taken : goal.invariant-loop-taken
invariant-loop-taken l = record {
  has : HasDeps l.fn.projects l.fn.packages (map link_of l.yielded) l.lists;
  between : All (IsBetween l.fn.projects l.fn.packages) (map link_of (into_iter_items l.taken-iterator));
}
