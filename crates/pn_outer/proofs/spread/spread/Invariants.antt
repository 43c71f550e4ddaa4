use Rattle.std.proofs.Common.{◌≡◌, length}
use Rattle.std.specs.List.{Contains}
use Rattle.pn_components.specs.Rows.{rows_of}
use Rattle.pn_outer.specs.Founds.{IsExplored, IsMarked, Passes}
use Rattle.pn_outer.proofs.spread.spread.Given as goal

abbrev pub invariant-loop-at : goal.invariant-loop-at
invariant-loop-at l = record {
  marked : IsMarked l.found.seen.items l.found.order.items;
  count : length l.found.seen.items ≡ length l.fn.found.seen.items;
  explored : IsExplored (Passes l.instances l.name (rows_of l.dependents)) (Contains l.starts) l.at l.found.order.items;
}
