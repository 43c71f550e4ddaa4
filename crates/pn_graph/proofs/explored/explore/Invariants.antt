use Rattle.std.proofs.Common.{◌≡◌, length}
use Rattle.std.specs.Prelude.{option_map}
use Rattle.pn_graph.specs.FreeNames.{passing}
use Rattle.pn_graph.specs.Founds.{IsMarked, IsExplored}
use Rattle.pn_graph.proofs.explored.explore.Given as goal

abbrev pub invariant-loop-at : goal.invariant-loop-at
invariant-loop-at l = record {
  marked : IsMarked l.found.seen.items l.found.order.items;
  count : length l.found.seen.items ≡ length l.packages;
  explored : IsExplored (passing (option_map (λ n. n.now) l.past) l.packages) l.from l.at l.found.order.items;
}
