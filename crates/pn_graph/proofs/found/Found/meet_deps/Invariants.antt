use Rattle.std.proofs.Common.{◌≡◌, length, take}
use Rattle.pn_graph.specs.Founds.{AddsAll, IsMarked}
use Rattle.pn_graph.specs.Reaches.{LeadsTo}
use Rattle.pn_graph.proofs.found.Found.meet_deps.Given as goal

abbrev pub invariant-loop-dep : goal.invariant-loop-dep
invariant-loop-dep l = record {
  marked : IsMarked l.self.seen.items l.self.order.items;
  added : AddsAll (LeadsTo (take l.dep-index l.deps)) l.fn.self.order.items l.self.order.items;
  count : length l.self.seen.items ≡ length l.fn.self.seen.items;
}
