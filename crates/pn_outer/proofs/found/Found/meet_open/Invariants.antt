use Rattle.std.proofs.Common.{◌≡◌, length, take}
use Rattle.pn_outer.specs.Founds.{AddsAll, IsMarked, IsOpen}
use Rattle.pn_outer.proofs.found.Found.meet_open.Given as goal

abbrev pub invariant-loop-at : goal.invariant-loop-at
invariant-loop-at l = record {
  marked : IsMarked l.self.seen.items l.self.order.items;
  added : AddsAll (IsOpen l.instances l.name (take l.at-index l.row)) l.fn.self.order.items l.self.order.items;
  count : length l.self.seen.items ≡ length l.fn.self.seen.items;
}
