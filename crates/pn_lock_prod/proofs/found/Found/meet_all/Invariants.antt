use Rattle.std.proofs.Common.{◌≡◌, length, take}
use Rattle.std.specs.List.{Contains}
use Rattle.pn_lock_prod.specs.Walks.{AddsAll, IsMarked}
use Rattle.pn_lock_prod.proofs.found.Found.meet_all.Given as goal

abbrev pub invariant-loop-at : goal.invariant-loop-at
invariant-loop-at l = record {
  marked : IsMarked l.self.seen.items l.self.order.items;
  added : AddsAll (Contains (take l.at-index l.row)) l.fn.self.order.items l.self.order.items;
  count : length l.self.seen.items ≡ length l.fn.self.seen.items;
}
