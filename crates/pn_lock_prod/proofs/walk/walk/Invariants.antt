use Rattle.std.proofs.Common.{◌≡◌, length}
use Rattle.std.specs.List.{Contains}
use Rattle.pn_lock_prod.specs.Targets.{Leads}
use Rattle.pn_lock_prod.specs.Walks.{IsExplored, IsMarked}
use Rattle.pn_lock_prod.proofs.walk.walk.Given as goal

abbrev pub invariant-loop-at : goal.invariant-loop-at
invariant-loop-at l = record {
  marked : IsMarked l.found.seen.items l.found.order.items;
  count : length l.found.seen.items ≡ length l.fn.found.seen.items;
  explored : IsExplored (Leads l.snapshots) (Contains l.starts) l.at l.found.order.items;
}
