use Rattle.std.proofs.Common.{◌≡◌, [], length}
use Rattle.pn_components.specs.Rows.{rows_of}
use Rattle.pn_outer.specs.Founds.{IsMarked}
use Rattle.pn_outer.proofs.OuterLemmas.{AreSpread}
use Rattle.pn_outer.proofs.outer.numbers.Given as goal

abbrev pub invariant-loop-p : goal.invariant-loop-p
invariant-loop-p l = record {
  marked : IsMarked l.found.seen.items l.found.order.items;
  none : l.found.order.items ≡ [];
  count : length l.found.seen.items ≡ length l.instances;
  long : length l.rows.items ≡ length l.instances;
  spread : AreSpread l.instances l.pairs (rows_of l.fn.holders) (rows_of l.dependents) l.p (rows_of l.rows.items);
}
