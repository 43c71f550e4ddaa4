use Rattle.std.proofs.Common.{◌≡◌, length}
use Rattle.pn_components.specs.Rows.{rows_of}
use Rattle.pn_outer.specs.Founds.{AreNone}
use Rattle.pn_outer.proofs.outer.none.Given as goal

abbrev pub invariant-loop : goal.invariant-loop
invariant-loop l = record {
  count : length l.rows.items ≡ l.counter;
  none : AreNone (rows_of l.rows.items);
}
