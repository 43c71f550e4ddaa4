use Rattle.std.proofs.Common.{◌≡◌, length}
use Rattle.pn_components.specs.Rows.{rows_of}
use Rattle.pn_components.proofs.RowLemmas.{AreEmpty}
use Rattle.pn_components.proofs.rows.empty.Given as goal

abbrev pub invariant-loop : goal.invariant-loop
invariant-loop l = record {
  count : length l.rows.items ≡ l.counter;
  empty : AreEmpty (rows_of l.rows.items);
}
