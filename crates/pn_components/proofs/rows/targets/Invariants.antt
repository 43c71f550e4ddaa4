use Rattle.std.proofs.Common.{◌≡◌, length, take}
use Rattle.pn_components.specs.Rows.{AreRows, rows_of}
use Rattle.pn_components.proofs.rows.targets.Given as goal

abbrev pub invariant-loop-edge : goal.invariant-loop-edge
invariant-loop-edge l = record {
  count : length l.rows.items ≡ l.count;
  rows : AreRows (take l.edge-index l.edges) (rows_of l.rows.items);
}
