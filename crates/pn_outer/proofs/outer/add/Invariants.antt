use Rattle.std.proofs.Common.{◌≡◌, length, take}
use Rattle.std.specs.List.{Contains}
use Rattle.pn_components.specs.Rows.{rows_of}
use Rattle.pn_outer.specs.Founds.{AddsPair}
use Rattle.pn_outer.proofs.outer.add.Given as goal

abbrev pub invariant-loop-at : goal.invariant-loop-at
invariant-loop-at l = record {
  count : length l.rows.items ≡ length l.fn.rows.items;
  adds : AddsPair l.pair (Contains (take l.at-index l.order)) (rows_of l.fn.rows.items) (rows_of l.rows.items);
}
