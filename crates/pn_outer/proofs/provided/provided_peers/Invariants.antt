use Rattle.std.proofs.Common.{◌≡◌, length}
use Rattle.pn_components.specs.Rows.{rows_of}
use Rattle.pn_outer.proofs.HolderLemmas.{AreFirst}
use Rattle.pn_outer.proofs.provided.provided_peers.Given as goal

abbrev pub invariant-loop-i : goal.invariant-loop-i
invariant-loop-i l = record {
  count : length l.provided.holders.items ≡ length l.provided.pairs.items;
  first : AreFirst l.instances l.i l.provided.pairs.items (rows_of l.provided.holders.items);
}
