use Rattle.std.proofs.Common.{◌≡◌, length, take}
use Rattle.pn_components.specs.Rows.{rows_of}
use Rattle.pn_outer.specs.Provisions.{AddsHolders}
use Rattle.pn_outer.proofs.provided.Provisions.add_all.Given as goal

abbrev pub invariant-loop-link : goal.invariant-loop-link
invariant-loop-link l = record {
  count : length l.self.holders.items ≡ length l.self.pairs.items;
  adds : AddsHolders l.to (take l.link-index l.links) l.fn.self.pairs.items (rows_of l.fn.self.holders.items) l.self.pairs.items (rows_of l.self.holders.items);
}
