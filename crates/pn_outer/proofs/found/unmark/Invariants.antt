use Rattle.std.proofs.Common.{◌≡◌, ℕ, length, take, get_or, false}
use Rattle.std.specs.List.{Contains}
use Rattle.pn_outer.proofs.found.unmark.Given as goal

abbrev pub invariant-loop-at : goal.invariant-loop-at
invariant-loop-at l = record {
  none : (k : ℕ) → Contains (take l.at-index l.order) k → get_or l.seen.items k false ≡ false;
  kept : (k : ℕ) → get_or l.fn.seen.items k false ≡ false → get_or l.seen.items k false ≡ false;
  count : length l.seen.items ≡ length l.fn.seen.items;
}
