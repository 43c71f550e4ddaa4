use Rattle.std.proofs.Common.{◌≤◌, ◌+◌, length}
use Rattle.pn_glob.specs.ReadLists.{ReadBefore}
use Rattle.pn_glob.proofs.Braces.{items_of}
use Rattle.pn_glob.proofs.list.add_all.Given as goal

abbrev pub invariant-texts : goal.invariant-texts
invariant-texts l = record {
  read : ReadBefore l.fn.kind l.fn.texts l.left l.index (items_of l.positive.items) (items_of l.negative.items);
  few : l.index + length l.left ≤ length l.fn.texts;
}

abbrev pub decreases-texts : goal.decreases-texts
decreases-texts l = length l.left
