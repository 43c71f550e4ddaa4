use Rattle.std.proofs.Common.{◌≡◌, take}
use Rattle.pn_lock_make.specs.Names.{AreNames}
use Rattle.pn_lock_make.proofs.snapshots.copies.Given as goal

abbrev pub invariant-loop-name : goal.invariant-loop-name
invariant-loop-name l = record {
  same : l.all ≡ take l.name-index l.names;
  named : AreNames l.all;
}
