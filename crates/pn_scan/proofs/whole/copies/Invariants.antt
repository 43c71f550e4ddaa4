use Rattle.std.proofs.Common.{◌≡◌, take}
use Rattle.pn_scan.proofs.whole.copies.Given as goal

abbrev pub invariant-loop-one : goal.invariant-loop-one
invariant-loop-one l = l.all.items ≡ take l.one-index l.managed
