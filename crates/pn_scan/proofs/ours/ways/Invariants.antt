use Rattle.std.proofs.Common.{◌≡◌, ◌++◌, length}
use Rattle.pn_scan.specs.Looks.{ups}
use Rattle.pn_scan.proofs.ours.ways.Given as goal

abbrev pub invariant-up : goal.invariant-up
invariant-up l = l.ways.items ++ ups l.at ≡ ups l.path

abbrev pub decreases-up : goal.decreases-up
decreases-up l = length l.at
