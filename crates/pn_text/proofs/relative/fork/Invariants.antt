use Rattle.std.proofs.Common.{◌≤◌, ◌-◌, length}
use Rattle.pn_text.proofs.Relatives.{Shares}
use Rattle.pn_text.proofs.relative.fork.Given as goal

abbrev pub invariant-parts : goal.invariant-parts
invariant-parts l = record {
  within_a : l.at ≤ length l.a;
  within_b : l.at ≤ length l.b;
  shares : Shares l.from l.to l.at;
}

abbrev pub decreases-parts : goal.decreases-parts
decreases-parts l = length l.a - l.at
