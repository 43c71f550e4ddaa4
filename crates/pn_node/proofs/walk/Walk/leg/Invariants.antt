use Rattle.std.proofs.Common.{length}
use Rattle.std.specs.Option.{ForSome}
use Rattle.pn_fs.specs.Seen.{Keeps}
use Rattle.pn_node.proofs.LegLemmas.{IsLeft}
use Rattle.pn_node.proofs.walk.Walk.leg.Given as goal

abbrev pub invariant-steps : goal.invariant-steps
invariant-steps g l = record {
  kept : Keeps (g.R.ReadFs.seen l.fn.fs) (g.R.ReadFs.seen l.fs);
  left : ForSome (g.R.ReadFs.seen l.fn.fs).tree (λ t. IsLeft t l.fn.self.at l.fn.self.steps.items l.self.at l.self.steps.items);
}

abbrev pub decreases-steps : goal.decreases-steps
decreases-steps g l = length l.self.steps.items
