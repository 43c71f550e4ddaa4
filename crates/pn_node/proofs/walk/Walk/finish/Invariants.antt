use Rattle.std.proofs.Common.{◌≡◌}
use Rattle.std.specs.Option.{ForSome}
use Rattle.pn_fs.specs.Seen.{Keeps}
use Rattle.pn_node.specs.Find.{walk}
use Rattle.pn_node.specs.Steps.{steps_of}
use Rattle.pn_node.proofs.walk.Walk.finish.Given as goal

abbrev pub invariant-legs : goal.invariant-legs
invariant-legs g l = record {
  kept : Keeps (g.R.ReadFs.seen l.fn.fs) (g.R.ReadFs.seen l.fs);
  left : ForSome (g.R.ReadFs.seen l.fn.fs).tree (λ t. walk l.fn.links t l.fn.self.at (steps_of l.fn.self.steps.items) ≡ walk l.links t l.self.at (steps_of l.self.steps.items));
}

abbrev pub decreases-legs : goal.decreases-legs
decreases-legs g l = l.links
