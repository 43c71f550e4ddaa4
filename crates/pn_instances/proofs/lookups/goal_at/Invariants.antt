use Rattle.std.proofs.Common.{◌≡◌, drop}
use Rattle.pn_instances.specs.Lookups.{goal_at}
use Rattle.pn_instances.proofs.lookups.goal_at.Given as goal

abbrev pub invariant-loop-link : goal.invariant-loop-link
invariant-loop-link l = goal_at l.name (drop l.link-index l.links) ≡ goal_at l.name l.links
