use Rattle.std.proofs.Common.{◌+◌, ◌*◌, length, map as each}
use denote.Shadow.{shadow}
use denote.Text.{Utf8}
use Rattle.pn_yaml.specs.Flow.{flow_at}
use Rattle.pn_yaml.specs.KeySets.{AreKeys, seen_of}
use Rattle.pn_yaml.specs.View.{view}
use Rattle.pn_yaml.proofs.Flows.{ItemsSoFar, MembersSoFar}
use Rattle.pn_yaml.proofs.flow.+flow.Given as goal

abbrev pub decreases-flow_at : goal.decreases-flow_at
decreases-flow_at l = 3 * l.levels

abbrev pub decreases-value_at : goal.decreases-value_at
decreases-value_at l = 3 * l.levels + 1

abbrev pub decreases-list_at : goal.decreases-list_at
decreases-list_at l = 3 * l.levels + 2

abbrev pub decreases-map_at : goal.decreases-map_at
decreases-map_at l = 3 * l.levels + 2

abbrev pub invariant-list_at-items : goal.invariant-list_at-items
invariant-list_at-items l = record {
  utf8 : shadow (Utf8 l.rest);
  so_far : ItemsSoFar (flow_at l.fn.levels l.fn.line) l.fn.line l.fn.text (each view l.items) l.rest;
}

abbrev pub decreases-list_at-items : goal.decreases-list_at-items
decreases-list_at-items l = length l.rest

abbrev pub invariant-map_at-members : goal.invariant-map_at-members
invariant-map_at-members l = record {
  utf8 : shadow (Utf8 l.rest);
  keys : AreKeys l.keys (seen_of l.members);
  so_far : MembersSoFar (flow_at l.fn.levels l.fn.line) l.fn.line l.fn.text l.members l.rest;
}

abbrev pub decreases-map_at-members : goal.decreases-map_at-members
decreases-map_at-members l = length l.rest
