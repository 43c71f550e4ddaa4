use Rattle.std.proofs.Common.{◌≤◌, length, drop, []}
use Rattle.pn_walk.specs.Keeps.{Keeps}
use Rattle.pn_walk.specs.Walks.{State, Walk, turns_of}
use Rattle.pn_walk.specs.Calls.{at}
use Rattle.pn_walk.specs.Places.{IsTied}
use Rattle.pn_walk.specs.Reads.{HasRead}
use Rattle.pn_walk.proofs.state.Queue.take_rest.Given as goal

abbrev pub invariant-loop-k : goal.invariant-loop-k
invariant-loop-k g l = record {
  walks : (s : State) → Walk (g.W.Ways.leads l.fn.ways) (g.W.Ways.node l.fn.ways) (at (turns_of 0 l.fn.self.nodes.items) l.fn.self) s → Walk (g.W.Ways.leads l.fn.ways) (g.W.Ways.node l.fn.ways) (at (turns_of l.k (drop l.k l.self.nodes.items)) l.self) s;
  within : l.k ≤ length l.self.nodes.items;
  kept : Keeps (g.W.Ways.leads l.fn.ways) (g.W.Ways.leads l.ways) (g.W.Ways.node l.fn.ways) (g.W.Ways.node l.ways) (g.W.Ways.lost l.fn.ways) (g.W.Ways.lost l.ways) (g.W.Ways.unread l.fn.ways) (g.W.Ways.unread l.ways);
  good : g.W.Ways.good l.ways;
  tied : IsTied l.self;
  read : HasRead (λ ws ids. g.W.Ways.follows l.fn.ways ws ids l.ways) (at [] l.fn.self) (at [] l.self);
}
