use Rattle.std.proofs.Common.{map, take, []}
use Rattle.pn_walk.specs.Keeps.{Keeps}
use Rattle.pn_walk.specs.Walks.{turn_by}
use Rattle.pn_walk.specs.Calls.{at, TookAll}
use Rattle.pn_walk.specs.Places.{IsTied}
use Rattle.pn_walk.specs.Reads.{HasRead}
use Rattle.pn_walk.proofs.state.Queue.take_all.Given as goal

abbrev pub invariant-loop-wish : goal.invariant-loop-wish
invariant-loop-wish g l = record {
  took : TookAll (g.W.Ways.leads l.fn.ways) (g.W.Ways.node l.fn.ways) (map (turn_by l.who) (take l.wish-index l.wishes)) l.fn.self l.self;
  kept : Keeps (g.W.Ways.leads l.fn.ways) (g.W.Ways.leads l.ways) (g.W.Ways.node l.fn.ways) (g.W.Ways.node l.ways) (g.W.Ways.lost l.fn.ways) (g.W.Ways.lost l.ways) (g.W.Ways.unread l.fn.ways) (g.W.Ways.unread l.ways);
  good : g.W.Ways.good l.ways;
  tied : IsTied l.self;
  read : HasRead (λ ws ids. g.W.Ways.follows l.fn.ways ws ids l.ways) (at [] l.fn.self) (at [] l.self);
}
