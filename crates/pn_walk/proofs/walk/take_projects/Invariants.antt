use Rattle.std.proofs.Common.{take, []}
use Rattle.pn_walk.specs.Keeps.{Keeps}
use Rattle.pn_walk.specs.Starts.{turns_from, asked_of}
use Rattle.pn_walk.specs.Calls.{at, TookAll}
use Rattle.pn_walk.specs.Places.{IsTied}
use Rattle.pn_walk.specs.Reads.{HasRead}
use Rattle.pn_walk.proofs.walk.take_projects.Given as goal

abbrev pub invariant-loop-q : goal.invariant-loop-q
invariant-loop-q g l = record {
  took : TookAll (g.W.Ways.leads l.fn.ways) (g.W.Ways.node l.fn.ways) (turns_from 0 (take l.q (asked_of l.projects))) l.fn.queue l.queue;
  kept : Keeps (g.W.Ways.leads l.fn.ways) (g.W.Ways.leads l.ways) (g.W.Ways.node l.fn.ways) (g.W.Ways.node l.ways) (g.W.Ways.lost l.fn.ways) (g.W.Ways.lost l.ways) (g.W.Ways.unread l.fn.ways) (g.W.Ways.unread l.ways);
  good : g.W.Ways.good l.ways;
  tied : IsTied l.queue;
  read : HasRead (λ ws ids. g.W.Ways.follows l.fn.ways ws ids l.ways) (at [] l.fn.queue) (at [] l.queue);
}
