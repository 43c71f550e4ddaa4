use Rattle.std.proofs.Common.{map, take, drop, suc, [], ◌∷◌, ◌++◌}
use Rattle.pn_walk.specs.Walks.{turn_by}
use Rattle.pn_walk.specs.Calls.{at}
use Rattle.pn_walk.proofs.TookLemmas.{on_ways, took_from, refused_from, keeps_on, keeps_same}
use Rattle.pn_walk.proofs.EdgeLemmas.{asker_more}
use Rattle.pn_walk.proofs.ReadsLemmas.{read_none, read_on, once_first, once_in}
use Rattle.pn_walk.specs.Graphs.{id_of}
use Rattle.pn_walk.specs.Reads.{wish_of}
use Rattle.pn_walk.proofs.TookAllLemmas.{took_none, took_next, stops_in, turns_split}
use Rattle.pn_walk.proofs.state.Queue.take_all.Goals as goal

pub loop-wish-init : goal.loop-wish-init
loop-wish-init g c =
    let a = c.args.ways.now in
    let W = g.W.Ways in
    record {
      took = took_none (W.leads a) (W.node a) c.args.self.now;
      good = c.requires.good;
      tied = c.requires.tied;
      read = read_none (λ ws is. W.follows a ws is a) (at [] c.args.self.now) (g.met.W.Ways.rests a);
      kept = keeps_same (W.leads a) (W.node a) (W.lost a) (W.unread a);
    }

pub returns-in-Err-clause-refused : goal.returns-in-Err-clause-refused
returns-in-Err-clause-refused g c =
    let a = c.args.ways.now in
    let b = c.loop-wish.ways in
    let W = g.W.Ways in
    let w = c.wish-item.result in
    let q = c.args.self.now in
    let r = c.loop-wish.self in
    λ folders asks.
    stops_in (W.leads a) (W.node a) (W.lost a) (W.unread a) folders c.args.who c.args.wishes.now c.loop-wish.wish-index w q r c.in-Err.fault
    c.loop-wish-test.true c.wish-item.is c.loop-wish.invariant.took
    (refused_from (W.leads a) (W.leads b) (W.node a) (W.node b) (W.lost a) (W.lost b) (W.unread a) (W.unread b) folders r.nodes.items (turn_by c.args.who w) c.in-Err.fault c.loop-wish.invariant.kept
    (c.in-Err.ensures.refused folders (asker_more folders q.nodes.items r.nodes.items c.loop-wish.invariant.took.added c.args.who c.args.from.now c.loop-wish.invariant.took.grows asks)))

pub loop-wish-preserved : goal.loop-wish-preserved
loop-wish-preserved g c =
    let a = c.args.ways.now in
    let b = c.loop-wish.ways in
    let d = c.take.new.ways in
    let W = g.W.Ways in
    let w = c.wish-item.result in
    record {
      took = took_next (W.leads a) (W.node a) c.args.who c.args.wishes.now c.loop-wish.wish-index w c.args.self.now c.loop-wish.self c.take.new.self c.loop-wish-test.true c.wish-item.is c.loop-wish.invariant.took
          (took_from (W.leads a) (W.leads b) (W.node a) (W.node b) (W.lost a) (W.lost b) (W.unread a) (W.unread b) (turn_by c.args.who w) c.loop-wish.self c.take.new.self c.loop-wish.invariant.kept c.in_default.ensures.took);
      good = c.take.ensures.good;
      tied = c.in_default.ensures.tied;
      read = read_on (λ ws is. W.follows a ws is b) (λ ws is. W.follows b ws is d) (λ ws is. W.follows a ws is d) (at [] c.args.self.now) (at [] c.loop-wish.self) (at [] c.take.new.self) (g.met.W.Ways.goes_on a b d) c.loop-wish.invariant.read c.in_default.ensures.read;
      kept = keeps_on (W.leads a) (W.leads b) (W.leads d) (W.node a) (W.node b) (W.node d) (W.lost a) (W.lost b) (W.lost d) (W.unread a) (W.unread b) (W.unread d) c.loop-wish.invariant.kept c.take.ensures.kept;
    }

pub returns-in-Err-clause-once : goal.returns-in-Err-clause-once
returns-in-Err-clause-once g c = λ rest.
    let a = c.args.ways.now in
    let b = c.loop-wish.ways in
    let d = c.take.new.ways in
    let W = g.W.Ways in
    let ws = c.args.wishes.now in
    let i = c.loop-wish.wish-index in
    let w = c.wish-item.result in
    let e = turn_by c.args.who w in
    let later = map (turn_by c.args.who) (drop (suc i) ws) in
    let q = c.loop-wish.self in
    once_in (W.leads a) (W.leads b) (W.node a) (W.node b) (W.lost a) (W.lost b) (W.unread a) (W.unread b) (λ ws is. W.follows a ws is b) (λ ws is. W.stops b ws is d) (λ ws is. W.stops a ws is d)
    (map (turn_by c.args.who) (take i ws)) (e ∷ []) (later ++ rest) (map (turn_by c.args.who) ws ++ rest) c.args.self.now q
    c.loop-wish.invariant.kept (g.met.W.Ways.stops_later a b d) (turns_split c.args.who ws i w rest c.loop-wish-test.true c.wish-item.is) c.loop-wish.invariant.took c.loop-wish.invariant.read
    (λ more. once_first (W.leads b) (W.node b) (λ ws is. W.stops b ws is d) e more q c.in-Err.ensures.once)

pub returns-in-Err-clause-broke : goal.returns-in-Err-clause-broke
returns-in-Err-clause-broke g c =
    let W = g.W.Ways in
    on_ways (W.broke c.loop-wish.ways c.take.new.ways) (W.broke c.args.ways.now c.take.new.ways) c.in-Err.fault (λ f k. g.met.W.Ways.broke_later c.args.ways.now c.loop-wish.ways c.take.new.ways (map wish_of c.loop-wish.invariant.read.taken) (map id_of c.loop-wish.invariant.read.added) f c.loop-wish.invariant.read.read k) c.in-Err.ensures.broke
