use Rattle.std.proofs.Common.{◌≡◌, ◌<◌, List, [], ◌++◌, suc, drop, refl, sym, length, map, subst, ap, arith, ◌∙◌, length-append, get_or}
use Rattle.pn_walk.specs.Wants.{Wish, Node, at_package}
use Rattle.pn_walk.specs.Walks.{Turn, turn_by, turns_of, ends}
use Rattle.pn_walk.specs.Calls.{at, TookAll, StopsIn}
use Rattle.pn_walk.proofs.TookLemmas.{on_ways, keeps_on, keeps_same}
use Rattle.pn_walk.proofs.EdgeLemmas.{asker_package}
use Rattle.pn_walk.proofs.ReadsLemmas.{read_none, read_on, once_on, once_until}
use Rattle.pn_walk.specs.Graphs.{id_of}
use Rattle.pn_walk.specs.Reads.{wish_of, ReadsOnce}
use Rattle.pn_walk.proofs.TookAllLemmas.{turns_at, walk_at, stops_at, stops, took_all_from, stops_in_from}
use Rattle.pn_walk.proofs.state.Queue.take_rest.Goals as goal

pub returns-in-Err-clause-refused : goal.returns-in-Err-clause-refused
returns-in-Err-clause-refused g c = λ folders s w.
    let a = c.args.ways.now in
    let b = c.loop-k.ways in
    let W = g.W.Ways in
    let q = c.loop-k.self in
    let n = c.in-Ok.ensures in
    let within : c.loop-k.k < length q.nodes.items = omega (arith, c.if-k-len.false, c.len.ensures) in
    let here : n.0 ≡ get_or q.nodes.items c.loop-k.k n.0 = n.1 ∙ ap (λ (l : List Node). get_or l c.loop-k.k n.0) c.as_slice.ensures.value in
    let asks = c.as_slice-in-loop-k.ensures ∙ n.3 in
    let from : c.as_str.result.now ≡ n.0.id = c.as_str.ensures ∙ n.2 in
    let refused = stops_in_from (W.leads a) (W.leads b) (W.node a) (W.node b) (W.lost a) (W.lost b) (W.unread a) (W.unread b) folders (map (turn_by (at_package c.loop-k.k)) c.as_slice-in-loop-k.result.now) q c.in-Err.fault c.loop-k.invariant.kept (c.in-Err.ensures.refused folders (asker_package folders q.nodes.items c.loop-k.k n.0 c.as_str.result.now within here from)) in
    stops (W.leads a) (W.node a) (W.lost a) (W.unread a) folders s c.in-Err.fault
    (stops_at (W.leads a) (W.node a) (W.lost a) (W.unread a) folders s c.loop-k.k n.0 q c.in-Err.fault within here (c.loop-k.invariant.walks s w)
    (subst (λ (ws : List Wish). StopsIn (W.leads a) (W.node a) (W.lost a) (W.unread a) folders (map (turn_by (at_package c.loop-k.k)) ws) q c.in-Err.fault) asks refused))

pub loop-k-preserved : goal.loop-k-preserved
loop-k-preserved g c =
    let a = c.args.ways.now in
    let b = c.loop-k.ways in
    let d = c.take_all.new.ways in
    let W = g.W.Ways in
    let q = c.loop-k.self in
    let r = c.take_all.new.self in
    let n = c.in-Ok.ensures in
    let within : c.loop-k.k < length q.nodes.items = omega (arith, c.if-k-len.false, c.len.ensures) in
    let here : n.0 ≡ get_or q.nodes.items c.loop-k.k n.0 = n.1 ∙ ap (λ (l : List Node). get_or l c.loop-k.k n.0) c.as_slice.ensures.value in
    let asks = c.as_slice-in-loop-k.ensures ∙ n.3 in
    let took = took_all_from (W.leads a) (W.leads b) (W.node a) (W.node b) (W.lost a) (W.lost b) (W.unread a) (W.unread b) (map (turn_by (at_package c.loop-k.k)) c.as_slice-in-loop-k.result.now) q r c.loop-k.invariant.kept c.in_default-take_all.ensures.took in
    let all : TookAll (W.leads a) (W.node a) (map (turn_by (at_package c.loop-k.k)) n.0.wishes) q r = subst (λ (ws : List Wish). TookAll (W.leads a) (W.node a) (map (turn_by (at_package c.loop-k.k)) ws) q r) asks took in
    record {
      walks = λ s w. walk_at (W.leads a) (W.node a) s c.loop-k.k n.0 q r within here (c.loop-k.invariant.walks s w) all;
      within = omega (arith, within, ap length all.grows, length-append q.nodes.items all.added);
      good = c.take_all.ensures.good;
      tied = c.in_default-take_all.ensures.tied;
      read = read_on (λ ws is. W.follows a ws is b) (λ ws is. W.follows b ws is d) (λ ws is. W.follows a ws is d) (at [] c.args.self.now) (at [] c.loop-k.self) (at [] c.take_all.new.self) (g.met.W.Ways.goes_on a b d) c.loop-k.invariant.read c.in_default-take_all.ensures.read;
      kept = keeps_on (W.leads a) (W.leads b) (W.leads d) (W.node a) (W.node b) (W.node d) (W.lost a) (W.lost b) (W.lost d) (W.unread a) (W.unread b) (W.unread d) c.loop-k.invariant.kept c.take_all.ensures.kept;
    }

pub loop-k-init : goal.loop-k-init
loop-k-init g c =
    let a = c.args.ways.now in
    let W = g.W.Ways in
    record {
      walks = λ s w. w;
      within = omega arith;
      kept = keeps_same (W.leads a) (W.node a) (W.lost a) (W.unread a);
      good = c.requires.good;
      tied = c.requires.tied;
      read = read_none (λ ws is. W.follows a ws is a) (at [] c.args.self.now) (g.met.W.Ways.rests a);
    }

pub returns-in_default-clause-once : goal.returns-in_default-clause-once
returns-in_default-clause-once g c =
    let a = c.args.ways.now in
    let b = c.loop-k.ways in
    let W = g.W.Ways in
    let o = c.args.self.now in
    let q = c.loop-k.self in
    let k = c.loop-k.k in
    let waits = turns_of k (drop k q.nodes.items) in
    once_until (W.leads a) (W.node a) (λ ws is. W.follows a ws is b) (λ ws is. W.stops a ws is b) (turns_of 0 o.nodes.items) waits o q (g.met.W.Ways.may_stop a b)
    (c.loop-k.invariant.walks (at (turns_of 0 o.nodes.items) o) (ends (at (turns_of 0 o.nodes.items) o) refl)) c.loop-k.invariant.read

pub returns-in-Err-clause-once : goal.returns-in-Err-clause-once
returns-in-Err-clause-once g c =
    let a = c.args.ways.now in
    let b = c.loop-k.ways in
    let d = c.take_all.new.ways in
    let W = g.W.Ways in
    let o = c.args.self.now in
    let q = c.loop-k.self in
    let k = c.loop-k.k in
    let n = c.in-Ok.ensures in
    let within : k < length q.nodes.items = omega (arith, c.if-k-len.false, c.len.ensures) in
    let here : n.0 ≡ get_or q.nodes.items k n.0 = n.1 ∙ ap (λ (l : List Node). get_or l k n.0) c.as_slice.ensures.value in
    let asks = c.as_slice-in-loop-k.ensures ∙ n.3 in
    let rest = turns_of (suc k) (drop (suc k) q.nodes.items) in
    let waits : map (turn_by (at_package k)) c.as_slice-in-loop-k.result.now ++ rest ≡ turns_of k (drop k q.nodes.items) =
    ap (λ (ws : List Wish). map (turn_by (at_package k)) ws ++ rest) asks ∙ sym (turns_at k k q.nodes.items n.0 within here) in
    once_on (W.leads a) (W.leads b) (W.node a) (W.node b) (W.lost a) (W.lost b) (W.unread a) (W.unread b) (λ ws is. W.follows a ws is b) (λ ws is. W.stops b ws is d) (λ ws is. W.stops a ws is d)
    (turns_of 0 o.nodes.items) (turns_of k (drop k q.nodes.items)) o q c.loop-k.invariant.kept (g.met.W.Ways.stops_later a b d)
    (c.loop-k.invariant.walks (at (turns_of 0 o.nodes.items) o) (ends (at (turns_of 0 o.nodes.items) o) refl)) c.loop-k.invariant.read
    (subst (λ (l : List Turn). ReadsOnce (W.leads b) (W.node b) (λ ws is. W.stops b ws is d) (at l q)) waits (c.in-Err.ensures.once rest))

pub returns-in-Err-clause-broke : goal.returns-in-Err-clause-broke
returns-in-Err-clause-broke g c =
    let W = g.W.Ways in
    on_ways (W.broke c.loop-k.ways c.take_all.new.ways) (W.broke c.args.ways.now c.take_all.new.ways) c.in-Err.fault (λ f k. g.met.W.Ways.broke_later c.args.ways.now c.loop-k.ways c.take_all.new.ways (map wish_of c.loop-k.invariant.read.taken) (map id_of c.loop-k.invariant.read.added) f c.loop-k.invariant.read.read k) c.in-Err.ensures.broke
