use Rattle.std.proofs.Common.{◌≡◌, ◌<◌, get_or, List, length, map, take, drop, [], subst, sym, suc, arith}
use Rattle.std.proofs.lemmas.List.{length-map}
use Rattle.pn_walk.specs.Wants.{at_project}
use Rattle.pn_walk.specs.Walks.{Turn, turn_by}
use Rattle.pn_walk.specs.Starts.{turns_from, asked_of, folders_of, wishes_of}
use Rattle.pn_walk.specs.Calls.{at, TookAll}
use Rattle.pn_walk.proofs.TookLemmas.{on_ways, keeps_on, keeps_same}
use Rattle.pn_walk.proofs.EdgeLemmas.{asker_project, asked_at}
use Rattle.pn_walk.proofs.ReadsLemmas.{read_none, read_on, once_in}
use Rattle.pn_walk.specs.Graphs.{id_of}
use Rattle.pn_walk.specs.Reads.{wish_of}
use Rattle.pn_walk.proofs.TookAllLemmas.{took_none, took_all_from, stops_in_from}
use Rattle.pn_walk.proofs.StartLemmas.{split_first, more_first, took_on, stops_on}
use Rattle.pn_walk.proofs.walk.take_projects.Goals as goal

pub loop-q-init : goal.loop-q-init
loop-q-init g c =
    let a = c.args.ways.now in
    let W = g.W.Ways in
    record {
      took = took_none (W.leads a) (W.node a) c.args.queue.now;
      kept = keeps_same (W.leads a) (W.node a) (W.lost a) (W.unread a);
      good = c.requires.good;
      tied = c.requires.tied;
      read = read_none (λ ws is. W.follows a ws is a) (at [] c.args.queue.now) (g.met.W.Ways.rests a);
    }

pub returns-in-Err-clause-refused : goal.returns-in-Err-clause-refused
returns-in-Err-clause-refused g c =
    let a = c.args.ways.now in
    let b = c.loop-q.ways in
    let W = g.W.Ways in
    let k = c.loop-q.q in
    let projects = c.args.projects.now in
    let ps = asked_of projects in
    let p = c.index-projects-q.result in
    let ws = c.as_slice.result.now in
    let here : ws ≡ get_or ps k ws = asked_at projects k p ws c.loop-q-test.true c.index-projects-q.is c.as_slice.ensures in
    let within : k < length ps = omega (arith, c.loop-q-test.true, length-map projects wishes_of) in
    let folders = folders_of projects in
    stops_on (W.leads a) (W.node a) (W.lost a) (W.unread a) folders (turns_from 0 (take k ps)) (map (turn_by (at_project k)) ws) (turns_from (suc k) (drop (suc k) ps)) (turns_from 0 ps) c.args.queue.now c.loop-q.queue c.in-Err.fault
    (split_first k ps ws within here) c.loop-q.invariant.took
    (stops_in_from (W.leads a) (W.leads b) (W.node a) (W.node b) (W.lost a) (W.lost b) (W.unread a) (W.unread b) folders (map (turn_by (at_project k)) ws) c.loop-q.queue c.in-Err.fault c.loop-q.invariant.kept
    (c.in-Err.ensures.refused folders (asker_project c.loop-q.queue.nodes.items projects k p c.as_str.result.now c.loop-q-test.true c.index-projects-q.is c.as_str.ensures)))

pub returns-in-Err-clause-kept : goal.returns-in-Err-clause-kept
returns-in-Err-clause-kept g c =
    let a = c.args.ways.now in
    let b = c.loop-q.ways in
    let d = c.take_all.new.ways in
    let W = g.W.Ways in
    keeps_on (W.leads a) (W.leads b) (W.leads d) (W.node a) (W.node b) (W.node d) (W.lost a) (W.lost b) (W.lost d) (W.unread a) (W.unread b) (W.unread d) c.loop-q.invariant.kept c.take_all.ensures.kept

pub returns-in-Err-clause-once : goal.returns-in-Err-clause-once
returns-in-Err-clause-once g c =
    let a = c.args.ways.now in
    let b = c.loop-q.ways in
    let d = c.take_all.new.ways in
    let W = g.W.Ways in
    let k = c.loop-q.q in
    let projects = c.args.projects.now in
    let ps = asked_of projects in
    let p = c.index-projects-q.result in
    let ws = c.as_slice.result.now in
    let here : ws ≡ get_or ps k ws = asked_at projects k p ws c.loop-q-test.true c.index-projects-q.is c.as_slice.ensures in
    let within : k < length ps = omega (arith, c.loop-q-test.true, length-map projects wishes_of) in
    once_in (W.leads a) (W.leads b) (W.node a) (W.node b) (W.lost a) (W.lost b) (W.unread a) (W.unread b) (λ ws is. W.follows a ws is b) (λ ws is. W.stops b ws is d) (λ ws is. W.stops a ws is d)
    (turns_from 0 (take k ps)) (map (turn_by (at_project k)) ws) (turns_from (suc k) (drop (suc k) ps)) (turns_from 0 ps) c.args.queue.now c.loop-q.queue
    c.loop-q.invariant.kept (g.met.W.Ways.stops_later a b d) (split_first k ps ws within here) c.loop-q.invariant.took c.loop-q.invariant.read c.in-Err.ensures.once

pub returns-in-Err-clause-broke : goal.returns-in-Err-clause-broke
returns-in-Err-clause-broke g c =
    let W = g.W.Ways in
    on_ways (W.broke c.loop-q.ways c.take_all.new.ways) (W.broke c.args.ways.now c.take_all.new.ways) c.in-Err.fault (λ f k. g.met.W.Ways.broke_later c.args.ways.now c.loop-q.ways c.take_all.new.ways (map wish_of c.loop-q.invariant.read.taken) (map id_of c.loop-q.invariant.read.added) f c.loop-q.invariant.read.read k) c.in-Err.ensures.broke

pub loop-q-preserved : goal.loop-q-preserved
loop-q-preserved g c =
    let a = c.args.ways.now in
    let b = c.loop-q.ways in
    let d = c.take_all.new.ways in
    let W = g.W.Ways in
    let k = c.loop-q.q in
    let projects = c.args.projects.now in
    let ps = asked_of projects in
    let p = c.index-projects-q.result in
    let ws = c.as_slice.result.now in
    let here : ws ≡ get_or ps k ws = asked_at projects k p ws c.loop-q-test.true c.index-projects-q.is c.as_slice.ensures in
    let within : k < length ps = omega (arith, c.loop-q-test.true, length-map projects wishes_of) in
    record {
      took = subst (λ (l : List Turn). TookAll (W.leads a) (W.node a) l c.args.queue.now c.take_all.new.self) (sym (more_first k ps ws within here))
          (took_on (W.leads a) (W.node a) (turns_from 0 (take k ps)) (map (turn_by (at_project k)) ws) c.args.queue.now c.loop-q.queue c.take_all.new.self c.loop-q.invariant.took
          (took_all_from (W.leads a) (W.leads b) (W.node a) (W.node b) (W.lost a) (W.lost b) (W.unread a) (W.unread b) (map (turn_by (at_project k)) ws) c.loop-q.queue c.take_all.new.self c.loop-q.invariant.kept c.in_default.ensures.took));
      kept = keeps_on (W.leads a) (W.leads b) (W.leads d) (W.node a) (W.node b) (W.node d) (W.lost a) (W.lost b) (W.lost d) (W.unread a) (W.unread b) (W.unread d) c.loop-q.invariant.kept c.take_all.ensures.kept;
      good = c.take_all.ensures.good;
      tied = c.in_default.ensures.tied;
      read = read_on (λ ws is. W.follows a ws is b) (λ ws is. W.follows b ws is d) (λ ws is. W.follows a ws is d) (at [] c.args.queue.now) (at [] c.loop-q.queue) (at [] c.take_all.new.self) (g.met.W.Ways.goes_on a b d) c.loop-q.invariant.read c.in_default.ensures.read;
    }
