use Rattle.std.proofs.Common.{[], List, map, sym, subst}
use Rattle.pn_walk.specs.Calls.{at}
use Rattle.pn_walk.specs.Calls.{link_of}
use Rattle.pn_walk.specs.Wants.{Id}
use Rattle.pn_text.proofs.Results.{any_err}
use Rattle.pn_walk.specs.Starts.{turns_from}
use Rattle.pn_walk.specs.Walks.{start}
use Rattle.pn_choice.specs.Given.{asked_by}
use Rattle.pn_choice.specs.Shows.{IsNodeOf}
use Rattle.pn_choice.specs.Ways.{LeadsBy}
use Rattle.pn_choice.specs.Calls.{knows, IsAskedName, ReadsEach, ReadsFor}
use Rattle.pn_choice.proofs.CallsLemmas.{ids_met, until_all}
use Rattle.pn_choice.proofs.FitLemmas.{fit, graph_of}
use Rattle.pn_choice.proofs.top.plain.Goals as goal

pub whole-requires-clause-fit : goal.whole-requires-clause-fit
whole-requires-clause-fit g c =
    fit (g.R.ReadFs.seen c.args.sources.now.registry.now).tree c.args.projects.now c.args.sources.now.held.now c.args.auto_peers (at [] c.in_ok-queue.queue) c.in_ok-queue.ensures.walked c.requires.folders c.requires.rising c.requires.few

pub returns-clause-plain : goal.returns-clause-plain
returns-clause-plain g c =
    graph_of (g.R.ReadFs.seen c.args.sources.now.registry.now).tree c.args.projects.now c.args.sources.now.held.now c.args.auto_peers c.args.root c.in_ok-plain.plain (at [] c.in_ok-queue.queue) c.in_ok-queue.ensures.walked
    c.in_ok-plain.ensures.shape c.in_ok-plain.ensures.root

pub returns-clause-read : goal.returns-clause-read
returns-clause-read g c =
    let q = c.in_ok-queue.queue in
    subst (λ (ids : List Id). ReadsEach (knows c.args.sources.now.shelves.now) (knows c.walk.new.sources.shelves.now) (g.R.ReadFs.seen c.args.sources.now.registry.now) (IsAskedName (g.R.ReadFs.seen c.args.sources.now.registry.now).tree c.args.projects.now c.args.sources.now.held.now c.args.auto_peers) ids (g.R.ReadFs.seen c.walk.new.sources.registry.now))
    (sym (ids_met (map link_of q.links.items) 0 q.nodes.items c.in_ok-plain.plain.packages c.in_ok-plain.ensures.shape.packages_are)) c.in_ok-queue.ensures.read

pub returns-in_err-plain-clause-once : goal.returns-in_err-plain-clause-once
returns-in_err-plain-clause-once g c =
    let a = g.R.ReadFs.seen c.args.sources.now.registry.now in
    let b = g.R.ReadFs.seen c.walk.new.sources.registry.now in
    any_err c.from_residual-in_err-plain.result
    (until_all (LeadsBy a.tree c.args.sources.now.held.now) (IsNodeOf a.tree) (ReadsFor (knows c.args.sources.now.shelves.now) (knows c.walk.new.sources.shelves.now) a b) (start (turns_from 0 (map (asked_by c.args.auto_peers) c.args.projects.now))) (at [] c.in_ok-queue.queue) c.in_ok-queue.ensures.walked c.in_ok-queue.ensures.all)
