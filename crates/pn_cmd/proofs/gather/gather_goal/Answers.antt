use Rattle.std.proofs.Common.{Option, refl, subst, sym}
use Rattle.pn_fs.specs.Tree.{Tree}
use Rattle.pn_manifest.specs.Says.{said_of}
use Rattle.pn_cmd.specs.World.{world}
use Rattle.pn_cmd.specs.Points.{then}
use Rattle.pn_cmd.specs.Known.{project_of}
use Rattle.pn_cmd.specs.Chain.{lock_at, graph_at, tree}
use Rattle.pn_text.proofs.Results.{if_err}
use Rattle.pn_fs.proofs.SeenLemmas.{keeps_same}
use Rattle.pn_collect.specs.Packages.{FoldersStand}
use Rattle.pn_cmd.proofs.PassedLemmas.{goal_ready}
use Rattle.pn_cmd.proofs.PointLemmas.{first_refuses, second_refuses, kept}
use Rattle.pn_cmd.proofs.gather.gather_goal.Goals as goal

pub returns-in-Err-clause-refused : goal.returns-in-Err-clause-refused
returns-in-Err-clause-refused g c store out =
    let p = g.P.ReadFs.seen in
    let r = g.R.ReadFs.seen in
    first_refuses lock_at (then graph_at tree) (project_of c.args.place.now (said_of c.args.manifest)) (world (p c.args.project.now) (r c.args.registry.now) store out) (world (p c.nothing_stands.new.project) (r c.args.registry.now) store out) c.in-Err.status
    (c.in-Err.ensures.refused (r c.args.registry.now) store out)

pub returns-in-Err-graph-clause-refused : goal.returns-in-Err-graph-clause-refused
returns-in-Err-graph-clause-refused g c store out =
    let p = g.P.ReadFs.seen in
    let r = g.R.ReadFs.seen in
    let k = project_of c.args.place.now (said_of c.args.manifest) in
    let mid = world (p c.nothing_stands.new.project) (r c.args.registry.now) store out in
    let new = world (p c.nothing_stands.new.project) (r c.graph.new.registry) store out in
    second_refuses lock_at (then graph_at tree) k k (world (p c.args.project.now) (r c.args.registry.now) store out) mid new c.in-Err-graph.status
    (kept (p c.args.project.now) (p c.nothing_stands.new.project) (r c.args.registry.now) (r c.args.registry.now) store out c.in_default.ensures.kept (keeps_same (r c.args.registry.now)))
    (record { value = tt; found = c.in_default.ensures.passed; is = refl })
    (first_refuses graph_at tree k mid new c.in-Err-graph.status (c.in-Err-graph.ensures.refused (p c.nothing_stands.new.project) store out))

pub returns-in-Ok-clause-refused : goal.returns-in-Ok-clause-refused
returns-in-Ok-clause-refused g c store out =
    let p = g.P.ReadFs.seen in
    let r = g.R.ReadFs.seen in
    let k = project_of c.args.place.now (said_of c.args.manifest) in
    let plain = c.in-Ok.plain in
    let mid = world (p c.nothing_stands.new.project) (r c.args.registry.now) store out in
    let then_mid = world (p c.nothing_stands.new.project) (r c.graph.new.registry) store out in
    let new = world (p c.gather_tree.new.project) (r c.gather_tree.new.registry) store out in
    if_err c.gather_tree.result (λ s h.
    second_refuses lock_at (then graph_at tree) k k (world (p c.args.project.now) (r c.args.registry.now) store out) mid new s
    (kept (p c.args.project.now) (p c.nothing_stands.new.project) (r c.args.registry.now) (r c.args.registry.now) store out c.in_default.ensures.kept (keeps_same (r c.args.registry.now)))
    (record { value = tt; found = c.in_default.ensures.passed; is = refl })
    (second_refuses graph_at tree k (record { project = k; plain = plain }) mid then_mid new s
    (kept (p c.nothing_stands.new.project) (p c.nothing_stands.new.project) (r c.args.registry.now) (r c.graph.new.registry) store out (keeps_same (p c.nothing_stands.new.project)) c.in-Ok.ensures.kept)
    (record { value = plain; found = c.in-Ok.ensures.graph; is = refl })
    h)) (c.gather_tree.ensures.refused (said_of c.args.manifest) store out)

pub gather_tree-requires-clause-stand : goal.gather_tree-requires-clause-stand
gather_tree-requires-clause-stand g c = subst (λ (r : Option Tree). FoldersStand r c.in-Ok.plain) (sym c.in-Ok.ensures.kept.tree) c.in-Ok.ensures.stand

pub returns-in-Ok-clause-ready : goal.returns-in-Ok-clause-ready
returns-in-Ok-clause-ready g c =
    let p = g.P.ReadFs.seen in
    let r = g.R.ReadFs.seen in
    goal_ready c.gather_tree.result c.args.place.now (said_of c.args.manifest) c.in-Ok.plain (p c.args.project.now) (p c.nothing_stands.new.project) (r c.args.registry.now) (r c.graph.new.registry) c.in_default.ensures.kept c.in-Ok.ensures.kept c.in_default.ensures.passed
    c.in-Ok.ensures.graph (c.gather_tree.ensures.ready (said_of c.args.manifest))
