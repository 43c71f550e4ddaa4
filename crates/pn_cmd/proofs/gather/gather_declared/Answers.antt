use Rattle.std.proofs.Common.{refl}
use Rattle.pn_manifest.specs.Says.{said_of}
use Rattle.pn_cmd.specs.World.{trees, world}
use Rattle.pn_cmd.specs.Known.{declared_of, project_of}
use Rattle.pn_cmd.specs.Chain.{store_at, goal as goal_point}
use Rattle.pn_text.proofs.Results.{if_err}
use Rattle.pn_cmd.proofs.PointLemmas.{first_refuses, second_refuses, kept_none}
use Rattle.pn_cmd.proofs.PassedLemmas.{declared_ready}
use Rattle.pn_cmd.proofs.gather.gather_declared.Goals as goal

pub returns-in-Err-clause-refused : goal.returns-in-Err-clause-refused
returns-in-Err-clause-refused g c store out =
    let old = world (g.P.ReadFs.seen c.args.project.now) (g.R.ReadFs.seen c.args.registry.now) store out in
    first_refuses store_at goal_point (declared_of c.args.place.now c.args.workspace.now (said_of c.args.manifest)) old old c.in-Err.status (c.in-Err.ensures.refused old)

pub returns-in-Ok-clause-refused : goal.returns-in-Ok-clause-refused
returns-in-Ok-clause-refused g c store out =
    let p = g.P.ReadFs.seen in
    let r = g.R.ReadFs.seen in
    let place = c.args.place.now in
    let own = said_of c.args.manifest in
    let old = world (p c.args.project.now) (r c.args.registry.now) store out in
    let new = world (p c.gather_goal.new.project) (r c.gather_goal.new.registry) store out in
    if_err c.gather_goal.result (λ s h.
    second_refuses store_at goal_point (declared_of place c.args.workspace.now own) (project_of place own) old old new s (kept_none old)
    (record { value = tt; found = c.in-Ok.ensures.passed; is = refl })
    h) (c.gather_goal.ensures.refused store out)

pub returns-in-Ok-clause-ready : goal.returns-in-Ok-clause-ready
returns-in-Ok-clause-ready g c =
    declared_ready c.gather_goal.result c.args.place.now c.args.workspace.now (said_of c.args.manifest) (trees (g.P.ReadFs.seen c.args.project.now) (g.R.ReadFs.seen c.args.registry.now)) c.in-Ok.ensures.passed c.gather_goal.ensures.ready
