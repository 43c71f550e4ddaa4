use Rattle.std.proofs.Common.{refl}
use Rattle.pn_manifest.specs.Says.{said_of}
use Rattle.pn_cmd.specs.World.{world}
use Rattle.pn_cmd.specs.Known.{space_of, declared_of}
use Rattle.pn_cmd.specs.Chain.{manifest_at, from_store}
use Rattle.pn_text.proofs.Results.{if_err}
use Rattle.pn_fs.proofs.SeenLemmas.{keeps_same}
use Rattle.pn_cmd.proofs.PointLemmas.{first_refuses, second_refuses, kept}
use Rattle.pn_cmd.proofs.PassedLemmas.{space_ready}
use Rattle.pn_cmd.proofs.gather.gather_space.Goals as goal

pub returns-in-Err-clause-refused : goal.returns-in-Err-clause-refused
returns-in-Err-clause-refused g c store out =
    let p = g.P.ReadFs.seen in
    let registry = g.R.ReadFs.seen c.args.registry.now in
    first_refuses manifest_at from_store (space_of c.args.place.now c.args.workspace.now) (world (p c.args.project.now) registry store out) (world (p c.read_manifest.new.project) registry store out) c.in-Err.status (c.in-Err.ensures.refused registry store out)

pub returns-in-Ok-clause-refused : goal.returns-in-Ok-clause-refused
returns-in-Ok-clause-refused g c store out =
    let p = g.P.ReadFs.seen in
    let r = g.R.ReadFs.seen in
    let registry = r c.args.registry.now in
    let place = c.args.place.now in
    let own = said_of c.in-Ok.manifest in
    let old = world (p c.args.project.now) registry store out in
    let mid = world (p c.read_manifest.new.project) registry store out in
    let new = world (p c.gather_declared.new.project) (r c.gather_declared.new.registry) store out in
    if_err c.gather_declared.result (λ s h.
    second_refuses manifest_at from_store (space_of place c.args.workspace.now) (declared_of place c.args.workspace.now own) old mid new s
    (kept (p c.args.project.now) (p c.read_manifest.new.project) registry registry store out c.in-Ok.ensures.kept (keeps_same registry))
    (record { value = own; found = c.in-Ok.ensures.found; is = refl })
    h) (c.gather_declared.ensures.refused store out)

pub returns-in-Ok-clause-ready : goal.returns-in-Ok-clause-ready
returns-in-Ok-clause-ready g c =
    let p = g.P.ReadFs.seen in
    space_ready c.gather_declared.result c.args.place.now c.args.workspace.now (said_of c.in-Ok.manifest) (p c.args.project.now) (p c.read_manifest.new.project) (g.R.ReadFs.seen c.args.registry.now) c.in-Ok.ensures.kept c.in-Ok.ensures.found c.gather_declared.ensures.ready
