use Rattle.std.proofs.Common.{map, string_bytes, refl, sym, ◌∙◌}
use Rattle.pn_cmd.specs.World.{inputs, world}
use Rattle.pn_cmd.specs.Points.{then}
use Rattle.pn_cmd.specs.Known.{space_of}
use Rattle.pn_cmd.specs.Chain.{words_at, workspace_at, from_manifest}
use Rattle.pn_text.proofs.Results.{if_err}
use Rattle.pn_fs.proofs.SeenLemmas.{keeps_same}
use Rattle.pn_cmd.proofs.PointLemmas.{first_refuses, second_refuses, kept, kept_none}
use Rattle.pn_cmd.proofs.PassedLemmas.{ready_from}
use Rattle.pn_cmd.proofs.gather.gather.Goals as goal

pub returns-in-Err-clause-refused : goal.returns-in-Err-clause-refused
returns-in-Err-clause-refused g c store out =
    let p = g.P.ReadFs.seen in
    let registry = g.R.ReadFs.seen c.args.registry.now in
    let place = c.args.place.now in
    let i = inputs (map string_bytes c.args.words.now) place in
    let old = world (p c.args.project.now) registry store out in
    let new = world (p c.workspace.new.project) registry store out in
    second_refuses words_at (then workspace_at from_manifest) i place old old new c.in-Err.status (kept_none old)
    (record { value = tt; found = sym c.is_install.ensures ∙ c.if-not-is_install.false; is = refl })
    (first_refuses workspace_at from_manifest place old new c.in-Err.status (c.in-Err.ensures.refused registry store out))

pub returns-in-Ok-clause-refused : goal.returns-in-Ok-clause-refused
returns-in-Ok-clause-refused g c store out =
    let p = g.P.ReadFs.seen in
    let r = g.R.ReadFs.seen in
    let registry = r c.args.registry.now in
    let place = c.args.place.now in
    let w = c.in-Ok.workspace in
    let i = inputs (map string_bytes c.args.words.now) place in
    let old = world (p c.args.project.now) registry store out in
    let mid = world (p c.workspace.new.project) registry store out in
    let new = world (p c.gather_space.new.project) (r c.gather_space.new.registry) store out in
    if_err c.gather_space.result (λ s h.
    second_refuses words_at (then workspace_at from_manifest) i place old old new s (kept_none old)
    (record { value = tt; found = sym c.is_install.ensures ∙ c.if-not-is_install.false; is = refl })
    (second_refuses workspace_at from_manifest place (space_of place w) old mid new s
    (kept (p c.args.project.now) (p c.workspace.new.project) registry registry store out c.in-Ok.ensures.kept (keeps_same registry))
    (record { value = w; found = c.in-Ok.ensures.found; is = refl })
    h)) (c.gather_space.ensures.refused store out)

pub returns-in-Ok-clause-ready : goal.returns-in-Ok-clause-ready
returns-in-Ok-clause-ready g c =
    let p = g.P.ReadFs.seen in
    ready_from c.gather_space.result (inputs (map string_bytes c.args.words.now) c.args.place.now) c.in-Ok.workspace (p c.args.project.now) (p c.workspace.new.project) (g.R.ReadFs.seen c.args.registry.now) c.in-Ok.ensures.kept
    (sym c.is_install.ensures ∙ c.if-not-is_install.false) c.in-Ok.ensures.found c.gather_space.ensures.ready
