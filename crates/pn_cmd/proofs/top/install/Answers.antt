use Rattle.std.proofs.Common.{map, string_bytes, refl, sym, subst, ap, ◌∙◌, Option}
use Rattle.std.specs.List.{All}
use Rattle.pn_fs.specs.Tree.{Tree}
use Rattle.pn_fs.proofs.SeenLemmas.{keeps_on}
use Rattle.pn_collect.specs.Packages.{ArePackages}
use Rattle.pn_fetch.specs.Puts.{WasPut, places}
use Rattle.pn_cmd.specs.World.{inputs, trees_of, world}
use Rattle.pn_cmd.specs.Known.{sources_of}
use Rattle.pn_cmd.specs.Fetches.{Filled}
use Rattle.pn_cmd.specs.Reports.{report_of}
use Rattle.pn_cmd.specs.Endings.{refused}
use Rattle.pn_cmd.proofs.PointLemmas.{kept}
use Rattle.pn_cmd.proofs.EndingLemmas.{built, found_from, gathered_of, plan_found, unprepared_by, ready_scan, ready_ours, ready_rooted, stopped_by, reported_by}
use Rattle.pn_cmd.proofs.top.install.Goals as goal

pub returns-in-Err : goal.returns-in-Err
returns-in-Err g c =
    let e = c.in-Err.ensures in
    refused c.in-Err.status (e.refused (g.D.StoreDisk.seen c.args.store.now) (g.O.Sink.seen c.args.out.now)) (record {
      unwritten = record { project = e.project.tree; registry = e.registry.tree; touched = e.project.touched; out = refl };
      store = refl;
    })

pub returns-in-Err-report : goal.returns-in-Err-report
returns-in-Err-report g c =
    let e = c.in-Ok.ensures in
    refused _ tt (record {
      unwritten = record { project = e.project.tree; registry = e.registry.tree; touched = e.project.touched; out = refl };
      store = refl;
    })

pub prepare-requires-clause-packages : goal.prepare-requires-clause-packages
prepare-requires-clause-packages g c =
    let old = world (g.P.ReadFs.seen c.args.project.now) (g.R.ReadFs.seen c.args.registry.now) (g.D.StoreDisk.seen c.args.store.now) (g.O.Sink.seen c.args.out.now) in
    let e = c.in-Ok.ensures in
    let is = e.ready in
    let p = gathered_of (inputs (map string_bytes c.args.words.now) c.args.place.now) (trees_of old) c.in-Ok.gathered is in
    (is.plain, is.direct, subst (λ (r : Option Tree). ArePackages r is.plain c.in-Ok.gathered.packages.items) (sym e.registry.tree) p.listed)

pub returns-in-Err-prepare : goal.returns-in-Err-prepare
returns-in-Err-prepare g c =
    let p = g.P.ReadFs.seen in
    let r = g.R.ReadFs.seen in
    let d = g.D.StoreDisk.seen in
    let out = g.O.Sink.seen c.args.out.now in
    let is = c.in-Ok.ensures.ready in
    let e = c.in-Err-prepare.ensures in
    unprepared_by c.in-Err-prepare.status (inputs (map string_bytes c.args.words.now) c.args.place.now) (world (p c.args.project.now) (r c.args.registry.now) (d c.args.store.now) out) (world (p c.gather.new.project) (r c.gather.new.registry) (d c.args.store.now) out)
    (world (p c.gather.new.project) (r c.prepare.new.registry) (d c.prepare.new.store) out) c.in-Ok.gathered
    (kept (p c.args.project.now) (p c.gather.new.project) (r c.args.registry.now) (r c.gather.new.registry) (d c.args.store.now) out c.in-Ok.ensures.project c.in-Ok.ensures.registry) is refl c.in-Ok.ensures.project.touched e.registry refl e.filled e.left
    (e.refused (p c.gather.new.project) out is.said is.plain is.direct)

pub write-requires-clause-scan : goal.write-requires-clause-scan
write-requires-clause-scan g c =
    let p = g.P.ReadFs.seen in
    let e = c.in-Ok.ensures in
    ready_scan c.args.place.now c.in-Ok.gathered.scan (p c.args.project.now) (p c.gather.new.project) e.project e.ready.scan

pub write-requires-clause-ours : goal.write-requires-clause-ours
write-requires-clause-ours g c =
    let p = g.P.ReadFs.seen in
    let r = g.R.ReadFs.seen in
    let i = inputs (map string_bytes c.args.words.now) c.args.place.now in
    let old = world (p c.args.project.now) (r c.args.registry.now) (g.D.StoreDisk.seen c.args.store.now) (g.O.Sink.seen c.args.out.now) in
    let e = c.in-Ok.ensures in
    ready_ours c.args.place.now c.in-Ok.gathered.scan (p c.args.project.now) (p c.gather.new.project) e.project e.ready.scan (gathered_of i (trees_of old) c.in-Ok.gathered e.ready).scanned

pub write-requires-clause-rooted : goal.write-requires-clause-rooted
write-requires-clause-rooted g c =
    let p = g.P.ReadFs.seen in
    let r = g.R.ReadFs.seen in
    let out = g.O.Sink.seen c.args.out.now in
    let i = inputs (map string_bytes c.args.words.now) c.args.place.now in
    let old = world (p c.args.project.now) (r c.args.registry.now) (g.D.StoreDisk.seen c.args.store.now) out in
    let e = c.in-Ok.ensures in
    let f = c.in-Ok-prepare.ensures in
    let all = c.in-Ok.gathered in
    let ready = c.in-Ok-prepare.ready in
    let found = found_from (p c.args.project.now) (r c.args.registry.now) (r c.gather.new.registry) (sources_of i.place e.ready.said e.ready.plain all.packages.items) (built i (trees_of old) all e.ready ready) e.registry (f.ready (p c.args.project.now) e.ready.said e.ready.plain e.ready.direct) in
    ready_rooted c.args.place.now all.scan (p c.args.project.now).tree ready.plan e.ready.scan (plan_found i (trees_of old) all ready e.ready found).planned.closed

pub returns-in-Err-write : goal.returns-in-Err-write
returns-in-Err-write g c =
    let p = g.P.ReadFs.seen in
    let r = g.R.ReadFs.seen in
    let d = g.D.StoreDisk.seen in
    let out = g.O.Sink.seen c.args.out.now in
    let i = inputs (map string_bytes c.args.words.now) c.args.place.now in
    let old = world (p c.args.project.now) (r c.args.registry.now) (d c.args.store.now) out in
    let e = c.in-Ok.ensures in
    let f = c.in-Ok-prepare.ensures in
    let w = c.in-Err-write in
    let all = c.in-Ok.gathered in
    let ready = c.in-Ok-prepare.ready in
    stopped_by w.status i old (world (p c.gather.new.project) (r c.prepare.new.registry) (d c.prepare.new.store) out) (world (p c.write.new.project) (r c.prepare.new.registry) (d c.write.new.store) out) all ready
    (record { project = e.project; registry = keeps_on (r c.args.registry.now) (r c.gather.new.registry) (r c.prepare.new.registry) e.registry f.registry; out = refl }) e.ready
    (found_from (p c.args.project.now) (r c.args.registry.now) (r c.gather.new.registry) (sources_of i.place e.ready.said e.ready.plain all.packages.items) (built i (trees_of old) all e.ready ready) e.registry (f.ready (p c.args.project.now) e.ready.said e.ready.plain e.ready.direct))
    (record {
      filled = subst (λ (t : Option Tree). Filled t all.packages.items (d c.args.store.now) (d c.prepare.new.store)) e.registry.tree f.filled;
      released = f.released;
      stored = f.stored;
      put = subst (λ (t : Option Tree). All (WasPut t (d c.args.store.now) (d c.prepare.new.store)) (places all.packages.items)) e.registry.tree f.put;
      listed = f.listed;
      reads = w.ensures.reads;
      spares = w.ensures.spares;
      keeps = w.ensures.keeps;
      registry = refl;
    }) refl w.ensures.err (w.ensures.cause (r c.prepare.new.registry) out)

pub returns : goal.returns
returns g c =
    let p = g.P.ReadFs.seen in
    let r = g.R.ReadFs.seen in
    let d = g.D.StoreDisk.seen in
    let out = g.O.Sink.seen c.args.out.now in
    let i = inputs (map string_bytes c.args.words.now) c.args.place.now in
    let old = world (p c.args.project.now) (r c.args.registry.now) (d c.args.store.now) out in
    let e = c.in-Ok.ensures in
    let f = c.in-Ok-prepare.ensures in
    let w = c.in_default.ensures in
    let all = c.in-Ok.gathered in
    let ready = c.in-Ok-prepare.ready in
    reported_by c.grew_law.ensures c.tell_report.result i old (world (p c.gather.new.project) (r c.prepare.new.registry) (d c.prepare.new.store) out) (world (p c.write.new.project) (r c.prepare.new.registry) (d c.write.new.store) (g.O.Sink.seen c.tell_report.new.out)) c.as_str.result.now all ready
    (g.met.P.ReadFs.well_formed c.write.new.project)
    (record { project = e.project; registry = keeps_on (r c.args.registry.now) (r c.gather.new.registry) (r c.prepare.new.registry) e.registry f.registry; out = refl }) e.ready
    (found_from (p c.args.project.now) (r c.args.registry.now) (r c.gather.new.registry) (sources_of i.place e.ready.said e.ready.plain all.packages.items) (built i (trees_of old) all e.ready ready) e.registry (f.ready (p c.args.project.now) e.ready.said e.ready.plain e.ready.direct))
    (record {
      filled = subst (λ (t : Option Tree). Filled t all.packages.items (d c.args.store.now) (d c.prepare.new.store)) e.registry.tree f.filled;
      released = f.released;
      stored = f.stored;
      put = subst (λ (t : Option Tree). All (WasPut t (d c.args.store.now) (d c.prepare.new.store)) (places all.packages.items)) e.registry.tree f.put;
      listed = f.listed;
      reads = w.reads;
      spares = w.spares;
      keeps = w.keeps;
      registry = refl;
    }) w.ok (c.as_str.ensures.value ∙ c.in-Ok-report.ensures ∙ ap report_of (c.len.ensures ∙ all.packages.ok.0)) c.tell_report.ensures
