use Rattle.std.proofs.Common.{refl}
use Rattle.pn_cmd.specs.World.{world}
use Rattle.pn_cmd.specs.Known.{graph_of}
use Rattle.pn_cmd.specs.Chain.{scanned_at, listed_at}
use Rattle.pn_fs.proofs.SeenLemmas.{keeps_same}
use Rattle.pn_cmd.proofs.PointLemmas.{first_refuses, second_refuses, kept}
use Rattle.pn_cmd.proofs.gather.gather_tree.Goals as goal

pub returns-in-Err-clause-refused : goal.returns-in-Err-clause-refused
returns-in-Err-clause-refused g c said store out =
    let p = g.P.ReadFs.seen in
    let r = g.R.ReadFs.seen in
    let k = graph_of c.args.place.now said c.args.plain.now in
    first_refuses scanned_at listed_at k (world (p c.args.project.now) (r c.args.registry.now) store out) (world (p c.scanned.new.project) (r c.args.registry.now) store out) c.in-Err.status (c.in-Err.ensures.refused (r c.args.registry.now) store out)

pub returns-in-Err-packages-clause-refused : goal.returns-in-Err-packages-clause-refused
returns-in-Err-packages-clause-refused g c said store out =
    let p = g.P.ReadFs.seen in
    let r = g.R.ReadFs.seen in
    let k = graph_of c.args.place.now said c.args.plain.now in
    let old = world (p c.args.project.now) (r c.args.registry.now) store out in
    let mid = world (p c.scanned.new.project) (r c.args.registry.now) store out in
    let new = world (p c.scanned.new.project) (r c.packages.new.registry) store out in
    let s = c.in-Err-packages.status in
    second_refuses scanned_at listed_at k k old mid new s
    (kept (p c.args.project.now) (p c.scanned.new.project) (r c.args.registry.now) (r c.args.registry.now) store out c.in-Ok.ensures.kept (keeps_same (r c.args.registry.now)))
    (record { value = tt; found = c.in-Ok.ensures.passed; is = refl })
    (c.in-Err-packages.ensures.refused (p c.scanned.new.project) store out)

pub returns-clause-ready : goal.returns-clause-ready
returns-clause-ready g c said = record {
  direct = c.in-Ok-packages.ensures.direct;
  scan = c.in-Ok.ensures.scan;
  finds = record {
    value = graph_of c.args.place.now said c.args.plain.now;
    first = record { value = tt; found = c.in-Ok.ensures.passed; is = refl };
    rest = record { value = c.in-Ok-packages.collected.packages.items; found = c.in-Ok-packages.ensures.packages; is = refl };
  };
}
