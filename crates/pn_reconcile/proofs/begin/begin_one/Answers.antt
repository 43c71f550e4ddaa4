use Rattle.std.proofs.Common.{◌∷◌}
use Rattle.pn_text.proofs.Results.{on_ok, on_err, any_err}
use Rattle.pn_digest.specs.declared.planned.Planned.TheVariants.{Bytes}
use Rattle.pn_scan.specs.Managed.{marker_name}
use Rattle.pn_reconcile.specs.Phases.{IsDown}
use Rattle.pn_reconcile.proofs.BoundsLemmas.{within_one, within_stopped}
use Rattle.pn_reconcile.proofs.KeepsLemmas.{differs, keeps_both, keeps_down, keeps_half_down, told_made}
use Rattle.pn_reconcile.proofs.BeginsLemmas.{begun_made, free_made, half_made_down, half_made_marker, spares_down, spares_one, stands_made}
use Rattle.pn_reconcile.proofs.begin.begin_one.Goals as goal

pub returns-in_err-make_down-clause-err : goal.returns-in_err-make_down-clause-err
returns-in_err-make_down-clause-err g c =
    let tree = g.P.ReadFs.seen in
    any_err c.from_residual.result (half_made_down c.args.one.now (tree c.args.fs.now).tree (tree c.make_down.new.fs).tree c.requires.ours c.in_err-make_down.ensures.err)

pub returns-in_err-make_down-clause-spares : goal.returns-in_err-make_down-clause-spares
returns-in_err-make_down-clause-spares g c =
    let tree = g.P.ReadFs.seen in
    spares_down c.args.plan.now c.requires.plan c.args.one.now c.requires.marker (tree c.args.fs.now) (tree c.make_down.new.fs) c.in_err-make_down.ensures.touched

pub returns-in_err-make_down-clause-keeps : goal.returns-in_err-make_down-clause-keeps
returns-in_err-make_down-clause-keeps g c =
    let tree = g.P.ReadFs.seen in
    keeps_half_down c.args.plan.now c.args.one.now.0 (tree c.args.fs.now).tree (tree c.make_down.new.fs).tree c.in_err-make_down.ensures.err

pub mark-requires-clause-stands : goal.mark-requires-clause-stands
mark-requires-clause-stands g c =
    let tree = g.P.ReadFs.seen in
    stands_made c.args.one.now (tree c.args.fs.now).tree (tree c.make_down.new.fs).tree c.in_ok-make_down.ensures.ok

pub mark-requires-clause-free : goal.mark-requires-clause-free
mark-requires-clause-free g c =
    let tree = g.P.ReadFs.seen in
    free_made c.args.one.now (tree c.args.fs.now).tree (tree c.make_down.new.fs).tree c.requires.ours c.in_ok-make_down.ensures.ok

pub returns-clause-ok : goal.returns-clause-ok
returns-clause-ok g c =
    let tree = g.P.ReadFs.seen in
    on_ok c.mark.result (begun_made c.args.one.now (tree c.args.fs.now).tree (tree c.make_down.new.fs).tree (tree c.mark.new.fs).tree c.in_ok-make_down.ensures.ok) c.mark.ensures.ok

pub returns-clause-err : goal.returns-clause-err
returns-clause-err g c =
    let tree = g.P.ReadFs.seen in
    on_err c.mark.result (half_made_marker c.args.one.now (tree c.args.fs.now).tree (tree c.make_down.new.fs).tree (tree c.mark.new.fs).tree c.requires.ours c.in_ok-make_down.ensures.ok) c.mark.ensures.err

pub returns-clause-spares : goal.returns-clause-spares
returns-clause-spares g c =
    let tree = g.P.ReadFs.seen in
    spares_one c.args.plan.now c.requires.plan c.args.one.now c.requires.marker (tree c.args.fs.now) (tree c.make_down.new.fs) (tree c.mark.new.fs) c.in_ok-make_down.ensures.ok c.in_ok-make_down.ensures.touched c.mark.ensures.touches

pub returns-in_err-make_down-clause-gave : goal.returns-in_err-make_down-clause-gave
returns-in_err-make_down-clause-gave g c =
    let tree = g.P.ReadFs.seen in
    within_stopped c.args.plan.now _ c.args.one.now.0 (tree c.args.fs.now) (tree c.make_down.new.fs) c.in_err-make_down.ensures.err c.in_err-make_down.ensures.gave

pub returns-clause-gave : goal.returns-clause-gave
returns-clause-gave g c =
    let tree = g.P.ReadFs.seen in
    let m = c.args.one.now in
    let mid = tree c.make_down.new.fs in
    let new = tree c.mark.new.fs in
    within_one c.args.plan.now m (tree c.args.fs.now) mid new c.requires.plan c.requires.marker c.in_ok-make_down.ensures.ok c.in_ok-make_down.ensures.gave
    (differs c.mark.result (marker_name ∷ m.0, Bytes m.1) mid.tree new.tree c.mark.ensures.ok c.mark.ensures.err) c.mark.ensures.gave

pub returns-clause-keeps : goal.returns-clause-keeps
returns-clause-keeps g c =
    let tree = g.P.ReadFs.seen in
    let plan = c.args.plan.now in
    let p = c.args.one.now.0 in
    let old = (tree c.args.fs.now).tree in
    let mid = (tree c.make_down.new.fs).tree in
    keeps_both plan old mid (tree c.mark.new.fs).tree (told_made (IsDown p) old mid c.in_ok-make_down.ensures.ok) (keeps_down plan p old mid c.in_ok-make_down.ensures.ok) c.mark.ensures.keeps
