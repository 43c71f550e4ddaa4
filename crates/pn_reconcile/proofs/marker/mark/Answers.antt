use Rattle.std.proofs.Common.{◌≡◌, ◌∷◌, true, ap, sym, subst}
use Rattle.std.specs.Prelude.{OnOk, OnErr, IfSome}
use Rattle.pn_text.specs.Path.{SpellsAbs}
use Rattle.pn_fs.specs.Calls.{kind_of}
use Rattle.pn_fs.specs.Seen.{GaveAtMost}
use Rattle.pn_fs.specs.Tree.{HasParent}
use Rattle.pn_scan.specs.Managed.{marker_name}
use Rattle.pn_repair.specs.Repairs.{Repaired, HalfRepaired, Touches, fits, most_read}
use Rattle.pn_repair.specs.Stands.{NeedsNoFile}
use Rattle.pn_clear.specs.Items.{Item}
use Rattle.pn_reconcile.proofs.BeginsLemmas.{marker_entry, marker_fits}
use Rattle.pn_reconcile.proofs.KeepsLemmas.{keeps_next}
use Rattle.pn_reconcile.proofs.RefusedLemmas.{text_refused}
use Rattle.pn_reconcile.proofs.marker.mark.Goals as goal

pub repair_next-requires-clause-fits : goal.repair_next-requires-clause-fits
repair_next-requires-clause-fits g c t told =
    let m = c.args.one.now in
    let text = subst (λ x. SpellsAbs x (marker_name ∷ m.0)) (sym c.as_str.ensures.value) c.in_ok-text.ensures.ok in
    let same = marker_entry c.args.plan.now c.requires.plan m c.requires.planned c.in-Some.entry.now c.as_str.result.now c.in-Some.ensures.0 c.in-Some.ensures.1 text in
    subst (λ (e : Item). fits e.1 (kind_of (t e.0)) ≡ true) (sym same) (marker_fits t m (c.requires.free t told))

pub repair_next-requires-clause-parent : goal.repair_next-requires-clause-parent
repair_next-requires-clause-parent g c t told none =
    let m = c.args.one.now in
    let text = subst (λ x. SpellsAbs x (marker_name ∷ m.0)) (sym c.as_str.ensures.value) c.in_ok-text.ensures.ok in
    let same = marker_entry c.args.plan.now c.requires.plan m c.requires.planned c.in-Some.entry.now c.as_str.result.now c.in-Some.ensures.0 c.in-Some.ensures.1 text in
    subst (λ (e : Item). HasParent t e.0) (sym same) (c.requires.stands t told)

pub returns-clause-ok : goal.returns-clause-ok
returns-clause-ok g c =
    let m = c.args.one.now in
    let tree = g.P.ReadFs.seen in
    let text = subst (λ x. SpellsAbs x (marker_name ∷ m.0)) (sym c.as_str.ensures.value) c.in_ok-text.ensures.ok in
    let same = marker_entry c.args.plan.now c.requires.plan m c.requires.planned c.in-Some.entry.now c.as_str.result.now c.in-Some.ensures.0 c.in-Some.ensures.1 text in
    subst (λ (e : Item). OnOk c.repair_next.result (Repaired e (tree c.args.fs.now).tree (tree c.repair_next.new.fs).tree)) same c.repair_next.ensures.ok

pub returns-clause-err : goal.returns-clause-err
returns-clause-err g c =
    let m = c.args.one.now in
    let tree = g.P.ReadFs.seen in
    let text = subst (λ x. SpellsAbs x (marker_name ∷ m.0)) (sym c.as_str.ensures.value) c.in_ok-text.ensures.ok in
    let same = marker_entry c.args.plan.now c.requires.plan m c.requires.planned c.in-Some.entry.now c.as_str.result.now c.in-Some.ensures.0 c.in-Some.ensures.1 text in
    subst (λ (e : Item). OnErr c.repair_next.result (HalfRepaired e (tree c.args.fs.now).tree (tree c.repair_next.new.fs).tree)) same c.repair_next.ensures.err

pub returns-clause-touches : goal.returns-clause-touches
returns-clause-touches g c =
    let m = c.args.one.now in
    let tree = g.P.ReadFs.seen in
    let text = subst (λ x. SpellsAbs x (marker_name ∷ m.0)) (sym c.as_str.ensures.value) c.in_ok-text.ensures.ok in
    let same = marker_entry c.args.plan.now c.requires.plan m c.requires.planned c.in-Some.entry.now c.as_str.result.now c.in-Some.ensures.0 c.in-Some.ensures.1 text in
    subst (λ (e : Item). Touches e (tree c.args.fs.now) (tree c.repair_next.new.fs)) same c.repair_next.ensures.touches

pub returns-clause-keeps : goal.returns-clause-keeps
returns-clause-keeps g c =
    let tree = g.P.ReadFs.seen in
    keeps_next c.repair_next.result c.args.plan.now c.in-Some.entry.now (tree c.args.fs.now).tree (tree c.repair_next.new.fs).tree c.requires.plan c.in-Some.ensures.0 c.repair_next.ensures.ok c.repair_next.ensures.err c.repair_next.ensures.right_stays

pub returns-clause-gave : goal.returns-clause-gave
returns-clause-gave g c =
    let m = c.args.one.now in
    let old = g.P.ReadFs.seen c.args.fs.now in
    let text = subst (λ x. SpellsAbs x (marker_name ∷ m.0)) (sym c.as_str.ensures.value) c.in_ok-text.ensures.ok in
    let same = marker_entry c.args.plan.now c.requires.plan m c.requires.planned c.in-Some.entry.now c.as_str.result.now c.in-Some.ensures.0 c.in-Some.ensures.1 text in
    subst (λ (e : Item). IfSome old.tree (λ t. GaveAtMost old (most_read e.1 (kind_of (t e.0))) 0 (g.P.ReadFs.seen c.repair_next.new.fs))) same c.repair_next.ensures.gave

pub returns-clause-unasked : goal.returns-clause-unasked
returns-clause-unasked g c =
    let m = c.args.one.now in
    let text = subst (λ x. SpellsAbs x (marker_name ∷ m.0)) (sym c.as_str.ensures.value) c.in_ok-text.ensures.ok in
    let same = marker_entry c.args.plan.now c.requires.plan m c.requires.planned c.in-Some.entry.now c.as_str.result.now c.in-Some.ensures.0 c.in-Some.ensures.1 text in
    c.repair_next.ensures.asks (subst (λ (e : Item). NeedsNoFile e.1 e.0 (g.P.ReadFs.seen c.args.fs.now).tree) (sym same) tt)

pub returns-clause-fault : goal.returns-clause-fault
returns-clause-fault g c =
    let m = c.args.one.now in
    let text = subst (λ x. SpellsAbs x (marker_name ∷ m.0)) (sym c.as_str.ensures.value) c.in_ok-text.ensures.ok in
    let same = marker_entry c.args.plan.now c.requires.plan m c.requires.planned c.in-Some.entry.now c.as_str.result.now c.in-Some.ensures.0 c.in-Some.ensures.1 text in
    let tree = g.P.ReadFs.seen in
    let store = g.D.StoreDisk.seen in
    text_refused c.repair_next.result c.in-Some.entry.now.1 m.1 (tree c.args.fs.now) (tree c.repair_next.new.fs) (store c.args.disk.now) (store c.repair_next.new.disk) (ap (λ (e : Item). e.1) same) c.repair_next.ensures.of_plan c.repair_next.ensures.fault
