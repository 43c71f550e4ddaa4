use Rattle.std.proofs.Common.{◌∙◌, arith, subst}
use Rattle.pn_text.proofs.Results.{on_ok, on_err, any_err}
use Rattle.pn_reconcile.specs.Phases.{scanned, IsBegun, IsHalfBegun}
use Rattle.pn_repair.specs.Writes.{ReadsStore}
use Rattle.pn_reconcile.specs.Bounds.{most_marked}
use Rattle.pn_reconcile.proofs.BoundsLemmas.{gave_within, gave_cleared}
use Rattle.pn_reconcile.proofs.KeepsLemmas.{told_half, told_made}
use Rattle.pn_reconcile.proofs.RefusedLemmas.{reads_same, refused_then}
use Rattle.pn_reconcile.proofs.PhasesLemmas.{stood, keeps_two, keeps_three, begun_half, may_clear, cleared_half, spares_two, may_repair, filled_whole, filled_half, spares_three, gave_three, needs_left, needed_left}
use Rattle.pn_reconcile.proofs.whole.in_parts.Goals as goal

pub returns-in_err-begin-clause-err : goal.returns-in_err-begin-clause-err
returns-in_err-begin-clause-err g c =
    let tree = g.P.ReadFs.seen in
    any_err _ (begun_half c.args.managed.now c.args.plan.now (tree c.args.fs.now).tree (tree c.begin.new.fs).tree c.requires.rooted c.in_err-begin.ensures.err)

pub clear-requires-clause-clear : goal.clear-requires-clause-clear
clear-requires-clause-clear g c =
    let tree = g.P.ReadFs.seen in
    let old = tree c.args.fs.now in
    let one = tree c.begin.new.fs in
    let both = scanned c.args.managed.now c.args.entries.now in
    let h = stood c.args.managed.now c.args.entries.now c.args.plan.now old one c.requires.plan c.requires.rooted c.requires.apart c.requires.scan c.requires.ours
    (g.met.P.ReadFs.well_formed c.args.fs.now) (g.met.P.ReadFs.well_formed c.begin.new.fs) c.in_ok-begin.ensures.ok c.in_ok-begin.ensures.spares c.in_ok-begin.ensures.keeps in
    may_clear both c.args.plan.now old one h

pub returns-in_err-clear-clause-err : goal.returns-in_err-clear-clause-err
returns-in_err-clear-clause-err g c =
    let tree = g.P.ReadFs.seen in
    let old = tree c.args.fs.now in
    let one = tree c.begin.new.fs in
    let both = scanned c.args.managed.now c.args.entries.now in
    let h = stood c.args.managed.now c.args.entries.now c.args.plan.now old one c.requires.plan c.requires.rooted c.requires.apart c.requires.scan c.requires.ours
    (g.met.P.ReadFs.well_formed c.args.fs.now) (g.met.P.ReadFs.well_formed c.begin.new.fs) c.in_ok-begin.ensures.ok c.in_ok-begin.ensures.spares c.in_ok-begin.ensures.keeps in
    any_err _ (cleared_half both c.args.plan.now old one h (tree c.clear.new.fs).tree c.in_err-clear.ensures.err)

pub returns-in_err-clear-clause-spares : goal.returns-in_err-clear-clause-spares
returns-in_err-clear-clause-spares g c =
    let tree = g.P.ReadFs.seen in
    let old = tree c.args.fs.now in
    let one = tree c.begin.new.fs in
    let both = scanned c.args.managed.now c.args.entries.now in
    let h = stood c.args.managed.now c.args.entries.now c.args.plan.now old one c.requires.plan c.requires.rooted c.requires.apart c.requires.scan c.requires.ours
    (g.met.P.ReadFs.well_formed c.args.fs.now) (g.met.P.ReadFs.well_formed c.begin.new.fs) c.in_ok-begin.ensures.ok c.in_ok-begin.ensures.spares c.in_ok-begin.ensures.keeps in
    spares_two both c.args.plan.now old one h (tree c.clear.new.fs) c.in_err-clear.ensures.touched

pub returns-in_err-clear-clause-keeps : goal.returns-in_err-clear-clause-keeps
returns-in_err-clear-clause-keeps g c =
    let tree = g.P.ReadFs.seen in
    let old = tree c.args.fs.now in
    let one = tree c.begin.new.fs in
    let both = scanned c.args.managed.now c.args.entries.now in
    let h = stood c.args.managed.now c.args.entries.now c.args.plan.now old one c.requires.plan c.requires.rooted c.requires.apart c.requires.scan c.requires.ours
    (g.met.P.ReadFs.well_formed c.args.fs.now) (g.met.P.ReadFs.well_formed c.begin.new.fs) c.in_ok-begin.ensures.ok c.in_ok-begin.ensures.spares c.in_ok-begin.ensures.keeps in
    keeps_two both c.args.plan.now old one h (tree c.clear.new.fs).tree c.in_err-clear.ensures.err

pub repair_all-requires-clause-ready : goal.repair_all-requires-clause-ready
repair_all-requires-clause-ready g c =
    let tree = g.P.ReadFs.seen in
    let old = tree c.args.fs.now in
    let one = tree c.begin.new.fs in
    let both = scanned c.args.managed.now c.args.entries.now in
    let h = stood c.args.managed.now c.args.entries.now c.args.plan.now old one c.requires.plan c.requires.rooted c.requires.apart c.requires.scan c.requires.ours
    (g.met.P.ReadFs.well_formed c.args.fs.now) (g.met.P.ReadFs.well_formed c.begin.new.fs) c.in_ok-begin.ensures.ok c.in_ok-begin.ensures.spares c.in_ok-begin.ensures.keeps in
    may_repair both c.args.plan.now old one h (tree c.clear.new.fs) c.in_ok-clear.ensures.ok

pub returns-clause-ok : goal.returns-clause-ok
returns-clause-ok g c =
    let tree = g.P.ReadFs.seen in
    let old = tree c.args.fs.now in
    let one = tree c.begin.new.fs in
    let both = scanned c.args.managed.now c.args.entries.now in
    let h = stood c.args.managed.now c.args.entries.now c.args.plan.now old one c.requires.plan c.requires.rooted c.requires.apart c.requires.scan c.requires.ours
    (g.met.P.ReadFs.well_formed c.args.fs.now) (g.met.P.ReadFs.well_formed c.begin.new.fs) c.in_ok-begin.ensures.ok c.in_ok-begin.ensures.spares c.in_ok-begin.ensures.keeps in
    on_ok c.repair_all.result (filled_whole both c.args.plan.now old one h (tree c.clear.new.fs) c.in_ok-clear.ensures.ok (tree c.repair_all.new.fs).tree) c.repair_all.ensures.ok

pub returns-clause-err : goal.returns-clause-err
returns-clause-err g c =
    let tree = g.P.ReadFs.seen in
    let old = tree c.args.fs.now in
    let one = tree c.begin.new.fs in
    let both = scanned c.args.managed.now c.args.entries.now in
    let h = stood c.args.managed.now c.args.entries.now c.args.plan.now old one c.requires.plan c.requires.rooted c.requires.apart c.requires.scan c.requires.ours
    (g.met.P.ReadFs.well_formed c.args.fs.now) (g.met.P.ReadFs.well_formed c.begin.new.fs) c.in_ok-begin.ensures.ok c.in_ok-begin.ensures.spares c.in_ok-begin.ensures.keeps in
    on_err c.repair_all.result (filled_half both c.args.plan.now old one h (tree c.clear.new.fs) c.in_ok-clear.ensures.ok (tree c.repair_all.new.fs).tree) c.repair_all.ensures.err

pub returns-clause-spares : goal.returns-clause-spares
returns-clause-spares g c =
    let tree = g.P.ReadFs.seen in
    let old = tree c.args.fs.now in
    let one = tree c.begin.new.fs in
    let both = scanned c.args.managed.now c.args.entries.now in
    let h = stood c.args.managed.now c.args.entries.now c.args.plan.now old one c.requires.plan c.requires.rooted c.requires.apart c.requires.scan c.requires.ours
    (g.met.P.ReadFs.well_formed c.args.fs.now) (g.met.P.ReadFs.well_formed c.begin.new.fs) c.in_ok-begin.ensures.ok c.in_ok-begin.ensures.spares c.in_ok-begin.ensures.keeps in
    spares_three both c.args.plan.now old one h (tree c.clear.new.fs) c.in_ok-clear.ensures.ok (tree c.repair_all.new.fs) c.in_ok-clear.ensures.touched c.repair_all.ensures.spares

pub returns-clause-keeps : goal.returns-clause-keeps
returns-clause-keeps g c =
    let tree = g.P.ReadFs.seen in
    let old = tree c.args.fs.now in
    let one = tree c.begin.new.fs in
    let both = scanned c.args.managed.now c.args.entries.now in
    let h = stood c.args.managed.now c.args.entries.now c.args.plan.now old one c.requires.plan c.requires.rooted c.requires.apart c.requires.scan c.requires.ours
    (g.met.P.ReadFs.well_formed c.args.fs.now) (g.met.P.ReadFs.well_formed c.begin.new.fs) c.in_ok-begin.ensures.ok c.in_ok-begin.ensures.spares c.in_ok-begin.ensures.keeps in
    keeps_three both c.args.plan.now old one h (tree c.clear.new.fs) c.in_ok-clear.ensures.ok (tree c.repair_all.new.fs).tree c.repair_all.ensures.keeps

pub returns-in_err-begin-clause-gave : goal.returns-in_err-begin-clause-gave
returns-in_err-begin-clause-gave g c =
    let tree = g.P.ReadFs.seen in
    gave_within c.args.plan.now (most_marked c.args.managed.now) (tree c.args.fs.now) (tree c.begin.new.fs) (told_half (IsHalfBegun c.args.managed.now) _ _ c.in_err-begin.ensures.err) c.in_err-begin.ensures.gave

pub returns-in_err-clear-clause-gave : goal.returns-in_err-clear-clause-gave
returns-in_err-clear-clause-gave g c =
    let tree = g.P.ReadFs.seen in
    gave_cleared c.args.plan.now (most_marked c.args.managed.now) (tree c.args.fs.now) (tree c.begin.new.fs) (tree c.clear.new.fs) (told_made (IsBegun c.args.managed.now) _ _ c.in_ok-begin.ensures.ok) c.in_ok-begin.ensures.gave c.in_err-clear.ensures.gave

pub returns-clause-gave : goal.returns-clause-gave
returns-clause-gave g c =
    let tree = g.P.ReadFs.seen in
    let old = tree c.args.fs.now in
    let one = tree c.begin.new.fs in
    let both = scanned c.args.managed.now c.args.entries.now in
    let h = stood c.args.managed.now c.args.entries.now c.args.plan.now old one c.requires.plan c.requires.rooted c.requires.apart c.requires.scan c.requires.ours
    (g.met.P.ReadFs.well_formed c.args.fs.now) (g.met.P.ReadFs.well_formed c.begin.new.fs) c.in_ok-begin.ensures.ok c.in_ok-begin.ensures.spares c.in_ok-begin.ensures.keeps in
    gave_three both c.args.plan.now old one h (tree c.clear.new.fs) c.in_ok-clear.ensures.ok (tree c.repair_all.new.fs) c.in_ok-begin.ensures.gave c.in_ok-clear.ensures.gave c.repair_all.ensures.gave

pub returns-clause-asks : goal.returns-clause-asks
returns-clause-asks g c needs =
    let tree = g.P.ReadFs.seen in
    let old = tree c.args.fs.now in
    let one = tree c.begin.new.fs in
    let both = scanned c.args.managed.now c.args.entries.now in
    let h = stood c.args.managed.now c.args.entries.now c.args.plan.now old one c.requires.plan c.requires.rooted c.requires.apart c.requires.scan c.requires.ours
    (g.met.P.ReadFs.well_formed c.args.fs.now) (g.met.P.ReadFs.well_formed c.begin.new.fs) c.in_ok-begin.ensures.ok c.in_ok-begin.ensures.spares c.in_ok-begin.ensures.keeps in
    c.repair_all.ensures.asks (needs_left both c.args.plan.now old one h (tree c.clear.new.fs) c.in_ok-clear.ensures.ok needs) ∙ c.in_ok-begin.ensures.unasked

pub returns-clause-needed : goal.returns-clause-needed
returns-clause-needed g c =
    let tree = g.P.ReadFs.seen in
    let old = tree c.args.fs.now in
    let one = tree c.begin.new.fs in
    let both = scanned c.args.managed.now c.args.entries.now in
    let h = stood c.args.managed.now c.args.entries.now c.args.plan.now old one c.requires.plan c.requires.rooted c.requires.apart c.requires.scan c.requires.ours
    (g.met.P.ReadFs.well_formed c.args.fs.now) (g.met.P.ReadFs.well_formed c.begin.new.fs) c.in_ok-begin.ensures.ok c.in_ok-begin.ensures.spares c.in_ok-begin.ensures.keeps in
    needed_left both c.args.plan.now old one h (tree c.clear.new.fs) c.in_ok-clear.ensures.ok c.repair_all.result c.repair_all.ensures.needed

pub returns-clause-reads : goal.returns-clause-reads
returns-clause-reads g c =
    let store = g.D.StoreDisk.seen in
    subst (λ s. ReadsStore s (store c.repair_all.new.disk)) c.in_ok-begin.ensures.unasked c.repair_all.ensures.reads

pub returns-clause-fault : goal.returns-clause-fault
returns-clause-fault g c =
    let tree = g.P.ReadFs.seen in
    let store = g.D.StoreDisk.seen in
    refused_then c.was_law.ensures (tree c.args.fs.now) (tree c.clear.new.fs) (tree c.repair_all.new.fs) (store c.args.disk.now) (store c.begin.new.disk) (store c.repair_all.new.disk) c.repair_all.result
    (omega (arith, c.in_ok-begin.ensures.later, c.in_ok-clear.ensures.later)) (reads_same c.grew_law.ensures c.claims_law.ensures _ _ c.in_ok-begin.ensures.unasked) c.repair_all.ensures.fault
