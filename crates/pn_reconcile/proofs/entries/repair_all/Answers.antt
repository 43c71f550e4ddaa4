use Rattle.std.proofs.Common.{◌+◌, ◌∙◌, List, sym, subst, take, drop, arith}
use Rattle.std.specs.Prelude.{suc}
use Rattle.std.specs.Option.{ForSome}
use Rattle.std.proofs.lemmas.Result.{err_from_is_err_and}
use Rattle.pn_text.proofs.Results.{if_some, any_err}
use Rattle.pn_fs.specs.Seen.{GaveAtMost}
use Rattle.pn_clear.specs.Items.{Item, Rises}
use Rattle.pn_reconcile.specs.Plans.{IsPlanned, Made, HalfMade}
use Rattle.pn_reconcile.specs.Phases.{IsReady, IsFilled, IsHalfFilled}
use Rattle.pn_reconcile.specs.Spares.{SparesRight}
use Rattle.pn_reconcile.specs.Bounds.{most_planned}
use Rattle.pn_reconcile.proofs.BoundsLemmas.{gave_front}
use Rattle.pn_reconcile.proofs.FilledLemmas.{fits_here, parent_here, made_more, half_made, spares_more, gave_more}
use Rattle.pn_reconcile.proofs.KeepsLemmas.{keeps_both, keeps_next, told_made}
use Rattle.pn_reconcile.proofs.MadeLemmas.{made_back}
use Rattle.pn_reconcile.proofs.NeedsLemmas.{needs_still, needed_before, needed_entry}
use Rattle.pn_reconcile.proofs.PlannedLemmas.{cut_at, front_more, of_entry}
use Rattle.pn_reconcile.proofs.RefusedLemmas.{reads_both, refused_before}
use Rattle.pn_reconcile.proofs.entries.repair_all.Goals as goal

pub repair_next-requires-clause-fits : goal.repair_next-requires-clause-fits
repair_next-requires-clause-fits g c u now =
    let plan = c.args.plan.now in
    let i = c.loop-entry.entry-index in
    let e = c.entry-item.result in
    let cut = cut_at plan i e c.loop-entry-test.true c.entry-item.is in
    let m = made_back (IsFilled (take i plan)) (g.P.ReadFs.seen c.args.fs.now).tree (g.P.ReadFs.seen c.loop-entry.fs).tree u c.loop-entry.invariant.filled now in
    fits_here (take i plan) (drop (suc i) plan) e (subst (λ (l : List Item). Rises l) cut c.requires.plan) m.0 u (subst (λ l. IsReady l m.0) cut (c.requires.ready m.0 m.1)) m.2

pub repair_next-requires-clause-parent : goal.repair_next-requires-clause-parent
repair_next-requires-clause-parent g c u now =
    let plan = c.args.plan.now in
    let i = c.loop-entry.entry-index in
    let e = c.entry-item.result in
    let cut = cut_at plan i e c.loop-entry-test.true c.entry-item.is in
    let m = made_back (IsFilled (take i plan)) (g.P.ReadFs.seen c.args.fs.now).tree (g.P.ReadFs.seen c.loop-entry.fs).tree u c.loop-entry.invariant.filled now in
    parent_here (take i plan) (drop (suc i) plan) e (subst (λ (l : List Item). Rises l) cut c.requires.plan) m.0 u (g.met.P.ReadFs.well_formed c.loop-entry.fs u now) (subst (λ l. IsReady l m.0) cut (c.requires.ready m.0 m.1)) m.2

pub returns-in_err-repair_next-clause-err : goal.returns-in_err-repair_next-clause-err
returns-in_err-repair_next-clause-err g c =
    let tree = g.P.ReadFs.seen in
    let plan = c.args.plan.now in
    let i = c.loop-entry.entry-index in
    let e = c.entry-item.result in
    let cut = cut_at plan i e c.loop-entry-test.true c.entry-item.is in
    any_err _ (subst (λ l. HalfMade (IsHalfFilled l) (tree c.args.fs.now).tree (tree c.repair_next.new.fs).tree) (sym cut)
    (half_made (take i plan) (drop (suc i) plan) e (subst (λ (l : List Item). Rises l) cut c.requires.plan) (tree c.args.fs.now).tree (tree c.loop-entry.fs).tree (tree c.repair_next.new.fs).tree c.loop-entry.invariant.filled c.in_err-repair_next.ensures.err))

pub returns-in_err-repair_next-clause-spares : goal.returns-in_err-repair_next-clause-spares
returns-in_err-repair_next-clause-spares g c =
    let tree = g.P.ReadFs.seen in
    let old = tree c.args.fs.now in
    let plan = c.args.plan.now in
    let i = c.loop-entry.entry-index in
    let e = c.entry-item.result in
    let cut = cut_at plan i e c.loop-entry-test.true c.entry-item.is in
    if_some (λ t. SparesRight (IsPlanned plan) plan t old (tree c.repair_next.new.fs)) old.tree
    (subst (λ l. ForSome old.tree (λ t. SparesRight (IsPlanned l) l t old (tree c.repair_next.new.fs))) (sym cut)
    (spares_more (take i plan) (drop (suc i) plan) e (subst (λ (l : List Item). Rises l) cut c.requires.plan) old (tree c.loop-entry.fs) (tree c.repair_next.new.fs) c.loop-entry.invariant.filled
    (subst (λ l. ForSome old.tree (λ t. SparesRight (IsPlanned l) l t old (tree c.loop-entry.fs))) cut c.loop-entry.invariant.spares) c.in_err-repair_next.ensures.touches))

pub returns-in_err-repair_next-clause-keeps : goal.returns-in_err-repair_next-clause-keeps
returns-in_err-repair_next-clause-keeps g c =
    let tree = g.P.ReadFs.seen in
    let plan = c.args.plan.now in
    let i = c.loop-entry.entry-index in
    let old = (tree c.args.fs.now).tree in
    let mid = (tree c.loop-entry.fs).tree in
    let new = (tree c.repair_next.new.fs).tree in
    let e = c.entry-item.result in
    keeps_both plan old mid new (told_made (IsFilled (take i plan)) old mid c.loop-entry.invariant.filled) c.loop-entry.invariant.keeps
    (keeps_next c.repair_next.result plan e mid new c.requires.plan (i, c.loop-entry-test.true, sym c.entry-item.is) c.repair_next.ensures.ok c.repair_next.ensures.err c.repair_next.ensures.right_stays)

pub returns-in_err-repair_next-clause-reads : goal.returns-in_err-repair_next-clause-reads
returns-in_err-repair_next-clause-reads g c =
    let store = g.D.StoreDisk.seen in
    reads_both c.grew_law.ensures c.claims_law.ensures (store c.args.disk.now) (store c.loop-entry.disk) (store c.repair_next.new.disk) c.loop-entry.invariant.reads c.in_err-repair_next.ensures.reads

pub returns-in_err-repair_next-clause-gave : goal.returns-in_err-repair_next-clause-gave
returns-in_err-repair_next-clause-gave g c =
    let tree = g.P.ReadFs.seen in
    let old = tree c.args.fs.now in
    let new = tree c.repair_next.new.fs in
    let plan = c.args.plan.now in
    let i = c.loop-entry.entry-index in
    let e = c.entry-item.result in
    let inv = c.loop-entry.invariant in
    let cut = cut_at plan i e c.loop-entry-test.true c.entry-item.is in
    gave_front plan (i + 1) old new (subst (λ l. ForSome old.tree (λ t. GaveAtMost old (most_planned l t) 0 new)) (front_more plan i e c.loop-entry-test.true c.entry-item.is)
    (gave_more (take i plan) (drop (suc i) plan) e (subst (λ (l : List Item). Rises l) cut c.requires.plan) old (tree c.loop-entry.fs) new inv.filled inv.gave c.in_err-repair_next.ensures.gave))

pub returns-in_err-repair_next-clause-asks : goal.returns-in_err-repair_next-clause-asks
returns-in_err-repair_next-clause-asks g c needs =
    let tree = g.P.ReadFs.seen in
    let plan = c.args.plan.now in
    let inv = c.loop-entry.invariant in
    let old = (tree c.args.fs.now).tree in
    let mid = (tree c.loop-entry.fs).tree in
    c.in_err-repair_next.ensures.asks (needs_still plan old mid (told_made (IsFilled (take c.loop-entry.entry-index plan)) old mid inv.filled) inv.keeps needs c.entry-item.result (c.loop-entry.entry-index, c.loop-entry-test.true, sym c.entry-item.is)) ∙ inv.asks needs

pub returns-in_err-repair_next-clause-needed : goal.returns-in_err-repair_next-clause-needed
returns-in_err-repair_next-clause-needed g c =
    let tree = g.P.ReadFs.seen in
    let plan = c.args.plan.now in
    let inv = c.loop-entry.invariant in
    let old = (tree c.args.fs.now).tree in
    let mid = (tree c.loop-entry.fs).tree in
    let p = err_from_is_err_and c.from_residual.result c.from_residual.ensures.1 in
    rw (p.1, p.2) (needed_before plan old mid _ (told_made (IsFilled (take c.loop-entry.entry-index plan)) old mid inv.filled) inv.keeps
    (needed_entry plan c.entry-item.result mid _ (c.loop-entry.entry-index, c.loop-entry-test.true, sym c.entry-item.is) c.in_err-repair_next.ensures.of_plan c.in_err-repair_next.ensures.needed))

pub returns-in_err-repair_next-clause-fault : goal.returns-in_err-repair_next-clause-fault
returns-in_err-repair_next-clause-fault g c =
    let tree = g.P.ReadFs.seen in
    let store = g.D.StoreDisk.seen in
    let p = err_from_is_err_and c.from_residual.result c.from_residual.ensures.1 in
    rw (p.1, p.2) (refused_before c.was_law.ensures (tree c.args.fs.now) (tree c.loop-entry.fs) (tree c.repair_next.new.fs) (store c.args.disk.now) (store c.loop-entry.disk) (store c.repair_next.new.disk) _ c.loop-entry.invariant.later c.loop-entry.invariant.reads c.in_err-repair_next.ensures.fault)

pub returns-in_err-repair_next-clause-of_plan : goal.returns-in_err-repair_next-clause-of_plan
returns-in_err-repair_next-clause-of_plan g c =
    let p = err_from_is_err_and c.from_residual.result c.from_residual.ensures.1 in
    rw (p.1, p.2) (of_entry c.args.plan.now c.entry-item.result _ (c.loop-entry.entry-index, c.loop-entry-test.true, sym c.entry-item.is) c.in_err-repair_next.ensures.of_plan)

pub loop-entry-preserved : goal.loop-entry-preserved
loop-entry-preserved g c =
    let tree = g.P.ReadFs.seen in
    let store = g.D.StoreDisk.seen in
    let old = tree c.args.fs.now in
    let mid = tree c.loop-entry.fs in
    let new = tree c.repair_next.new.fs in
    let plan = c.args.plan.now in
    let i = c.loop-entry.entry-index in
    let e = c.entry-item.result in
    let inv = c.loop-entry.invariant in
    let cut = cut_at plan i e c.loop-entry-test.true c.entry-item.is in
    let order = subst (λ (l : List Item). Rises l) cut c.requires.plan in
    record {
      filled = subst (λ l. Made (IsFilled l) old.tree new.tree) (front_more plan i e c.loop-entry-test.true c.entry-item.is) (made_more (take i plan) (drop (suc i) plan) e order old.tree mid.tree new.tree inv.filled c.in_ok-repair_next.ensures.ok);
      spares = subst (λ l. ForSome old.tree (λ t. SparesRight (IsPlanned l) l t old new)) (sym cut)
          (spares_more (take i plan) (drop (suc i) plan) e order old mid new inv.filled (subst (λ l. ForSome old.tree (λ t. SparesRight (IsPlanned l) l t old mid)) cut inv.spares) c.in_ok-repair_next.ensures.touches);
      keeps = keeps_both plan old.tree mid.tree new.tree (told_made (IsFilled (take i plan)) old.tree mid.tree inv.filled) inv.keeps
          (keeps_next c.repair_next.result plan e mid.tree new.tree c.requires.plan (i, c.loop-entry-test.true, sym c.entry-item.is) c.repair_next.ensures.ok c.repair_next.ensures.err c.repair_next.ensures.right_stays);
      later = omega (arith, inv.later, c.in_ok-repair_next.ensures.later);
      reads = reads_both c.grew_law.ensures c.claims_law.ensures (store c.args.disk.now) (store c.loop-entry.disk) (store c.repair_next.new.disk) inv.reads c.in_ok-repair_next.ensures.reads;
      gave = subst (λ l. ForSome old.tree (λ t. GaveAtMost old (most_planned l t) 0 new)) (front_more plan i e c.loop-entry-test.true c.entry-item.is)
          (gave_more (take i plan) (drop (suc i) plan) e order old mid new inv.filled inv.gave c.in_ok-repair_next.ensures.gave);
      asks = λ needs. c.in_ok-repair_next.ensures.asks (needs_still plan old.tree mid.tree (told_made (IsFilled (take i plan)) old.tree mid.tree inv.filled) inv.keeps needs e (i, c.loop-entry-test.true, sym c.entry-item.is)) ∙ inv.asks needs;
    }

pub returns-clause-gave : goal.returns-clause-gave
returns-clause-gave g c = gave_front c.args.plan.now c.loop-entry.entry-index (g.P.ReadFs.seen c.args.fs.now) (g.P.ReadFs.seen c.loop-entry.fs) c.loop-entry.invariant.gave
