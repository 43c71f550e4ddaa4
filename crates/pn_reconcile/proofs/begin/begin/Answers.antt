use Rattle.std.proofs.Common.{◌∷◌, [], ◌++◌, ◌+◌, ◌∙◌, sym, subst, take, refl, arith}
use Rattle.std.specs.Option.{ForSome}
use Rattle.std.specs.List.{Contains}
use Rattle.std.proofs.lemmas.List.{take_all}
use Rattle.std.proofs.lemmas.Result.{err_from_is_err_and}
use Rattle.pn_text.proofs.Results.{any_err}
use Rattle.pn_reconcile.specs.Plans.{Made}
use Rattle.pn_reconcile.specs.Phases.{BeginsIn}
use Rattle.pn_reconcile.specs.Spares.{SparesRight}
use Rattle.pn_reconcile.specs.Bounds.{most_marked}
use Rattle.pn_reconcile.proofs.BoundsLemmas.{AreWithin, within_front, within_next, within_still}
use Rattle.pn_reconcile.proofs.BeginsLemmas.{Begins, all_begun, begins_half, begins_made, begins_none, front_or_next, front_within, spares_begun, spares_near}
use Rattle.pn_reconcile.proofs.KeepsLemmas.{keeps_both, keeps_none, told_made}
use Rattle.pn_reconcile.proofs.MadeLemmas.{made_back, made_none}
use Rattle.pn_reconcile.proofs.PlannedLemmas.{front_more}
use Rattle.pn_reconcile.proofs.RefusedLemmas.{tree_before}
use Rattle.pn_reconcile.proofs.SparesLemmas.{spares_none}
use Rattle.pn_reconcile.proofs.begin.begin.Goals as goal

pub loop-one-init : goal.loop-one-init
loop-one-init g c =
    let old = g.P.ReadFs.seen c.args.fs.now in
    record {
      begun = made_none (Begins c.args.managed.now []) old.tree (λ t told. begins_none c.args.managed.now t (c.requires.ours t told));
      spares = λ t told. spares_none (BeginsIn [] t) c.args.plan.now t old old refl;
      keeps = keeps_none c.args.plan.now old.tree;
      later = omega arith;
      gave = within_still c.args.plan.now old;
      unasked = refl;
    }

pub begin_one-requires-clause-marker : goal.begin_one-requires-clause-marker
begin_one-requires-clause-marker g c = c.requires.rooted.markers c.one-item.result (c.loop-one.one-index, c.loop-one-test.true, sym c.one-item.is)

pub begin_one-requires-clause-ours : goal.begin_one-requires-clause-ours
begin_one-requires-clause-ours g c u told =
    let tree = g.P.ReadFs.seen in
    let managed = c.args.managed.now in
    let i = c.loop-one.one-index in
    let n = made_back (Begins managed (take i managed)) (tree c.args.fs.now).tree (tree c.loop-one.fs).tree u c.loop-one.invariant.begun told in
    n.2.ours c.one-item.result (i, c.loop-one-test.true, sym c.one-item.is)

pub returns-in_err-begin_one-clause-err : goal.returns-in_err-begin_one-clause-err
returns-in_err-begin_one-clause-err g c =
    let tree = g.P.ReadFs.seen in
    let managed = c.args.managed.now in
    let i = c.loop-one.one-index in
    any_err c.from_residual.result
    (begins_half managed c.requires.apart c.one-item.result (i, c.loop-one-test.true, sym c.one-item.is) (take i managed) (front_within managed i) (tree c.args.fs.now).tree (tree c.loop-one.fs).tree (tree c.begin_one.new.fs).tree c.loop-one.invariant.begun c.in_err-begin_one.ensures.err)

pub returns-in_err-begin_one-clause-spares : goal.returns-in_err-begin_one-clause-spares
returns-in_err-begin_one-clause-spares g c =
    let tree = g.P.ReadFs.seen in
    let managed = c.args.managed.now in
    let plan = c.args.plan.now in
    let i = c.loop-one.one-index in
    let m = c.one-item.result in
    let inside : Contains managed m = (i, c.loop-one-test.true, sym c.one-item.is) in
    spares_near managed (take i managed ++ m ∷ []) plan c.requires.rooted (front_or_next managed i m inside) (tree c.args.fs.now) (tree c.begin_one.new.fs)
    (spares_begun managed c.requires.apart m inside (take i managed) (front_within managed i) plan c.requires.plan c.requires.rooted (tree c.args.fs.now) (tree c.loop-one.fs) (tree c.begin_one.new.fs) c.loop-one.invariant.begun c.loop-one.invariant.spares c.in_err-begin_one.ensures.spares)

pub returns-in_err-begin_one-clause-keeps : goal.returns-in_err-begin_one-clause-keeps
returns-in_err-begin_one-clause-keeps g c =
    let tree = g.P.ReadFs.seen in
    let old = (tree c.args.fs.now).tree in
    let mid = (tree c.loop-one.fs).tree in
    let managed = c.args.managed.now in
    keeps_both c.args.plan.now old mid (tree c.begin_one.new.fs).tree (told_made (Begins managed (take c.loop-one.one-index managed)) old mid c.loop-one.invariant.begun) c.loop-one.invariant.keeps c.in_err-begin_one.ensures.keeps

pub returns-in_err-begin_one-clause-gave : goal.returns-in_err-begin_one-clause-gave
returns-in_err-begin_one-clause-gave g c =
    let tree = g.P.ReadFs.seen in
    let managed = c.args.managed.now in
    let plan = c.args.plan.now in
    let i = c.loop-one.one-index in
    let old = tree c.args.fs.now in
    let mid = tree c.loop-one.fs in
    let new = tree c.begin_one.new.fs in
    within_front plan managed (i + 1) old new (subst (λ l. AreWithin plan (most_marked l) old new) (front_more managed i c.one-item.result c.loop-one-test.true c.one-item.is)
    (within_next plan (take i managed) c.one-item.result old mid new (told_made (Begins managed (take i managed)) old.tree mid.tree c.loop-one.invariant.begun) c.loop-one.invariant.gave c.in_err-begin_one.ensures.gave))

pub returns-in_err-begin_one-clause-fault : goal.returns-in_err-begin_one-clause-fault
returns-in_err-begin_one-clause-fault g c =
    let tree = g.P.ReadFs.seen in
    let p = err_from_is_err_and c.from_residual.result c.from_residual.ensures.1 in
    rw (p.1, p.2) (tree_before (tree c.args.fs.now).faults (tree c.loop-one.fs).faults (tree c.begin_one.new.fs).faults _ c.loop-one.invariant.later c.in_err-begin_one.ensures.fault)

pub loop-one-preserved : goal.loop-one-preserved
loop-one-preserved g c =
    let tree = g.P.ReadFs.seen in
    let old = tree c.args.fs.now in
    let mid = tree c.loop-one.fs in
    let new = tree c.begin_one.new.fs in
    let managed = c.args.managed.now in
    let plan = c.args.plan.now in
    let i = c.loop-one.one-index in
    let m = c.one-item.result in
    let inv = c.loop-one.invariant in
    let inside : Contains managed m = (i, c.loop-one-test.true, sym c.one-item.is) in
    let more = front_more managed i m c.loop-one-test.true c.one-item.is in
    record {
      begun = subst (λ l. Made (Begins managed l) old.tree new.tree) more (begins_made managed c.requires.apart m inside (take i managed) (front_within managed i) old.tree mid.tree new.tree inv.begun c.in_ok-begin_one.ensures.ok);
      spares = subst (λ l. ForSome old.tree (λ t. SparesRight (BeginsIn l t) plan t old new)) more
          (spares_begun managed c.requires.apart m inside (take i managed) (front_within managed i) plan c.requires.plan c.requires.rooted old mid new inv.begun inv.spares c.in_ok-begin_one.ensures.spares);
      keeps = keeps_both plan old.tree mid.tree new.tree (told_made (Begins managed (take i managed)) old.tree mid.tree inv.begun) inv.keeps c.in_ok-begin_one.ensures.keeps;
      later = omega (arith, inv.later, c.in_ok-begin_one.ensures.later);
      gave = subst (λ l. AreWithin plan (most_marked l) old new) more (within_next plan (take i managed) m old mid new (told_made (Begins managed (take i managed)) old.tree mid.tree inv.begun) inv.gave c.in_ok-begin_one.ensures.gave);
      unasked = c.in_ok-begin_one.ensures.unasked ∙ inv.unasked;
    }

pub returns-clause-ok : goal.returns-clause-ok
returns-clause-ok g c =
    let tree = g.P.ReadFs.seen in
    let managed = c.args.managed.now in
    let old = (tree c.args.fs.now).tree in
    let new = (tree c.loop-one.fs).tree in
    all_begun managed old new (subst (λ l. Made (Begins managed l) old new) (take_all c.loop-one.one-index managed c.loop-one-test.false) c.loop-one.invariant.begun)

pub returns-clause-spares : goal.returns-clause-spares
returns-clause-spares g c =
    let managed = c.args.managed.now in
    let i = c.loop-one.one-index in
    spares_near managed (take i managed) c.args.plan.now c.requires.rooted (front_within managed i) (g.P.ReadFs.seen c.args.fs.now) (g.P.ReadFs.seen c.loop-one.fs) c.loop-one.invariant.spares

pub returns-clause-gave : goal.returns-clause-gave
returns-clause-gave g c = within_front c.args.plan.now c.args.managed.now c.loop-one.one-index (g.P.ReadFs.seen c.args.fs.now) (g.P.ReadFs.seen c.loop-one.fs) c.loop-one.invariant.gave
