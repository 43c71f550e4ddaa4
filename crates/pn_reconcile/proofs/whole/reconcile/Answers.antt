use Rattle.std.proofs.Common.{◌≡◌, refl, sym, subst, inl}
use Rattle.std.specs.Prelude.{IfErr, IfSome}
use Rattle.pn_text.proofs.Results.{any_err}
use Rattle.pn_scan.specs.Managed.{AreOurs}
use Rattle.pn_scan.specs.Scans.{IsScan}
use Rattle.pn_reconcile.specs.Phases.{scanned}
use Rattle.pn_reconcile.specs.Plans.{IsRooted, HasPlan, KeepsAllRight, IsHalfReconciled}
use Rattle.pn_reconcile.specs.Spares.{IsIdle}
use Rattle.pn_reconcile.specs.Needs.{IsNeeded}
use Rattle.pn_reconcile.proofs.MadeLemmas.{half_none}
use Rattle.pn_reconcile.proofs.PhasesLemmas.{idle_where}
use Rattle.pn_reconcile.proofs.whole.reconcile.Goals as goal

pub returns-in_err-buffer-clause-err : goal.returns-in_err-buffer-clause-err
returns-in_err-buffer-clause-err g c =
    any_err _ (half_none (IsHalfReconciled c.args.scan.now.managed c.args.plan.now) (g.P.ReadFs.seen c.args.fs.now).tree (λ t told. record { ours = c.requires.ours t told; others = λ q. inl refl }))

pub in_parts-requires-clause-scan : goal.in_parts-requires-clause-scan
in_parts-requires-clause-scan g c t told =
    let same : scanned c.managed.result.now c.entries.result.now ≡ c.args.scan.now = λ i. record { managed = c.managed.ensures.list i; entries = c.entries.ensures.list i } in
    subst (IsScan t) (sym same) (c.requires.scan t told)

pub in_parts-requires-clause-ours : goal.in_parts-requires-clause-ours
in_parts-requires-clause-ours g c t told = subst (AreOurs t) (sym c.managed.ensures.list) (c.requires.ours t told)

pub returns-clause-idle : goal.returns-clause-idle
returns-clause-idle g c =
    let tree = g.P.ReadFs.seen in
    let store = g.D.StoreDisk.seen in
    let old = tree c.args.fs.now in
    let new = tree c.in_parts.new.fs in
    let was = store c.args.disk.now in
    let now = store c.in_parts.new.disk in
    let managed = c.managed.result.now in
    let plan = c.as_slice.result.now in
    let rooted = subst (λ m. IsRooted m plan) (sym c.managed.ensures.list) (subst (IsRooted c.args.scan.now.managed) (sym c.as_slice.ensures.entries) c.requires.rooted) in
    let idle = idle_where c.in_parts.result managed plan old new was now (g.met.P.ReadFs.well_formed c.args.fs.now) rooted c.in_parts.ensures.ok c.in_parts.ensures.err c.in_parts.ensures.keeps c.in_parts.ensures.spares c.in_parts.ensures.asks in
    subst (λ m. IfSome old.tree (λ t. HasPlan m c.args.plan.now t → IsIdle old new was now)) c.managed.ensures.list
    (subst (λ p. IfSome old.tree (λ t. HasPlan managed p t → IsIdle old new was now)) c.as_slice.ensures.entries idle)

pub returns-clause-keeps : goal.returns-clause-keeps
returns-clause-keeps g c =
    let tree = g.P.ReadFs.seen in
    subst (λ plan. KeepsAllRight plan (tree c.args.fs.now).tree (tree c.in_parts.new.fs).tree) c.as_slice.ensures.entries c.in_parts.ensures.keeps

pub returns-clause-needed : goal.returns-clause-needed
returns-clause-needed g c =
    let tree = g.P.ReadFs.seen in
    subst (λ plan. IfErr c.in_parts.result (λ e. IfSome (tree c.args.fs.now).tree (λ t. IsNeeded plan t e))) c.as_slice.ensures.entries c.in_parts.ensures.needed
