use Rattle.std.proofs.Common.{◌*◌, ◌∙◌, min, arith}
use Rattle.pn_text.specs.declared.limits.TheConstants.{FILE_LIMIT}
use Rattle.pn_store.specs.Puts.{file_length}
use Rattle.pn_store.proofs.GaveLemmas.{gave_behind, short_length}
use Rattle.pn_store.specs.Own.{IsNoPublish}
use Rattle.pn_store.proofs.HeldLemmas.{works_none}
use Rattle.pn_store.proofs.MadeLemmas.{made_none}
use Rattle.pn_store.proofs.MetLemmas.{as_put, left_none, left_before}
use Rattle.pn_store.proofs.files.put_file.Goals as goal

pub returns-in-Err-clause-fault : goal.returns-in-Err-clause-fault
returns-in-Err-clause-fault g c =
    let seen = g.D.StoreDisk.seen c.args.disk.now in
    as_put c.args.path.now (g.R.ReadFs.seen c.args.from.now) (g.R.ReadFs.seen c.check_size.new.from) seen seen c.in-Err.fault (c.in-Err.ensures.fault seen seen)

pub returns-in-Err-clause-refused : goal.returns-in-Err-clause-refused
returns-in-Err-clause-refused g c =
    let seen = g.D.StoreDisk.seen c.args.disk.now in
    left_none (g.R.ReadFs.seen c.args.from.now).tree c.args.path.now c.args.claim.now seen seen c.in-Err.fault (made_none IsNoPublish seen)

pub returns-in-Err-clause-works : goal.returns-in-Err-clause-works
returns-in-Err-clause-works g c = works_none c.grew_law.ensures c.claims_law.ensures c.args.claim.now (g.D.StoreDisk.seen c.args.disk.now) c.requires.held

pub returns-in_err-buffer-clause-refused : goal.returns-in_err-buffer-clause-refused
returns-in_err-buffer-clause-refused g c =
    let seen = g.D.StoreDisk.seen c.args.disk.now in
    left_before c.from_residual.result (g.R.ReadFs.seen c.args.from.now).tree c.args.path.now c.args.claim.now seen seen (made_none IsNoPublish seen)

pub returns-in_err-buffer-clause-works : goal.returns-in_err-buffer-clause-works
returns-in_err-buffer-clause-works g c = works_none c.grew_law.ensures c.claims_law.ensures c.args.claim.now (g.D.StoreDisk.seen c.args.disk.now) c.requires.held

pub returns-in_err-other-clause-refused : goal.returns-in_err-other-clause-refused
returns-in_err-other-clause-refused g c =
    let seen = g.D.StoreDisk.seen c.args.disk.now in
    left_before c.from_residual-in_err-other.result (g.R.ReadFs.seen c.args.from.now).tree c.args.path.now c.args.claim.now seen seen (made_none IsNoPublish seen)

pub returns-in_err-other-clause-works : goal.returns-in_err-other-clause-works
returns-in_err-other-clause-works g c = works_none c.grew_law.ensures c.claims_law.ensures c.args.claim.now (g.D.StoreDisk.seen c.args.disk.now) c.requires.held

pub returns-clause-gave : goal.returns-clause-gave
returns-clause-gave g c =
    let p = c.args.path.now in
    let kept = c.in_default.ensures.kept in
    gave_behind _ _ _ (λ t. 2 * file_length (t p)) (λ t. 2 * min (file_length (t p)) FILE_LIMIT) kept.tree c.in_default.ensures.gave c.put_short.ensures.gave (λ t told.
    let f = c.in_default.ensures.short t (kept.tree ∙ told) in
    omega (arith, f.short, short_length (t p) f.bytes f.stands))
