use Rattle.std.proofs.Common.{refl, [], None, Some}
use Rattle.pn_storecore.specs.declared.step.StoreStep.TheVariants.{Create}
use Rattle.pn_storecore.specs.Held.{files_with, no_files}
use Rattle.pn_store.specs.Held.{HoldsFile}
use Rattle.pn_store.proofs.HeldLemmas.{works_by, ok_of}
use Rattle.pn_store.specs.Own.{IsNoPublish}
use Rattle.pn_store.proofs.MadeLemmas.{made_call}
use Rattle.pn_store.proofs.calls.create.Goals as goal

pub returns-clause-ok : goal.returns-clause-ok
returns-clause-ok g c =
    let seen = g.D.StoreDisk.seen in
    let k = c.args.k in
    let d = c.create in
    let one = seen c.args.disk.now in
    let two = seen d.new.self in
    ok_of (HoldsFile two k (Some [])) d.result c.of_store.result c.of_store.ensures
    (works_by c.holds_law.ensures c.did_law.ensures c.grew_law.ensures c.leaves_law.ensures c.claims_law.ensures one two (Create k 0) k None (Some []) d.result d.ensures.kept d.ensures.step d.ensures.cause refl (refl, refl) (c.asks_law.ensures.create one k 0 (files_with no_files 0 None) c.requires refl) (c.holds_law.ensures.again no_files 0 None (Some [])) c.requires).0

pub returns-clause-works : goal.returns-clause-works
returns-clause-works g c =
    let seen = g.D.StoreDisk.seen in
    let k = c.args.k in
    let d = c.create in
    let one = seen c.args.disk.now in
    (works_by c.holds_law.ensures c.did_law.ensures c.grew_law.ensures c.leaves_law.ensures c.claims_law.ensures one (seen d.new.self) (Create k 0) k None (Some []) d.result d.ensures.kept d.ensures.step d.ensures.cause refl (refl, refl) (c.asks_law.ensures.create one k 0 (files_with no_files 0 None) c.requires refl) (c.holds_law.ensures.again no_files 0 None (Some [])) c.requires).1

pub returns-clause-unpublished : goal.returns-clause-unpublished
returns-clause-unpublished g c =
    let seen = g.D.StoreDisk.seen in
    let d = c.create in
    let one = seen c.args.disk.now in
    let two = seen d.new.self in
    let own = Create c.args.k 0 in
    made_call IsNoPublish one two own (c.did_law.ensures.does one two own d.result d.ensures.kept d.ensures.step) tt (λ k n a b h. h)
