use Rattle.std.proofs.Common.{◌++◌, Some}
use Rattle.pn_store.specs.Held.{HoldsFile}
use Rattle.pn_store.proofs.HeldLemmas.{works_append, ok_of}
use Rattle.pn_storecore.specs.declared.step.StoreStep.TheVariants.{Append}
use Rattle.pn_store.specs.Own.{IsNoPublish}
use Rattle.pn_store.proofs.MadeLemmas.{made_call}
use Rattle.pn_store.proofs.calls.append.Goals as goal

pub returns-clause-ok : goal.returns-clause-ok
returns-clause-ok g c bytes held =
    let seen = g.D.StoreDisk.seen in
    let k = c.args.k in
    let d = c.append in
    let more = c.args.more.now in
    let two = seen d.new.self in
    ok_of (HoldsFile two k (Some (bytes ++ more))) d.result c.of_store.result c.of_store.ensures
    (works_append c.holds_law.ensures c.did_law.ensures c.grew_law.ensures c.asks_law.ensures c.leaves_law.ensures c.claims_law.ensures (seen c.args.disk.now) two k more bytes d.result d.ensures.kept d.ensures.step d.ensures.cause held).0

pub returns-clause-works : goal.returns-clause-works
returns-clause-works g c =
    let seen = g.D.StoreDisk.seen in
    let d = c.append in
    (works_append c.holds_law.ensures c.did_law.ensures c.grew_law.ensures c.asks_law.ensures c.leaves_law.ensures c.claims_law.ensures (seen c.args.disk.now) (seen d.new.self) c.args.k c.args.more.now c.requires.0 d.result d.ensures.kept d.ensures.step d.ensures.cause c.requires.1).1

pub returns-clause-unpublished : goal.returns-clause-unpublished
returns-clause-unpublished g c =
    let seen = g.D.StoreDisk.seen in
    let d = c.append in
    let one = seen c.args.disk.now in
    let two = seen d.new.self in
    let more = c.args.more.now in
    made_call IsNoPublish one two (Append c.args.k 0 more) (c.did_law.ensures.append one two c.args.k 0 more d.result d.ensures.kept d.ensures.step) tt (λ k n a b h. h)
