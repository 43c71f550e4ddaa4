use Rattle.pn_store.proofs.HeldLemmas.{works_twice}
use Rattle.pn_store.proofs.MadeLemmas.{none_both, drops_publish}
use Rattle.pn_store.proofs.calls.start.Goals as goal

pub returns-in_err-drop_file-clause-unpublished : goal.returns-in_err-drop_file-clause-unpublished
returns-in_err-drop_file-clause-unpublished g c =
    let seen = g.D.StoreDisk.seen in
    drops_publish c.args.k (seen c.args.disk.now) (seen c.drop_file.new.disk) c.drop_file.ensures.drops

pub returns-clause-unpublished : goal.returns-clause-unpublished
returns-clause-unpublished g c =
    let seen = g.D.StoreDisk.seen in
    let old = seen c.args.disk.now in
    let mid = seen c.drop_file.new.disk in
    none_both old mid (seen c.create.new.disk) (drops_publish c.args.k old mid c.drop_file.ensures.drops) c.create.ensures.unpublished

pub returns-clause-works : goal.returns-clause-works
returns-clause-works g c =
    let seen = g.D.StoreDisk.seen in
    works_twice c.grew_law.ensures c.claims_law.ensures c.args.k (seen c.args.disk.now) (seen c.drop_file.new.disk) (seen c.create.new.disk) c.drop_file.ensures.works c.create.ensures.works
