use Rattle.std.proofs.Common.{refl, None, Some}
use Rattle.pn_storecore.specs.declared.step.StoreStep.TheVariants.{DropTemp}
use Rattle.pn_storecore.specs.Held.{files_with, no_files}
use Rattle.pn_store.specs.Held.{HoldsFile}
use Rattle.pn_store.proofs.HeldLemmas.{works_by, ok_of, drops_call}
use Rattle.pn_store.proofs.calls.drop_file.Goals as goal

pub returns-clause-ok : goal.returns-clause-ok
returns-clause-ok g c =
    let seen = g.D.StoreDisk.seen in
    let k = c.args.k in
    let d = c.drop_temp in
    let b = c.requires.0 in
    let one = seen c.args.disk.now in
    let two = seen d.new.self in
    ok_of (HoldsFile two k None) d.result c.of_store.result c.of_store.ensures
    (works_by c.holds_law.ensures c.did_law.ensures c.grew_law.ensures c.leaves_law.ensures c.claims_law.ensures one two (DropTemp k (Some 0)) k b None d.result d.ensures.kept d.ensures.step d.ensures.cause refl (refl, refl) (c.asks_law.ensures.drop_file one k 0 (files_with no_files 0 b) c.requires.1) (c.holds_law.ensures.again no_files 0 b None) c.requires.1).0

pub returns-clause-works : goal.returns-clause-works
returns-clause-works g c =
    let seen = g.D.StoreDisk.seen in
    let k = c.args.k in
    let d = c.drop_temp in
    let b = c.requires.0 in
    let one = seen c.args.disk.now in
    (works_by c.holds_law.ensures c.did_law.ensures c.grew_law.ensures c.leaves_law.ensures c.claims_law.ensures one (seen d.new.self) (DropTemp k (Some 0)) k b None d.result d.ensures.kept d.ensures.step d.ensures.cause refl (refl, refl) (c.asks_law.ensures.drop_file one k 0 (files_with no_files 0 b) c.requires.1) (c.holds_law.ensures.again no_files 0 b None) c.requires.1).1

pub returns-clause-drops : goal.returns-clause-drops
returns-clause-drops g c =
    let seen = g.D.StoreDisk.seen in
    let d = c.drop_temp in
    drops_call c.did_law.ensures (seen c.args.disk.now) (seen d.new.self) c.args.k (Some 0) d.result d.ensures.kept d.ensures.step
