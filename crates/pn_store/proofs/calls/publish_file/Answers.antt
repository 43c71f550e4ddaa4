use Rattle.std.proofs.Common.{refl, None, Some}
use Rattle.pn_storecore.specs.declared.step.Place.TheVariants.{Files}
use Rattle.pn_storecore.specs.declared.step.StoreStep.TheVariants.{PublishFile}
use Rattle.pn_storecore.specs.Held.{files_with, no_files, HasBytes}
use Rattle.pn_store.specs.Held.{HoldsFile}
use Rattle.pn_store.specs.Own.{PublishedOne}
use Rattle.pn_store.proofs.HeldLemmas.{works_by, ok_of}
use Rattle.pn_store.proofs.MadeLemmas.{one_call, at_most_call}
use Rattle.pn_store.proofs.calls.publish_file.Goals as goal

pub returns-clause-stands : goal.returns-clause-stands
returns-clause-stands g c bytes held =
    let seen = g.D.StoreDisk.seen in
    let d = c.publish_file in
    let one = seen c.args.disk.now in
    let two = seen d.new.self in
    ok_of (HasBytes two Files c.args.at.now bytes) d.result c.of_store.result c.of_store.ensures
    (c.stands_law.ensures.file one two c.args.k 0 c.args.at.now bytes (files_with no_files 0 (Some bytes)) d.result d.ensures.kept d.ensures.step held refl)

pub returns-clause-empty : goal.returns-clause-empty
returns-clause-empty g c =
    let seen = g.D.StoreDisk.seen in
    let k = c.args.k in
    let at = c.args.at.now in
    let d = c.publish_file in
    let one = seen c.args.disk.now in
    let two = seen d.new.self in
    let h = c.requires.holds in
    let files = files_with no_files 0 (Some h.0) in
    ok_of (HoldsFile two k None) d.result c.of_store.result c.of_store.ensures
    (works_by c.holds_law.ensures c.did_law.ensures c.grew_law.ensures c.leaves_law.ensures c.claims_law.ensures one two (PublishFile k 0 at) k (Some h.0) None d.result d.ensures.kept d.ensures.step d.ensures.cause refl (refl, refl)
    (c.asks_law.ensures.publish_file one k 0 at h.0 files h.1 refl h.2 c.requires.shard) (c.holds_law.ensures.again no_files 0 (Some h.0) None) h.1).0

pub returns-clause-published : goal.returns-clause-published
returns-clause-published g c =
    let seen = g.D.StoreDisk.seen in
    let d = c.publish_file in
    let one = seen c.args.disk.now in
    let two = seen d.new.self in
    let own = PublishFile c.args.k 0 c.args.at.now in
    ok_of (PublishedOne own one two) d.result c.of_store.result c.of_store.ensures (one_call one two own d.result d.ensures.kept d.ensures.step)

pub returns-clause-at_most : goal.returns-clause-at_most
returns-clause-at_most g c =
    let seen = g.D.StoreDisk.seen in
    let d = c.publish_file in
    let one = seen c.args.disk.now in
    let two = seen d.new.self in
    let own = PublishFile c.args.k 0 c.args.at.now in
    at_most_call one two own (c.did_law.ensures.does one two own d.result d.ensures.kept d.ensures.step) (λ made is. is)

pub returns-clause-works : goal.returns-clause-works
returns-clause-works g c =
    let seen = g.D.StoreDisk.seen in
    let k = c.args.k in
    let at = c.args.at.now in
    let d = c.publish_file in
    let one = seen c.args.disk.now in
    let h = c.requires.holds in
    let files = files_with no_files 0 (Some h.0) in
    (works_by c.holds_law.ensures c.did_law.ensures c.grew_law.ensures c.leaves_law.ensures c.claims_law.ensures one (seen d.new.self) (PublishFile k 0 at) k (Some h.0) None d.result d.ensures.kept d.ensures.step d.ensures.cause refl (refl, refl)
    (c.asks_law.ensures.publish_file one k 0 at h.0 files h.1 refl h.2 c.requires.shard) (c.holds_law.ensures.again no_files 0 (Some h.0) None) h.1).1
