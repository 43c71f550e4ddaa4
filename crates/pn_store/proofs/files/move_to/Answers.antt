use Rattle.std.proofs.Common.{ℕ, Some, subst}
use Rattle.pn_storecore.specs.declared.step.Place.TheVariants.{Files}
use Rattle.pn_storecore.specs.declared.step.StoreStep.TheVariants.{PublishFile}
use Rattle.pn_store.specs.Own.{IsShard, Made, PublishedOne}
use Rattle.pn_text.proofs.Results.{on_ok}
use Rattle.pn_store.proofs.HeldLemmas.{works_twice}
use Rattle.pn_store.proofs.MadeLemmas.{at_most_beside, beside_at_most, beside_one, shard_file}
use Rattle.pn_store.proofs.files.move_to.Goals as goal

pub publish_file-requires-clause-holds : goal.publish_file-requires-clause-holds
publish_file-requires-clause-holds g c = (c.requires.0, c.in_ok-shard.ensures.left (Some c.requires.0) c.requires.1, c.requires.2)

pub returns-clause-stands : goal.returns-clause-stands
returns-clause-stands g c bytes held = c.publish_file.ensures.stands bytes (c.in_ok-shard.ensures.left (Some bytes) held)

pub returns-in_err-shard-clause-at_most : goal.returns-in_err-shard-clause-at_most
returns-in_err-shard-clause-at_most g c =
    let seen = g.D.StoreDisk.seen in
    let at = c.args.at.now in
    let old = seen c.args.disk.now in
    let mid = seen c.shard.new.disk in
    at_most_beside (PublishFile c.args.k 0 at) old mid (shard_file c.args.k at old mid (subst (λ (n : ℕ). Made (IsShard Files n) old mid) c.first_of.ensures c.shard.ensures.made))

pub returns-clause-at_most : goal.returns-clause-at_most
returns-clause-at_most g c =
    let seen = g.D.StoreDisk.seen in
    let at = c.args.at.now in
    let old = seen c.args.disk.now in
    let mid = seen c.shard.new.disk in
    beside_at_most (PublishFile c.args.k 0 at) old mid (seen c.publish_file.new.disk) (shard_file c.args.k at old mid (subst (λ (n : ℕ). Made (IsShard Files n) old mid) c.first_of.ensures c.shard.ensures.made)) c.publish_file.ensures.at_most

pub returns-clause-published : goal.returns-clause-published
returns-clause-published g c =
    let seen = g.D.StoreDisk.seen in
    let at = c.args.at.now in
    let own = PublishFile c.args.k 0 at in
    let old = seen c.args.disk.now in
    let mid = seen c.shard.new.disk in
    let new = seen c.publish_file.new.disk in
    on_ok {P = PublishedOne own mid new} {Q = PublishedOne own old new} c.publish_file.result (beside_one own old mid new (shard_file c.args.k at old mid (subst (λ (n : ℕ). Made (IsShard Files n) old mid) c.first_of.ensures c.shard.ensures.made))) c.publish_file.ensures.published

pub returns-clause-works : goal.returns-clause-works
returns-clause-works g c =
    let seen = g.D.StoreDisk.seen in
    works_twice c.grew_law.ensures c.claims_law.ensures c.args.k (seen c.args.disk.now) (seen c.shard.new.disk) (seen c.publish_file.new.disk) c.shard.ensures.works c.publish_file.ensures.works
