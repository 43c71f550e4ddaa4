use Rattle.std.proofs.Common.{ℕ, Some, subst}
use Rattle.pn_storecore.specs.declared.step.StoreStep.TheVariants.{PublishListing}
use Rattle.pn_store.specs.Own.{IsShard, Made, PublishedOne}
use Rattle.pn_text.proofs.Results.{on_ok}
use Rattle.pn_store.proofs.HeldLemmas.{works_twice}
use Rattle.pn_store.proofs.MadeLemmas.{at_most_beside, beside_at_most, beside_one, shard_listing}
use Rattle.pn_storecore.specs.declared.step.Place.TheVariants.{Files, Listings}
use Rattle.pn_store.proofs.listings.publish_text.Goals as goal

pub publish_listing-requires-clause-holds : goal.publish_listing-requires-clause-holds
publish_listing-requires-clause-holds g c =
    let seen = g.D.StoreDisk.seen in
    let h = c.requires in
    (h.0, c.in_ok-shard.ensures.left (Some h.0) h.1, h.2, h.3, λ file names. c.grew_law.ensures.object (seen c.args.disk.now) (seen c.shard.new.disk) Files file c.shard.ensures.works.grew (h.4 file names))

pub returns-clause-stands : goal.returns-clause-stands
returns-clause-stands g c text held = c.publish_listing.ensures.stands text (c.in_ok-shard.ensures.left (Some text) held)

pub returns-in_err-shard-clause-at_most : goal.returns-in_err-shard-clause-at_most
returns-in_err-shard-clause-at_most g c =
    let seen = g.D.StoreDisk.seen in
    let at = c.args.at.now in
    let old = seen c.args.disk.now in
    let mid = seen c.shard.new.disk in
    at_most_beside (PublishListing c.args.k 0 at) old mid (shard_listing c.args.k at old mid (subst (λ (n : ℕ). Made (IsShard Listings n) old mid) c.first_of.ensures c.shard.ensures.made))

pub returns-clause-at_most : goal.returns-clause-at_most
returns-clause-at_most g c =
    let seen = g.D.StoreDisk.seen in
    let at = c.args.at.now in
    let old = seen c.args.disk.now in
    let mid = seen c.shard.new.disk in
    beside_at_most (PublishListing c.args.k 0 at) old mid (seen c.publish_listing.new.disk) (shard_listing c.args.k at old mid (subst (λ (n : ℕ). Made (IsShard Listings n) old mid) c.first_of.ensures c.shard.ensures.made)) c.publish_listing.ensures.at_most

pub returns-clause-published : goal.returns-clause-published
returns-clause-published g c =
    let seen = g.D.StoreDisk.seen in
    let at = c.args.at.now in
    let own = PublishListing c.args.k 0 at in
    let old = seen c.args.disk.now in
    let mid = seen c.shard.new.disk in
    let new = seen c.publish_listing.new.disk in
    on_ok {P = PublishedOne own mid new} {Q = PublishedOne own old new} c.publish_listing.result (beside_one own old mid new (shard_listing c.args.k at old mid (subst (λ (n : ℕ). Made (IsShard Listings n) old mid) c.first_of.ensures c.shard.ensures.made))) c.publish_listing.ensures.published

pub returns-clause-works : goal.returns-clause-works
returns-clause-works g c =
    let seen = g.D.StoreDisk.seen in
    works_twice c.grew_law.ensures c.claims_law.ensures c.args.k (seen c.args.disk.now) (seen c.shard.new.disk) (seen c.publish_listing.new.disk) c.shard.ensures.works c.publish_listing.ensures.works
