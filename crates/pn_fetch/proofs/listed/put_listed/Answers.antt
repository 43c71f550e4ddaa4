use Rattle.std.proofs.Common.{List, ℕ, Some, sym, subst}
use Rattle.pn_storecore.specs.declared.step.Place.TheVariants.{Listings}
use Rattle.pn_storecore.specs.declared.step.StoreStep.TheVariants.{PublishListing}
use Rattle.pn_storecore.specs.Held.{HasObject}
use Rattle.pn_digest.specs.Listing.{listing_text}
use Rattle.pn_storecore.specs.Grew.{Was}
use Rattle.pn_store.specs.Own.{PublishedAtMost}
use Rattle.pn_fetch.specs.Faults.{StoreRefused}
use Rattle.pn_fetch.proofs.IsFetchStepLemmas.{one_at_most}
use Rattle.pn_fetch.proofs.PutsRefusedLemmas.{refused_listing}
use Rattle.pn_fetch.proofs.listed.put_listed.Goals as goal

pub returns-in-Ok-clause-stands : goal.returns-in-Ok-clause-stands
returns-in-Ok-clause-stands g c =
    let put = c.in-Ok.ensures.put in
    subst (HasObject (g.D.StoreDisk.seen c.put_listing.new.disk) Listings) put.digest put.stands

pub returns-in-Ok-clause-listed : goal.returns-in-Ok-clause-listed
returns-in-Ok-clause-listed g c =
    let put = c.in-Ok.ensures.put in
    let store = g.D.StoreDisk.seen in
    subst (λ (at : List ℕ). Was Listings at (Some (listing_text c.args.listing.now)) (store c.args.disk.now) (store c.put_listing.new.disk)) put.digest put.was

pub returns-in-Ok-clause-published : goal.returns-in-Ok-clause-published
returns-in-Ok-clause-published g c =
    let old = g.D.StoreDisk.seen c.args.disk.now in
    let new = g.D.StoreDisk.seen c.put_listing.new.disk in
    let k = c.args.claim.now in
    subst (λ at. PublishedAtMost (PublishListing k 0 at) old new) c.in-Ok.ensures.put.digest (one_at_most (PublishListing k 0 _) old new c.in-Ok.ensures.published)

pub returns-in-Err-clause-refused : goal.returns-in-Err-clause-refused
returns-in-Err-clause-refused g c =
    let old = g.D.StoreDisk.seen c.args.disk.now in
    let new = g.D.StoreDisk.seen c.put_listing.new.disk in
    subst (StoreRefused old new) (sym c.of_put.ensures) (refused_listing old new c.in-Err.fault c.in-Err.ensures.fault)
