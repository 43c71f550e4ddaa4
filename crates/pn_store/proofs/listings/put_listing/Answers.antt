use Rattle.std.proofs.Common.{subst, sym, ◌∙◌}
use Rattle.std.specs.List.{Contains}
use Rattle.sha2.specs.Sha512.{sha512}
use Rattle.pn_digest.specs.Listing.{listing_text}
use Rattle.pn_storecore.specs.declared.step.StoreStep.TheVariants.{PublishListing}
use Rattle.pn_store.specs.Own.{IsNoPublish}
use Rattle.pn_store.proofs.HeldLemmas.{works_none}
use Rattle.pn_store.proofs.MadeLemmas.{made_none, at_most_none}
use Rattle.pn_store.proofs.listings.put_listing.Goals as goal

pub put_text-requires-clause-text : goal.put_text-requires-clause-text
put_text-requires-clause-text g c = (c.args.listing.now, record { listing = c.as_slice.ensures.listing; is = c.as_slice-2.ensures.value ∙ c.in-Ok.ensures })

pub put_text-requires-clause-named : goal.put_text-requires-clause-named
put_text-requires-clause-named g c file names =
    let same = c.listing_law.ensures names.entries c.args.listing.now names.text.listing c.as_slice.ensures.listing (sym names.text.is ∙ (c.as_slice-2.ensures.value ∙ c.in-Ok.ensures)) in
    c.requires.named (names.path, file) (subst (λ es. Contains es (names.path, file)) same names.file)

pub returns-in-Err-clause-refused : goal.returns-in-Err-clause-refused
returns-in-Err-clause-refused g c =
    let seen = g.D.StoreDisk.seen c.args.disk.now in
    at_most_none (PublishListing c.args.claim.now 0 (sha512 (listing_text c.args.listing.now))) seen seen (made_none IsNoPublish seen)

pub returns-in-Err-clause-works : goal.returns-in-Err-clause-works
returns-in-Err-clause-works g c = works_none c.grew_law.ensures c.claims_law.ensures c.args.claim.now (g.D.StoreDisk.seen c.args.disk.now) c.requires.held
