use Rattle.std.proofs.Common.{[], ◌∷◌, sym, subst}
use Rattle.std.proofs.lemmas.Result.{err_from_is_err_and}
use Rattle.pn_storecore.specs.declared.step.Place.TheVariants.{Files}
use Rattle.pn_store.specs.Held.{IsHeld}
use Rattle.pn_fetch.specs.Listings.{AreListable}
use Rattle.pn_fetch.specs.Puts.{places_of}
use Rattle.pn_fetch.proofs.FetchesLemmas.{fetches_listing, refused_behind}
use Rattle.pn_fetch.proofs.IsListingOfLemmas.{listing_of, stands_of}
use Rattle.pn_fetch.proofs.PutsRefusedLemmas.{all_were, refused_store}
use Rattle.pn_fetch.proofs.WasListedLemmas.{listed_between}
use Rattle.pn_fetch.proofs.package.put_package.Goals as goal

pub listed-requires : goal.listed-requires
listed-requires g c = subst AreListable (sym c.in_ok-files.ensures.paths) c.requires.sound.files

pub put_listed-requires : goal.put_listed-requires
put_listed-requires g c =
    let mid = g.D.StoreDisk.seen c.put_files.new.disk in
    record {
      held = subst (IsHeld mid) (sym c.put_files.ensures.claim) c.put_files.ensures.fetches.works.held;
      named = stands_of (g.R.ReadFs.seen c.args.registry.now).tree c.args.one.now.folder mid c.in_ok-files.files.items c.in_ok-listing.listing c.in_ok-files.ensures.put c.in_ok-listing.ensures.files;
    }

pub returns-in_err-put_listed-clause-fetches : goal.returns-in_err-put_listed-clause-fetches
returns-in_err-put_listed-clause-fetches g c =
    let store = g.D.StoreDisk.seen in
    let source = g.R.ReadFs.seen in
    let p = c.args.one.now in
    let mid = store c.put_files.new.disk in
    fetches_listing c.grew_law.ensures c.claims_law.ensures p c.args.claim.now c.put_files.new.claim (source c.args.registry.now) (source c.put_files.new.registry) (store c.args.disk.now) mid (store c.put_listed.new.disk) c.in_ok-listing.listing
    c.put_files.ensures.claim c.put_files.ensures.fetches c.put_listed.ensures.works c.put_listed.ensures.published
    (listing_of (source c.args.registry.now).tree p mid c.in_ok-files.files.items c.in_ok-listing.listing c.in_ok-files.ensures.paths c.in_ok-files.ensures.put c.in_ok-listing.ensures.files c.in_ok-listing.ensures.listing)

pub returns-in_err-put_listed-clause-refused : goal.returns-in_err-put_listed-clause-refused
returns-in_err-put_listed-clause-refused g c =
    let store = g.D.StoreDisk.seen in
    let source = g.R.ReadFs.seen in
    let one = c.args.one.now in
    let gone = source c.put_files.new.registry in
    let mid = store c.put_files.new.disk in
    let new = store c.put_listed.new.disk in
    let p = err_from_is_err_and c.from_residual-in_err-put_listed.result c.from_residual-in_err-put_listed.ensures.1 in
    rw (p.1, p.2) (refused_behind c.grew_law.ensures c.was_law.ensures (one ∷ []) (places_of one) c.args.claim.now (source c.args.registry.now) gone gone (store c.args.disk.now) mid new _ c.put_files.ensures.fetches
    (refused_store (places_of one) gone gone mid new _ c.in_err-put_listed.ensures.refused))

pub returns-clause-was : goal.returns-clause-was
returns-clause-was g c =
    let store = g.D.StoreDisk.seen in
    all_were c.grew_law.ensures c.was_law.ensures (g.R.ReadFs.seen c.args.registry.now).tree (store c.args.disk.now) (store c.put_files.new.disk) (store c.put_listed.new.disk) (places_of c.args.one.now) c.put_listed.ensures.works.grew c.in_ok-files.ensures.was

pub returns-clause-listing : goal.returns-clause-listing
returns-clause-listing g c =
    listing_of (g.R.ReadFs.seen c.args.registry.now).tree c.args.one.now (g.D.StoreDisk.seen c.put_files.new.disk) c.in_ok-files.files.items c.in_ok-listing.listing c.in_ok-files.ensures.paths c.in_ok-files.ensures.put c.in_ok-listing.ensures.files c.in_ok-listing.ensures.listing

pub returns-clause-stored : goal.returns-clause-stored
returns-clause-stored g c =
    let store = g.D.StoreDisk.seen in
    let mid = store c.put_files.new.disk in
    let es = c.in_ok-listing.listing in
    record {
      listing = c.in_ok-put_listed.ensures.stands;
      files = λ e among. c.grew_law.ensures.object mid (store c.put_listed.new.disk) Files e.1 c.put_listed.ensures.works.grew
          (stands_of (g.R.ReadFs.seen c.args.registry.now).tree c.args.one.now.folder mid c.in_ok-files.files.items es c.in_ok-files.ensures.put c.in_ok-listing.ensures.files e among);
    }

pub returns-clause-listed : goal.returns-clause-listed
returns-clause-listed g c =
    let store = g.D.StoreDisk.seen in
    let new = store c.put_listed.new.disk in
    listed_between c.was_law.ensures (store c.args.disk.now) (store c.put_files.new.disk) new new c.put_files.ensures.fetches.works.grew (c.grew_law.ensures.none new) c.in_ok-listing.listing c.in_ok-put_listed.ensures.listed

pub returns-clause-fetches : goal.returns-clause-fetches
returns-clause-fetches g c =
    let store = g.D.StoreDisk.seen in
    let source = g.R.ReadFs.seen in
    let p = c.args.one.now in
    let mid = store c.put_files.new.disk in
    fetches_listing c.grew_law.ensures c.claims_law.ensures p c.args.claim.now c.put_files.new.claim (source c.args.registry.now) (source c.put_files.new.registry) (store c.args.disk.now) mid (store c.put_listed.new.disk) c.in_ok-listing.listing
    c.put_files.ensures.claim c.put_files.ensures.fetches c.put_listed.ensures.works c.put_listed.ensures.published
    (listing_of (source c.args.registry.now).tree p mid c.in_ok-files.files.items c.in_ok-listing.listing c.in_ok-files.ensures.paths c.in_ok-files.ensures.put c.in_ok-listing.ensures.files c.in_ok-listing.ensures.listing)
