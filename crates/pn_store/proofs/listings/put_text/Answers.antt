use Rattle.std.proofs.Common.{[], sym, subst}
use Rattle.pn_storecore.specs.declared.step.Place.TheVariants.{Files, Listings}
use Rattle.sha2.specs.Sha512.{sha512}
use Rattle.pn_store.specs.Listed.{IsText}
use Rattle.pn_storecore.specs.declared.step.StoreStep.TheVariants.{PublishListing}
use Rattle.pn_text.proofs.Results.{any_err}
use Rattle.pn_store.specs.Own.{PublishedOne, PublishedAtMost}
use Rattle.pn_store.proofs.HeldLemmas.{works_twice}
use Rattle.pn_store.proofs.MadeLemmas.{none_both, none_one, none_at_most, at_most_none}
use Rattle.pn_store.proofs.listings.put_text.Goals as goal

pub publish_text-requires : goal.publish_text-requires
publish_text-requires g c =
    let seen = g.D.StoreDisk.seen in
    let law = c.grew_law.ensures in
    let old = seen c.args.disk.now in
    let one = seen c.start.new.disk in
    let two = seen c.append.new.disk in
    (c.args.text.now, c.in_ok-append.ensures.ok [] c.in_ok-start.ensures.ok, sym c.of_bytes-at.ensures, c.requires.text, λ file names. law.object old two Files file (law.both old one two c.start.ensures.works.grew c.append.ensures.works.grew) (c.requires.named file names))

pub returns-clause-put : goal.returns-clause-put
returns-clause-put g c =
    let seen = g.D.StoreDisk.seen in
    let laws = c.grew_law.ensures in
    let k = c.args.k in
    let old = seen c.args.disk.now in
    let one = seen c.start.new.disk in
    let two = seen c.append.new.disk in
    let new = seen c.publish_text.new.disk in
    let at = c.of_bytes-at.result in
    let stands = c.in_ok-publish_text.ensures.stands c.args.text.now (c.in_ok-append.ensures.ok [] c.in_ok-start.ensures.ok) in
    let claims = c.claims_law.ensures in
    let works = works_twice laws claims k old two new (works_twice laws claims k old one two c.start.ensures.works c.append.ensures.works) c.publish_text.ensures.works in
    subst (IsText c.args.text.now old new) (sym c.of.ensures) (record {
      digest = c.of_bytes-at.ensures;
      was = c.was_law.ensures.now old new Listings at c.args.text.now works.grew stands;
      stands = c.stands_law.ensures.object new Listings at c.args.text.now stands;
    })

pub returns-clause-published : goal.returns-clause-published
returns-clause-published g c =
    let seen = g.D.StoreDisk.seen in
    let k = c.args.k in
    let old = seen c.args.disk.now in
    let one = seen c.start.new.disk in
    let two = seen c.append.new.disk in
    let new = seen c.publish_text.new.disk in
    subst (λ d. PublishedOne (PublishListing k 0 d) old new) (sym c.of.ensures)
    (none_one (PublishListing k 0 c.of_bytes-at.result) old two new (none_both old one two c.start.ensures.unpublished c.append.ensures.unpublished) c.in_ok-publish_text.ensures.published)

pub returns-in_err-start-clause-refused : goal.returns-in_err-start-clause-refused
returns-in_err-start-clause-refused g c =
    let seen = g.D.StoreDisk.seen in
    any_err c.from_residual.result (at_most_none (PublishListing c.args.k 0 (sha512 c.args.text.now)) (seen c.args.disk.now) (seen c.start.new.disk) c.start.ensures.unpublished)

pub returns-in_err-append-clause-refused : goal.returns-in_err-append-clause-refused
returns-in_err-append-clause-refused g c =
    let seen = g.D.StoreDisk.seen in
    let old = seen c.args.disk.now in
    let one = seen c.start.new.disk in
    let two = seen c.append.new.disk in
    any_err c.from_residual-in_err-append.result (at_most_none (PublishListing c.args.k 0 (sha512 c.args.text.now)) old two (none_both old one two c.start.ensures.unpublished c.append.ensures.unpublished))

pub returns-in_err-publish_text-clause-refused : goal.returns-in_err-publish_text-clause-refused
returns-in_err-publish_text-clause-refused g c =
    let seen = g.D.StoreDisk.seen in
    let k = c.args.k in
    let old = seen c.args.disk.now in
    let one = seen c.start.new.disk in
    let two = seen c.append.new.disk in
    let new = seen c.publish_text.new.disk in
    let most = subst (λ d. PublishedAtMost (PublishListing k 0 d) two new) c.of_bytes-at.ensures c.publish_text.ensures.at_most in
    any_err c.from_residual-in_err-publish_text.result (none_at_most (PublishListing k 0 (sha512 c.args.text.now)) old two new (none_both old one two c.start.ensures.unpublished c.append.ensures.unpublished) most)

pub returns-in_err-append-clause-works : goal.returns-in_err-append-clause-works
returns-in_err-append-clause-works g c =
    let seen = g.D.StoreDisk.seen in
    works_twice c.grew_law.ensures c.claims_law.ensures c.args.k (seen c.args.disk.now) (seen c.start.new.disk) (seen c.append.new.disk) c.start.ensures.works c.append.ensures.works

pub returns-in_err-publish_text-clause-works : goal.returns-in_err-publish_text-clause-works
returns-in_err-publish_text-clause-works g c =
    let seen = g.D.StoreDisk.seen in
    let laws = c.grew_law.ensures in
    let claims = c.claims_law.ensures in
    let k = c.args.k in
    let old = seen c.args.disk.now in
    let one = seen c.start.new.disk in
    let two = seen c.append.new.disk in
    works_twice laws claims k old two (seen c.publish_text.new.disk) (works_twice laws claims k old one two c.start.ensures.works c.append.ensures.works) c.publish_text.ensures.works

pub returns-clause-works : goal.returns-clause-works
returns-clause-works g c =
    let seen = g.D.StoreDisk.seen in
    let laws = c.grew_law.ensures in
    let claims = c.claims_law.ensures in
    let k = c.args.k in
    let old = seen c.args.disk.now in
    let one = seen c.start.new.disk in
    let two = seen c.append.new.disk in
    works_twice laws claims k old two (seen c.publish_text.new.disk) (works_twice laws claims k old one two c.start.ensures.works c.append.ensures.works) c.publish_text.ensures.works
