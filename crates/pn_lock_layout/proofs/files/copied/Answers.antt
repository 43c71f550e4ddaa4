use Rattle.std.proofs.Common.{◌∙◌, sym}
use Rattle.pn_digest.proofs.ListingTextLemmas.{one_listing}
use Rattle.pn_lock_layout.proofs.files.copied.Goals as goal

pub returns-in-Ok : goal.returns-in-Ok
returns-in-Ok c = one_listing c.in-Ok.copy c.args.listing.now c.in-Ok.ensures.listing c.as_slice.ensures.listing (sym c.in-Ok.ensures.ok ∙ c.as_slice-2.ensures.value ∙ c.in_ok-text.ensures)

pub unreachable-requires : goal.unreachable-requires
unreachable-requires c = (rw c.in-Err-NotListing.field-0-is at c.in-Err-NotListing.ensures.refused) (c.args.listing.now, record { listing = c.as_slice.ensures.listing; is = c.as_slice-2.ensures.value ∙ c.in_ok-text.ensures })
