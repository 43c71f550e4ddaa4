use Rattle.pn_digest.proofs.ListingTextLemmas.{one_listing}
use Rattle.pn_digest.proofs.laws.listing_law.Goals as goal

pub returns : goal.returns
returns c = one_listing
