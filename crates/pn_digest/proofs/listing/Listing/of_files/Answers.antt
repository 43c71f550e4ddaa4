use Rattle.std.proofs.Common.{◌≡◌, List, refl, subst}
use Rattle.std.specs.List.{Contains}
use Rattle.pn_digest.specs.Listing.{Entry, IsEntry}
use Rattle.pn_digest.specs.ListingFaults.{IsBadAt, IsTwiceAt, IsFirst, IsNowhere}
use Rattle.pn_digest.proofs.IsListingLemmas.{listing_of}
use Rattle.pn_digest.proofs.listing.Listing.of_files.Goals as goal

none_bad : (files slice : List Entry) → slice ≡ files → IsNowhere (IsBadAt slice) → IsNowhere (IsBadAt files)
none_bad files slice same none = subst (λ z. IsNowhere (IsBadAt z)) same none

pub listed-requires : goal.listed-requires
listed-requires c =
    listing_of c.args.files.items c.in_ok-in_order.field-0.items c.in_ok-in_order.ensures.permutation c.in_ok-in_order.ensures.sorted
    (subst (λ (z : List Entry). (e : Entry) → Contains z e → IsEntry e) c.as_slice-2.ensures.value (c.in_default.ensures.entries refl))
    (none_bad c.args.files.items c.as_slice-2.result.now c.as_slice-2.ensures.value c.in_default.ensures.first)
    (subst (λ z. IsNowhere (IsTwiceAt z)) c.as_slice-3.ensures.value (rw c.in_default-2.is at c.in_ok-at.ensures))

pub returns-in-Some-2-clause-refused : goal.returns-in-Some-2-clause-refused
returns-in-Some-2-clause-refused c = (
  none_bad c.args.files.items c.as_slice-2.result.now c.as_slice-2.ensures.value c.in_default.ensures.first,
  subst (λ z. IsFirst (IsTwiceAt z) c.in-Some-2.at) c.as_slice-3.ensures.value (rw c.in-Some-2.is at c.in_ok-at.ensures),
)
