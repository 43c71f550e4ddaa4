use Rattle.std.proofs.Common.{sym, ◌∙◌, subst}
use Rattle.pn_digest.specs.Listing.{IsRising}
use Rattle.pn_digest.specs.ListingFaults.{IsBadAt, IsFirst, IsNowhere}
use Rattle.pn_digest.proofs.IsListingTextLemmas.{one_text, found, not_found}
use Rattle.pn_digest.proofs.IsListingLemmas.{listing_is, none_in_listing}
use Rattle.pn_digest.proofs.listing.Listing.read.Goals as goal

pub returns-then-not-is_rising-clause-refused : goal.returns-then-not-is_rising-clause-refused
returns-then-not-is_rising-clause-refused c = λ text.
    c.if-not-is_rising.ensures (subst IsRising (sym c.as_slice.ensures.value) (one_text c.args.bytes.now c.in_ok-files.files.items c.in_ok-files.ensures.ok c.in_ok-files.ensures.entries text).rising)

pub returns-then-is_some-clause-refused : goal.returns-then-is_some-clause-refused
returns-then-is_some-clause-refused c = λ text.
    let files = c.in_ok-files.files.items in
    let slice = c.as_slice-3.result.now in
    let first = found c.first_bad.result (IsNowhere (IsBadAt slice)) (IsFirst (IsBadAt slice)) c.first_bad.ensures.first (sym c.is_some.ensures ∙ c.if-is_some.true) in
    none_in_listing files first.0 (one_text c.args.bytes.now files c.in_ok-files.ensures.ok c.in_ok-files.ensures.entries text)
    (subst (λ z. IsBadAt z first.0) c.as_slice-3.ensures.value first.1.here)

pub listed-requires : goal.listed-requires
listed-requires c =
    let files = c.in_ok-files.files.items in
    let slice = c.as_slice-3.result.now in
    let none = not_found c.first_bad.result (IsNowhere (IsBadAt slice)) (IsFirst (IsBadAt slice)) c.first_bad.ensures.first (sym c.is_some.ensures ∙ c.if-is_some.false) in
    listing_is files c.in_ok-files.ensures.entries (subst IsRising c.as_slice.ensures.value c.if-not-is_rising.ensures) (subst (λ z. IsNowhere (IsBadAt z)) c.as_slice-3.ensures.value none.0)
