-- What stays of listings that were fetched.
use Rattle.std.specs.Prelude.{List}
use Rattle.std.specs.List.{Contains}
use Rattle.sha2.specs.Sha512.{sha512}
use Rattle.pn_digest.specs.Listing.{Entry, listing_text}
use Rattle.pn_storecore.specs.declared.step.Place.TheVariants.{Files, Listings}
use Rattle.pn_storecore.specs.Seen.{Seen}
use Rattle.pn_storecore.specs.Held.{HasDigest, IsSoundStore}
use Rattle.pn_storecore.specs.Grew.{Grew}
use Rattle.pn_fetch.specs.Listings.{IsStored}

-- What stands at the listing's address and at each of its files has the address as digest.
pub record IsKept (s : Seen) (es : List Entry) : Type 0 where
  pub listing : HasDigest s Listings (sha512 (listing_text es))
  pub files : (e : Entry) → Contains es e → HasDigest s Files e.1

-- So it is of a stored listing, also after further steps, in a store that was sound before.
abbrev pub KeptLaw : Type 0
KeptLaw = (old mid new : Seen) (es : List Entry) → IsSoundStore old → Grew old mid → IsStored mid es → Grew mid new → IsKept new es
