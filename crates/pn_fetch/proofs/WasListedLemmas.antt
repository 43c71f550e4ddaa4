-- Lemmas on listings that were put.
use Rattle.std.proofs.Common.{List, Some}
use Rattle.std.specs.List.{All}
use Rattle.std.proofs.lemmas.List.Elements.{All-weaker}
use Rattle.sha2.specs.Sha512.{sha512}
use Rattle.pn_digest.specs.Listing.{Entry, listing_text}
use Rattle.pn_storecore.specs.declared.step.Place.TheVariants.{Listings}
use Rattle.pn_storecore.specs.Seen.{Seen}
use Rattle.pn_storecore.specs.Grew.{Grew}
use Rattle.pn_storecore.specs.CallLaws.{WasLaw}
use Rattle.pn_fetch.specs.Puts.{WasListed}

-- a listing that was put was put between steps around
pub listed_between : WasLaw → (a b c d : Seen) → Grew a b → Grew c d → (es : List Entry) → WasListed b c es → WasListed a d es
listed_between law a b c d first last es h =
    let at = sha512 (listing_text es) in
    law.behind a c d Listings at (Some (listing_text es)) (law.before a b c Listings at (Some (listing_text es)) first h) last

pub all_listed_between : WasLaw → (a b c d : Seen) → Grew a b → Grew c d → (all : List (List Entry)) → All (WasListed b c) all → All (WasListed a d) all
all_listed_between law a b c d first last all h = All-weaker (WasListed b c) (WasListed a d) (listed_between law a b c d first last) all h
