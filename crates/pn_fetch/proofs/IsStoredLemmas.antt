-- Lemmas on what a store has of listings.
use Rattle.std.proofs.Common.{List}
use Rattle.std.specs.Prelude.{Option}
use Rattle.std.specs.List.{All}
use Rattle.std.proofs.lemmas.List.Elements.{All-weaker}
use Rattle.sha2.specs.Sha512.{sha512}
use Rattle.pn_text.specs.Path.{Path}
use Rattle.pn_fs.specs.Tree.{Tree}
use Rattle.pn_digest.specs.Listing.{Entry, listing_text}
use Rattle.pn_storecore.specs.declared.step.Place.TheVariants.{Files, Listings}
use Rattle.pn_storecore.specs.Seen.{Seen}
use Rattle.pn_storecore.specs.Grew.{Grew}
use Rattle.pn_storecore.specs.CallLaws.{GrewLaw, StandsLaw}
use Rattle.pn_fetch.specs.Laws.{KeptLaw}
use Rattle.pn_fetch.specs.Listings.{IsFilePut, IsStored}

stored_on : GrewLaw → (a b : Seen) → Grew a b → (es : List Entry) → IsStored a es → IsStored b es
stored_on law a b grew es h = record {
  listing = law.object a b Listings (sha512 (listing_text es)) grew h.listing;
  files = λ e c. law.object a b Files e.1 grew (h.files e c);
}

-- they are stored after further steps too
pub all_stored_on : GrewLaw → (a b : Seen) → Grew a b → (all : List (List Entry)) → All (IsStored a) all → All (IsStored b) all
all_stored_on law a b grew all h = All-weaker (IsStored a) (IsStored b) (stored_on law a b grew) all h

put_on : GrewLaw → (r : Option Tree) (folder : Path) (a b : Seen) → Grew a b → (e : Entry) → IsFilePut r folder a e → IsFilePut r folder b e
put_on law r folder a b grew e h = record { digest = h.digest; stands = law.object a b Files e.1 grew h.stands }

pub all_put_on : GrewLaw → (r : Option Tree) (folder : Path) (a b : Seen) → Grew a b → (es : List Entry) → All (IsFilePut r folder a) es → All (IsFilePut r folder b) es
all_put_on law r folder a b grew es h = All-weaker (IsFilePut r folder a) (IsFilePut r folder b) (put_on law r folder a b grew) es h

pub kept : GrewLaw → StandsLaw → KeptLaw
kept grew stands old mid new es sound first h last =
    let addressed = grew.digests new (grew.sound mid new last (grew.sound old mid first sound)) in
    let s = stored_on grew mid new last es h in
    record { listing = stands.digest new Listings (sha512 (listing_text es)) addressed s.listing; files = λ e c. stands.digest new Files e.1 addressed (s.files e c) }
