-- What is read from a listing's text is that listing.
use Rattle.std.proofs.Common.{◌≡◌, ℕ, List, refl, sym, ◌∙◌, subst, true, false}
use Rattle.std.specs.Prelude.{Option, Some, None, MatchOption, is_some}
use Rattle.pn_digest.specs.Listing.{Entry, IsListing, IsListingText, listing_text}
use Rattle.pn_digest.specs.Lines.{AreEntries}
use Rattle.pn_digest.proofs.ListingTextLemmas.{texts_one}

pub one_text : (bytes : List ℕ) (files : List Entry) → bytes ≡ listing_text files → AreEntries files → IsListingText bytes → IsListing files
one_text bytes files is entries t = subst IsListing (texts_one t.0 files t.1.listing.entries entries (sym t.1.is ∙ is)) t.1.listing

pub found : (r : Option ℕ) (P : Type 0) (Q : ℕ → Type 0) → MatchOption r P Q → is_some r ≡ true → (k : ℕ) × Q k
found (Some k) P Q h e = (k, h)
found None P Q h e = cc e

pub not_found : (r : Option ℕ) (P : Type 0) (Q : ℕ → Type 0) → MatchOption r P Q → is_some r ≡ false → P × (r ≡ None)
not_found (Some k) P Q h e = cc e
not_found None P Q h e = (h, refl)
