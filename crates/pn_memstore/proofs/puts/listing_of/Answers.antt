use Rattle.std.proofs.Common.{◌≡◌, ◌∙◌, ℕ, List, [], ◌∷◌, ◌++◌, ap, sym, subst, inl, inr, arith}
use Rattle.std.specs.List.{Contains}
use Rattle.std.specs.List.Sorted.{IsPermutation}
use Rattle.std.proofs.lemmas.List.Elements.{Contains-push_cases}
use Rattle.std.proofs.lemmas.List.Sorted.{Contains-permutation, IsPermutation-sym}
use Rattle.pn_digest.specs.Listing.{Entry, IsListing, ListingLaw, Names, listing_text}
use Rattle.pn_memstore.proofs.puts.listing_of.Goals as goal

only : (x y : Entry) → Contains (x ∷ []) y → x ≡ y
only x y h = elim (Contains-push_cases [] x y h) [ inl a ↦ absurd (omega (arith, a.1)) | inr b ↦ b ]

one_named : (law : ListingLaw) (e : Entry) (es : List Entry) (text file : List ℕ) → IsPermutation (e ∷ []) es → IsListing es → text ≡ listing_text es → Names text file → file ≡ e.1
one_named law e es text file moved listing is names =
    let same : names.entries ≡ es = law names.entries es names.text.listing listing (sym names.text.is ∙ is) in
    let here : Contains es (names.path, file) = subst (λ (xs : List Entry). Contains xs (names.path, file)) same names.file in
    sym (ap (λ (x : Entry). x.1) (only e (names.path, file) (Contains-permutation es (e ∷ []) (names.path, file) (IsPermutation-sym (e ∷ []) es moved) here)))

pub returns : goal.returns
returns c =
    let e : Entry = (c.in_ok-read.field-0, c.of_bytes.result) in
    let es = c.in_ok-listing.listing in
    record {
      text = (es, record { listing = c.in_ok-listing.ensures.listing; is = c.in_ok-text.ensures });
      named = λ file names. one_named c.listing_law.ensures e es c.in_ok-text.text.items file (subst (λ xs. IsPermutation xs es) (c.in_ok-push.ensures.items ∙ ap (λ xs. xs ++ e ∷ []) c.new-files.ensures.items) c.in_ok-listing.ensures.ok) c.in_ok-listing.ensures.listing c.in_ok-text.ensures names ∙ c.of_bytes.ensures;
    }
