-- Lemmas on paths that a listing may have.
use Rattle.std.proofs.Common.{◌≡◌, ◌<◌, ◌+◌, ℕ, List, [], ◌∷◌, ◌++◌, length, map, take, get_or, refl, sym, ap, ◌∙◌, subst, nat_cmp, false}
use Rattle.std.specs.Cmp.Lexicographic.{slice_cmp}
use Rattle.std.specs.List.{Contains, list_any}
use Rattle.std.specs.List.Sorted.{IsStrictlySortedBy}
use Rattle.std.proofs.lemmas.List.{map-append, take_more}
use Rattle.pn_text.specs.Path.{Path, text_below}
use Rattle.pn_text.proofs.Members.{from_map, here, there}
use Rattle.pn_digest.specs.Listing.{Entry, IsListing, has_feed, rel_text}
use Rattle.pn_digest.proofs.RisingTextLemmas.{IsChain, chain_from_rising, rising_from_chain}
use Rattle.pn_fetch.specs.Listings.{AreListable, path_of}
use Rattle.pn_fetch.proofs.IsListingOfLemmas.{feed_below}

abbrev below_of : Entry → List ℕ
below_of e = text_below e.0

abbrev rel_of : Entry → List ℕ
rel_of e = rel_text e.0

chain_below : (es : List Entry) → ((e : Entry) → Contains es e → below_of e ≡ 47 ∷ rel_of e) → IsChain rel_of es → IsChain below_of es
chain_below [] text h = tt
chain_below (x ∷ []) text h = tt
chain_below (x ∷ y ∷ es) text h = (
  ap (λ t. slice_cmp nat_cmp t (below_of y)) (text x (here x (y ∷ es))) ∙ ap (λ t. slice_cmp nat_cmp (47 ∷ rel_of x) t) (text y (there x (y ∷ es) y (here y es))) ∙ h.0,
  chain_below (y ∷ es) (λ e c. text e (there x (y ∷ es) e c)) h.1,
)

texts_of : (es : List Entry) → map text_below (map path_of es) ≡ map below_of es
texts_of [] = refl
texts_of (e ∷ es) = ap (λ (l : List (List ℕ)). below_of e ∷ l) (texts_of es)

-- the paths of a listing can be listed
listable : (es : List Entry) → IsListing es → AreListable (map path_of es)
listable es h =
    let text : (e : Entry) → Contains es e → below_of e ≡ 47 ∷ rel_of e = λ e c. sym (h.entries e c).path.spelled.spelled in
    record {
      rising = subst (IsStrictlySortedBy (slice_cmp nat_cmp)) (sym (texts_of es)) (rising_from_chain below_of es (chain_below es text (chain_from_rising rel_of es h.rising)));
      apart = λ s f c d.
          let x = from_map path_of es f c in
          let y = from_map path_of es (s ++ f) d in
          h.apart s f x.0.1 y.0.1 (subst (λ (p : Path). Contains es (p, x.0.1)) x.2 x.1) (subst (λ (p : Path). Contains es (p, y.0.1)) y.2 y.1);
      lines = λ f c.
          let x = from_map path_of es f c in
          let one : has_feed (below_of x.0) ≡ false = ap has_feed (text x.0 x.1) ∙ (h.entries x.0 x.1).one_line in
          ap (list_any has_feed) (sym x.2) ∙ sym (feed_below x.0.0) ∙ one;
    }

pub listable_as : (es : List Entry) (files : List Path) → IsListing es → files ≡ map path_of es → AreListable files
listable_as es files h same = subst AreListable (sym same) (listable es h)

-- one more path of some entries
pub paths_on : (files : List Entry) (k : ℕ) (e : Entry) (all more : List Path) (p : Path) → k < length files → e ≡ get_or files k e → more ≡ all ++ p ∷ [] → all ≡ map path_of (take k files) → p ≡ path_of e → more ≡ map path_of (take (k + 1) files)
paths_on files k e all more p within is added same at =
    added ∙ ap (λ (l : List Path). l ++ p ∷ []) same ∙ ap (λ (x : Path). map path_of (take k files) ++ x ∷ []) at
    ∙ sym (ap (map path_of) (take_more files k e within ∙ ap (λ (x : Entry). take k files ++ x ∷ []) (sym is)) ∙ map-append path_of (take k files) (e ∷ []))
