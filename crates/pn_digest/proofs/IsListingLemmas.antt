-- Files that make a listing, and files that make none.
use Rattle.std.proofs.Common.{◌≡◌, ℕ, List, [], ◌∷◌, ◌++◌, refl, sym, ap, arith, false, inl, inr, Some}
use Rattle.std.specs.Prelude.{slice_get, zero, suc}
use Rattle.std.specs.Ordering.{is_lt}
use Rattle.std.specs.Cmp.Lexicographic.{nat_list_eq_equiv}
use Rattle.std.specs.List.{Contains, AllByRecursion, IsDistinct}
use Rattle.std.specs.List.Sorted.{IsPermutation, IsSortedBy}
use Rattle.std.proofs.lemmas.List.Sorted.{Contains-permutation, IsPermutation-sym}
use Rattle.std.proofs.lemmas.Map.Keys.{IsDistinct-IsPermutation}
use Rattle.std.proofs.lemmas.Option.{get_or_from_slice_get}
use Rattle.std.proofs.lemmas.Slice.Eq.{bytes_eq-Decides}
use Rattle.pn_text.specs.Path.{Path}
use Rattle.pn_digest.specs.Listing.{Entry, IsEntry, IsListing, IsRising, AreApart, IsRelPath, rel_text, has_feed}
use Rattle.pn_digest.specs.ListingFaults.{IsBadAt, IsTwiceAt, IsNowhere}
use Rattle.pn_digest.proofs.PlaceLemmas.{at_place, within_at}
use Rattle.pn_digest.proofs.IsRelPathLemmas.{same_rel}
use Rattle.pn_digest.proofs.IsRisingLemmas.{path_cmp, same_text, rising_from_sorted}
use Rattle.pn_text.proofs.Members.{here, there}
use Rattle.pn_text.proofs.Bools.{true_false}
use Rattle.std.proofs.lemmas.Bool.{false_from_ne_true}

-- what is in a list stands at a place
place_of : (files : List Entry) (e : Entry) → Contains files e → (k : ℕ) × (slice_get files k ≡ Some e)
place_of files e h = (h.0, at_place files h.0 e h.1 (sym h.2))

some_part : (x : List ℕ) (s : Path) → x ∷ s ≡ [] → ⊥
some_part x s e = cc e

pub apart : (files : List Entry) → IsNowhere (IsBadAt files) → AreApart files
apart files none [] p d d' a b = refl
apart files none (x ∷ s) p d d' a b =
    let k = place_of files (p, d) a in
    absurd (none k.0 (record { entry = (p, d); stands = k.1; bad = inr (record { part = x; down = s; digest = d'; stands = b }) }))

all_in : (P : Entry → Type 0) (es : List Entry) → ((e : Entry) → Contains es e → P e) → AllByRecursion P es
all_in P [] h = tt
all_in P (e ∷ es) h = (h e (here e es), all_in P es (λ f i. h f (there e es f i)))

twice_later : (x : Entry) (xs : List Entry) (k : ℕ) → IsTwiceAt xs k → IsTwiceAt (x ∷ xs) (suc k)
twice_later x xs k t = record {
  path = t.path;
  digest = t.digest;
  stands = t.stands;
  place = suc t.place;
  earlier = omega (arith, t.earlier);
  digest_there = t.digest_there;
  stands_there = t.stands_there;
}

twice_first : (x y : Entry) (xs : List Entry) (k : ℕ) → x.0 ≡ y.0 → slice_get xs k ≡ Some y → IsTwiceAt (x ∷ xs) (suc k)
twice_first x y xs k same stands = record {
  path = y.0;
  digest = y.1;
  stands = stands;
  place = zero;
  earlier = omega arith;
  digest_there = x.1;
  stands_there = ap (λ p. Some (p, x.1)) same;
}

-- no two of the files have one text
pub distinct : (files : List Entry) → ((e : Entry) → Contains files e → IsRelPath e.0) → IsNowhere (IsTwiceAt files) → IsDistinct same_text files
unfolding IsDistinct
distinct [] good none = tt
distinct (x ∷ xs) good none = (
  all_in (λ y. same_text x y ≡ false) xs (λ y i. false_from_ne_true (same_text x y) (λ e.
      let k = place_of xs y i in
      let same : x.0 ≡ y.0 = same_rel x.0 y.0 (good x (here x xs)) (good y (there x xs y i)) ((bytes_eq-Decides (rel_text x.0) (rel_text y.0)).0 e) in
      none (suc k.0) (twice_first x y xs k.0 same k.1))),
  distinct xs (λ e i. good e (there x xs e i)) (λ k t. none (suc k) (twice_later x xs k t)),
)

-- the files in order are a listing
pub listing_of : (files sorted : List Entry) → IsPermutation files sorted → IsSortedBy (λ a b. is_lt (path_cmp a b)) sorted
    → ((e : Entry) → Contains files e → IsEntry e) → IsNowhere (IsBadAt files) → IsNowhere (IsTwiceAt files) → IsListing sorted
listing_of files sorted moved order entries bad twice =
    let back = λ (e : Entry) (i : Contains sorted e). Contains-permutation sorted files e (IsPermutation-sym files sorted moved) i in
    let apart_files = apart files bad in
    record {
      entries = λ e i. entries e (back e i);
      rising = rising_from_sorted sorted order
          (IsDistinct-IsPermutation same_text (λ x y. nat_list_eq_equiv.symm (rel_text x.0) (rel_text y.0)) files sorted moved (distinct files (λ e i. (entries e i).path) twice));
      apart = λ s p d d' a b. apart_files s p d d' (back (p, d) a) (back (s ++ p, d') b);
    }

pub listing_is : (files : List Entry) → ((e : Entry) → Contains files e → IsEntry e) → IsRising files → IsNowhere (IsBadAt files) → IsListing files
listing_is files entries rising bad = record { entries = entries; rising = rising; apart = apart files bad }

-- no path of a listing is bad
pub none_in_listing : (files : List Entry) (k : ℕ) → IsListing files → IsBadAt files k → ⊥
none_in_listing files k listing b =
    let within = within_at files k b.entry b.stands in
    let i : Contains files b.entry = (k, within, get_or_from_slice_get files k b.entry b.entry b.stands) in
    elim b.bad [
      | inl feed ↦ true_false (has_feed (rel_text b.entry.0)) feed (listing.entries b.entry i).one_line
      | inr below ↦ some_part below.part below.down (listing.apart (below.part ∷ below.down) b.entry.0 b.entry.1 below.digest i below.stands)
    ]
