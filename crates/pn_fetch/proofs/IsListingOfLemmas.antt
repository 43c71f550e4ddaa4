-- Lemmas on the listing of a package's files.
use Rattle.std.proofs.Common.{◌≡◌, ◌<◌, ◌+◌, ℕ, List, [], ◌∷◌, ◌++◌, Bool, true, false, inl, inr, map, length, take, get_or, refl, sym, ap, ◌∙◌, subst, nat_cmp, Less, Equal, IsPermutation}
use Rattle.std.specs.Prelude.{◌==◌, ◌||◌, Option, slice_get, Some, drop}
use Rattle.std.specs.Cmp.Lexicographic.{slice_cmp}
use Rattle.std.specs.List.{All, AllZip, Contains, list_any}
use Rattle.std.proofs.lemmas.Cmp.{nat_list_cmp_total, tied_itself}
use Rattle.std.proofs.lemmas.List.{get_or-map, length-map, map-append, take_more}
use Rattle.std.proofs.lemmas.List.Elements.{All-contains, All-push}
use Rattle.std.proofs.lemmas.List.Folds.{list_any-append}
use Rattle.std.proofs.lemmas.List.Sorted.{Contains-permutation, IsPermutation-map, IsPermutation-sym}
use Rattle.std.proofs.lemmas.Map.Keys.{Less-from_sorted}
use Rattle.std.proofs.lemmas.Option.{get_or_from_slice_get}
use Rattle.pn_text.specs.Path.{Path, text_below}
use Rattle.pn_text.proofs.Bools.{or_right, true_false}
use Rattle.pn_text.proofs.Members.{to_map}
use Rattle.pn_fs.specs.Tree.{Tree}
use Rattle.pn_digest.specs.Listing.{Entry, IsListing, rel_text, has_feed}
use Rattle.pn_digest.specs.ListingFaults.{FilesRefused, IsBadAt, IsTwiceAt}
use Rattle.pn_digest.specs.declared.fault.ListingFault.{ListingFault}
use Rattle.pn_digest.specs.declared.fault.ListingFault.TheVariants.{BadPath, Twice, NotListing, Memory}
use Rattle.pn_digest.proofs.PlaceLemmas.{within_at}
use Rattle.pn_storecore.specs.declared.step.Place.TheVariants.{Files}
use Rattle.pn_storecore.specs.Seen.{Seen}
use Rattle.pn_storecore.specs.Held.{HasObject}
use Rattle.pn_package.specs.declared.packages.Package.{Package}
use Rattle.pn_fetch.specs.Listings.{AreListable, AreListingsOf, IsFilePut, IsListingOf, path_of}

any_behind : (f : ℕ → Bool) (text : List ℕ) → list_any f (drop 1 text) ≡ true → list_any f text ≡ true
any_behind f [] h = h
any_behind f (b ∷ bs) h = or_right (f b) (list_any f bs) h

either_way : (a b : Bool) → (a || b) ≡ (b || a)
either_way true true = refl
either_way true false = refl
either_way false true = refl
either_way false false = refl

-- a path's text has a line feed where a part has
pub feed_below : (p : Path) → has_feed (text_below p) ≡ list_any has_feed p
feed_below [] = refl
feed_below (x ∷ p) = list_any-append (λ b. b == 10) (text_below p) (47 ∷ x) ∙ ap (λ o. o || has_feed x) (feed_below p) ∙ either_way (list_any has_feed p) (has_feed x)

feed_in : (p : Path) → has_feed (rel_text p) ≡ true → list_any has_feed p ≡ true
feed_in p h = sym (feed_below p) ∙ any_behind (λ b. b == 10) (text_below p) h

among : (files : List Entry) (k : ℕ) (e : Entry) → slice_get files k ≡ Some e → Contains files e
among files k e is = (k, within_at files k e is, get_or_from_slice_get files k e e is)

never_bad : (files : List Entry) → AreListable (map path_of files) → (at : ℕ) → IsBadAt files at → ⊥
never_bad files sound at bad =
    let e = bad.entry in
    let there = to_map path_of files e (among files at e bad.stands) in
    elim bad.bad [
      | inl f ↦ true_false (list_any has_feed e.0) (feed_in e.0 f) (sound.lines e.0 there)
      | inr b ↦ let none : b.part ∷ b.down ≡ [] = sound.apart (b.part ∷ b.down) e.0 there (to_map path_of files (b.part ∷ b.down ++ e.0, b.digest) b.stands) in cc none
    ]

text_at : (files : List Entry) (k : ℕ) (e : Entry) → slice_get files k ≡ Some e → get_or (map text_below (map path_of files)) k (text_below e.0) ≡ text_below e.0
text_at files k e is =
    let within = within_at files k e is in
    get_or-map text_below (map path_of files) k (path_of e) (text_below e.0) (subst (λ n. k < n) (sym (length-map files path_of)) within)
    ∙ ap text_below (get_or-map path_of files k e (path_of e) within ∙ ap path_of (get_or_from_slice_get files k e e is))

never_twice : (files : List Entry) → AreListable (map path_of files) → (at : ℕ) → IsTwiceAt files at → ⊥
never_twice files sound at t =
    let keys = map text_below (map path_of files) in
    let x = text_below t.path in
    let one : get_or keys at x ≡ x = text_at files at (t.path, t.digest) t.stands in
    let other : get_or keys t.place x ≡ x = text_at files t.place (t.path, t.digest_there) t.stands_there in
    let within : at < length keys = subst (λ n. at < n) (sym (length-map (map path_of files) text_below ∙ length-map files path_of)) (within_at files at (t.path, t.digest) t.stands) in
    let less : slice_cmp nat_cmp x x ≡ Less =
    sym (ap (λ y. slice_cmp nat_cmp y x) other) ∙ sym (ap (λ y. slice_cmp nat_cmp (get_or keys t.place x) y) one) ∙ Less-from_sorted (slice_cmp nat_cmp) keys t.place at x sound.rising t.earlier within in
    let tied : slice_cmp nat_cmp x x ≡ Equal = tied_itself nat_list_cmp_total x in
    cc (less, tied)

-- sound files are refused for want of memory alone
pub only_memory : (files : List Entry) (e : ListingFault) → AreListable (map path_of files) → FilesRefused files e → e ≡ Memory
only_memory files (BadPath at) sound h = absurd (never_bad files sound at h.here)
only_memory files (Twice at) sound h = absurd (never_twice files sound at h.1.here)
only_memory files NotListing sound h = absurd h
only_memory files Memory sound h = refl

module _ (r : Option Tree) (folder : Path) (s : Seen) (files es : List Entry) (put : All (IsFilePut r folder s) files) (same : IsPermutation files es) where
  -- what is so of the files that were put is so of those that are listed
  pub put_of : (e : Entry) → Contains es e → IsFilePut r folder s e
  put_of e c = All-contains (IsFilePut r folder s) files e put (Contains-permutation es files e (IsPermutation-sym files es same) c)

  pub stands_of : (e : Entry) → Contains es e → HasObject s Files e.1
  stands_of e c = (put_of e c).stands

pub listing_of : (r : Option Tree) (p : Package) (s : Seen) (files es : List Entry) → map path_of files ≡ p.files.items → All (IsFilePut r p.folder s) files → IsPermutation files es → IsListing es → IsListingOf r p es
listing_of r p s files es paths put same listing = record {
  listing = listing;
  files = subst (λ (l : List Path). IsPermutation l (map path_of es)) paths (IsPermutation-map path_of files es same);
  digests = λ e c. (put_of r p.folder s files es put same e c).digest;
}

zip_push : {A B : Type 0} (R : A → B → Type 0) (xs : List A) (ys : List B) (x : A) (y : B) → AllZip R xs ys → R x y → AllZip R (xs ++ x ∷ []) (ys ++ y ∷ [])
zip_push R [] [] x y h k = (k, tt)
zip_push R [] (z ∷ ys) x y h k = absurd h
zip_push R (w ∷ xs) [] x y h k = absurd h
zip_push R (w ∷ xs) (z ∷ ys) x y h k = (h.0, zip_push R xs ys x y h.1 k)

-- one more package's listing
pub listings_more : (r : Option Tree) (packages : List Package) (k : ℕ) (p : Package) (all more : List (List Entry)) (es : List Entry) → k < length packages → p ≡ get_or packages k p → more ≡ all ++ es ∷ []
    → AreListingsOf r (take k packages) all → IsListingOf r p es → AreListingsOf r (take (k + 1) packages) more
listings_more r packages k p all more es within is added h l =
    let front : take (k + 1) packages ≡ take k packages ++ p ∷ [] = take_more packages k p within ∙ ap (λ (x : Package). take k packages ++ x ∷ []) (sym is) in
    subst (λ (ps : List Package). AreListingsOf r ps more) (sym front) (subst (λ (ls : List (List Entry)). AreListingsOf r (take k packages ++ p ∷ []) ls) (sym added) (zip_push (IsListingOf r) (take k packages) all p es h l))

-- one more file of those that were put
pub paths_more : (paths : List Path) (k : ℕ) (path : Path) (d : List ℕ) (all more : List Entry) → k < length paths → path ≡ get_or paths k path → more ≡ all ++ (path, d) ∷ [] → map path_of all ≡ take k paths → map path_of more ≡ take (k + 1) paths
paths_more paths k path d all more within is added same =
    ap (map path_of) added ∙ map-append path_of all ((path, d) ∷ []) ∙ ap (λ (l : List Path). l ++ path ∷ []) same ∙ ap (λ (x : Path). take k paths ++ x ∷ []) is ∙ sym (take_more paths k path within)

pub each_more : {A : Type 0} (P : A → Type 0) (all more : List A) (x : A) → more ≡ all ++ x ∷ [] → All P all → P x → All P more
each_more P all more x added h k = subst (All P) (sym added) (All-push P all x h k)
