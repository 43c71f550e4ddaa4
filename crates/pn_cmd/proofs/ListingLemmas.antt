-- Listings of the same files are the same.
use Rattle.std.proofs.Common.{◌≡◌, ◌++◌, ℕ, List, [], ◌∷◌, map, refl, sym, ap, ◌∙◌, subst, Some, IsPermutation}
use Rattle.std.specs.List.{Contains}
use Rattle.std.proofs.lemmas.List.Sorted.{Contains-permutation, IsPermutation-sym}
use Rattle.sha2.specs.Sha512.{sha512}
use Rattle.pn_text.specs.Path.{Path}
use Rattle.pn_text.proofs.Members.{from_map, to_map}
use Rattle.pn_fs.specs.Tree.{Tree}
use Rattle.pn_fs.proofs.SeenLemmas.{file_once}
use Rattle.pn_digest.specs.Listing.{Entry, rel_text}
use Rattle.pn_package.specs.declared.packages.Package.{Package}
use Rattle.pn_package.specs.Sound.{Contents, contents}
use Rattle.pn_collect.proofs.SortedTexts.{one_list}
use Rattle.pn_fetch.specs.Listings.{AreListingsOf, IsDigestOf, IsListingOf, path_of}

-- the digests of a told registry's file
one_digest : (r : Tree) (q : Path) (d e : List ℕ) → IsDigestOf (Some r) q d → IsDigestOf (Some r) q e → d ≡ e
one_digest r q d e a b = a.digest ∙ ap sha512 (file_once (r q) a.bytes b.bytes a.from b.from) ∙ sym b.digest

-- what one listing has, the other one has
in_other : (r : Tree) (folder other : Path) (files named : List Path) (es ds : List Entry) → folder ≡ other → files ≡ named → IsPermutation files (map path_of es) → IsPermutation named (map path_of ds)
    → ((e : Entry) → Contains es e → IsDigestOf (Some r) (e.0 ++ folder) e.1) → ((e : Entry) → Contains ds e → IsDigestOf (Some r) (e.0 ++ other) e.1) → (e : Entry) → Contains es e → Contains ds e
in_other r folder other files named es ds same names a b f g e c =
    let own : Contains files e.0 = Contains-permutation (map path_of es) files e.0 (IsPermutation-sym files (map path_of es) a) (to_map path_of es e c) in
    let at = from_map path_of ds e.0 (Contains-permutation named (map path_of ds) e.0 b (subst (λ (l : List Path). Contains l e.0) names own)) in
    let d : Entry = at.0 in
    let path : d.0 ≡ e.0 = at.2 in
    let place : d.0 ++ other ≡ e.0 ++ folder = ap (λ (p : Path). p ++ other) path ∙ ap (λ (p : Path). e.0 ++ p) (sym same) in
    let digest : d.1 ≡ e.1 = one_digest r (e.0 ++ folder) d.1 e.1 (subst (λ (q : Path). IsDigestOf (Some r) q d.1) place (g d at.1)) (f e c) in
    let both : d ≡ e = λ i. (path i, digest i) in
    subst (Contains ds) both at.1

one_of : (r : Tree) (p q : Package) (es ds : List Entry) → contents p ≡ contents q → IsListingOf (Some r) p es → IsListingOf (Some r) q ds → es ≡ ds
one_of r p q es ds same a b =
    let folder : p.folder ≡ q.folder = ap (λ (c : Contents). c.folder) same in
    let files : p.files.items ≡ q.files.items = ap (λ (c : Contents). c.files) same in
    one_list (λ (e : Entry). rel_text e.0) es ds a.listing.rising b.listing.rising
    (in_other r p.folder q.folder p.files.items q.files.items es ds folder files a.files b.files a.digests b.digests)
    (in_other r q.folder p.folder q.files.items p.files.items ds es (sym folder) (sym files) b.files a.files b.digests a.digests)

-- a told registry has one listing of each package
pub one_listing : (r : Tree) (ps qs : List Package) (ks js : List (List Entry)) → map contents ps ≡ map contents qs → AreListingsOf (Some r) ps ks → AreListingsOf (Some r) qs js → ks ≡ js
one_listing r [] [] [] [] same a b = refl
one_listing r [] [] [] (j ∷ js) same a b = absurd b
one_listing r [] [] (k ∷ ks) js same a b = absurd a
one_listing r [] (q ∷ qs) ks js same a b = cc same
one_listing r (p ∷ ps) [] ks js same a b = cc same
one_listing r (p ∷ ps) (q ∷ qs) [] js same a b = absurd a
one_listing r (p ∷ ps) (q ∷ qs) (k ∷ ks) [] same a b = absurd b
one_listing r (p ∷ ps) (q ∷ qs) (k ∷ ks) (j ∷ js) same a b =
    let heads : contents p ≡ contents q = cc same in
    let tails : map contents ps ≡ map contents qs = cc same in
    let head : k ≡ j = one_of r p q k j heads a.0 b.0 in
    let tail : ks ≡ js = one_listing r ps qs ks js tails a.1 b.1 in
    λ i. head i ∷ tail i
