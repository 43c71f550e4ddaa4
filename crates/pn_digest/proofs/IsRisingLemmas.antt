-- Files in byte order, each path once.
use Rattle.std.proofs.Common.{◌≡◌, ℕ, List, [], ◌∷◌, get_or, sym, ap, ◌∙◌, subst, arith, refl, Bool, true, false, Less, nat_cmp}
use Rattle.std.specs.Prelude.{suc}
use Rattle.std.specs.Ordering.{is_lt, is_eq, ordering_reverse}
use Rattle.std.specs.declared.cmp.Ordering.{Ordering}
use Rattle.std.specs.declared.cmp.Ordering.TheVariants.{Equal, Greater}
use Rattle.std.specs.Cmp.Lexicographic.{slice_cmp, texts_ties}
use Rattle.std.specs.Str.{bytes_eq}
use Rattle.std.specs.List.{IsDistinct}
use Rattle.std.specs.List.Sorted.{IsSortedBy}
use Rattle.std.proofs.lemmas.Cmp.{nat_list_cmp_total}
use Rattle.pn_digest.specs.Listing.{Entry, IsRising, rel_text}
use Rattle.pn_digest.proofs.RisingTextLemmas.{IsChain, less_is, read_on, rising_from_chain}

abbrev pub entry_text : Entry → List ℕ
entry_text e = rel_text e.0

abbrev pub path_cmp : Entry → Entry → Ordering
path_cmp a b = slice_cmp nat_cmp (rel_text a.0) (rel_text b.0)

abbrev pub same_text : Entry → Entry → Bool
same_text a b = bytes_eq (rel_text a.0) (rel_text b.0)

-- neither after it nor with its text
before : (x y : Entry) → is_lt (path_cmp y x) ≡ false → same_text x y ≡ false → path_cmp x y ≡ Less
before x y late other = cases (path_cmp x y) refl
  where
    cases : (o : Ordering) → path_cmp x y ≡ o → path_cmp x y ≡ Less
    cases Less e = e
    cases Equal e = let f : false ≡ true = sym other ∙ texts_ties (rel_text x.0) (rel_text y.0) ∙ ap is_eq e in cc
    cases Greater e = absurd (less_is (path_cmp y x) (back (path_cmp y x) (sym (nat_list_cmp_total.antisymm (rel_text x.0) (rel_text y.0)) ∙ e)) late)
      where
        back : (o : Ordering) → ordering_reverse o ≡ Greater → o ≡ Less
        back Less h = refl
        back Equal h = cc h
        back Greater h = cc h

chain_from_sorted : (es : List Entry) → IsSortedBy (λ a b. is_lt (path_cmp a b)) es → IsDistinct same_text es → IsChain entry_text es
unfolding IsDistinct
chain_from_sorted [] h d = tt
chain_from_sorted (x ∷ []) h d = tt
chain_from_sorted (x ∷ y ∷ es) h d = (
  before x y (h 0 x (omega arith) (omega arith)) d.0.0,
  chain_from_sorted (y ∷ es) (λ k e low lt. subst (λ z. is_lt (path_cmp z (get_or (y ∷ es) k e)) ≡ false) (read_on x (y ∷ es) k e) (h (suc k) e (omega arith) (omega (arith, lt)))) d.1,
)

-- sorted files of which no two have one text
pub rising_from_sorted : (es : List Entry) → IsSortedBy (λ a b. is_lt (path_cmp a b)) es → IsDistinct same_text es → IsRising es
rising_from_sorted es sorted distinct = rising_from_chain entry_text es (chain_from_sorted es sorted distinct)
