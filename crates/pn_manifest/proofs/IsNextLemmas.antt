-- The next peer of two lists in byte order.
use Rattle.std.proofs.Common.{◌≡◌, ◌≤◌, ◌<◌, ◌+◌, ℕ, zero, suc, List, [], ◌∷◌, refl, sym, ap, ◌∙◌, subst, map, drop, length, get_or, ltb, true, false, arith, add-one, add-zero}
use Rattle.std.specs.Cmp.Lexicographic.{slice_cmp}
use Rattle.std.specs.List.Sorted.{IsStrictlySortedBy}
use Rattle.std.specs.Ordering.{is_eq, nat_cmp}
use Rattle.std.proofs.lemmas.Bool.{ltb-false, ltb-true}
use Rattle.std.proofs.lemmas.Map.Text.{is_eq-slice_cmp}
use Rattle.std.proofs.lemmas.Slice.Eq.{bytes_eq-Decides}
use Rattle.std.specs.declared.cmp.Ordering.TheVariants.{Less, Equal, Greater}
use Rattle.std.proofs.Math.Seq.{drop-cons}
use Rattle.pn_manifest.specs.Listed.{pair_of}
use Rattle.pn_manifest.specs.NextPeers.{IsNext}
use Rattle.pn_manifest.specs.Pairs.{IsRising, names}
use Rattle.pn_manifest.specs.PeerLists.{any_peer, marked, peers_of, required}
use Rattle.pn_manifest.specs.Said.{AreRising}
use Rattle.pn_manifest.specs.declared.dependencies.Dependency.{Dependency}
use Rattle.pn_manifest.proofs.PeerLemmas.{IsBelow, both_first, declared_first, further, optional_first, turned}

-- what the tests of a look-up and of a comparison say
pub under : (i n : ℕ) → true ≡ ltb i n → i < n
under i n h = ltb-true i n (sym h)

pub past : (i n : ℕ) → false ≡ ltb i n → n ≤ i
past i n h = ltb-false i n (sym h)

pub tied : (j k : List ℕ) → slice_cmp nat_cmp j k ≡ Equal → j ≡ k
tied j k h = (bytes_eq-Decides j k).0 (sym (is_eq-slice_cmp j k) ∙ ap is_eq h)

rising_left : (n : ℕ) (xs : List (List ℕ)) → AreRising xs → AreRising (drop n xs)
unfolding IsStrictlySortedBy
rising_left zero xs h = h
rising_left (suc n) [] h = h
rising_left (suc n) (x ∷ xs) h = rising_left n xs h.1

rising_names : (n : ℕ) (ds : List Dependency) → IsRising (map pair_of ds) → AreRising (names (map pair_of (drop n ds)))
unfolding IsStrictlySortedBy
rising_names zero ds h = h
rising_names (suc n) [] h = h
rising_names (suc n) (d ∷ ds) h = rising_names n ds h.1

cut_at : {A : Type 0} (xs : List A) (i : ℕ) (x : A) → i < length xs → x ≡ get_or xs i x → drop i xs ≡ x ∷ drop (i + 1) xs
cut_at xs i x h is = drop-cons xs i x h ∙ ap (λ y. y ∷ drop (suc i) xs) (sym is) ∙ ap (λ n. x ∷ drop n xs) (sym (add-one i))

none_left : {A : Type 0} (xs : List A) (i : ℕ) → length xs ≤ i → drop i xs ≡ []
none_left [] zero h = refl
none_left [] (suc i) h = refl
none_left (x ∷ xs) zero h = absurd (omega arith)
none_left (x ∷ xs) (suc i) h = none_left xs i (omega arith)

below_first : (k : List ℕ) (texts : List (List ℕ)) → AreRising (k ∷ texts) → IsBelow k texts
unfolding IsStrictlySortedBy
below_first k texts h = h.0

below_all : (j k : List ℕ) (texts : List (List ℕ)) → slice_cmp nat_cmp j k ≡ Less → AreRising (k ∷ texts) → IsBelow j (k ∷ texts)
below_all j k texts h r = (h, further j k texts h (below_first k texts r))

module _ (ds : List Dependency) (i : ℕ) (os : List (List ℕ)) (j : ℕ) where
  of_declared : (one : Dependency) → i < length ds → one ≡ get_or ds i one → j ≤ length os → IsBelow one.name (drop j os)
      → IsNext ds i os j (record { peer = required (pair_of one); declared = 1; optional = 0 })
  of_declared one within is before below = record {
    of_declared = omega arith;
    of_optional = omega arith;
    some = omega arith;
    first = ap (λ (l : List Dependency). peers_of (map pair_of l) (drop j os)) (cut_at ds i one within is)
        ∙ declared_first (pair_of one) (map pair_of (drop (i + 1) ds)) (drop j os) below
        ∙ ap (λ (n : ℕ). required (pair_of one) ∷ peers_of (map pair_of (drop (i + 1) ds)) (drop n os)) (sym (add-zero j));
  }

  of_optional : (name : List ℕ) → j < length os → name ≡ get_or os j name → i ≤ length ds → AreRising os → IsBelow name (names (map pair_of (drop i ds)))
      → IsNext ds i os j (record { peer = any_peer name; declared = 0; optional = 1 })
  of_optional name within is before rises below = record {
    of_declared = omega arith;
    of_optional = omega arith;
    some = omega arith;
    first = let cut = cut_at os j name within is in
        ap (λ (l : List (List ℕ)). peers_of (map pair_of (drop i ds)) l) cut
        ∙ optional_first (map pair_of (drop i ds)) name (drop (j + 1) os) below (subst AreRising cut (rising_left j os rises))
        ∙ ap (λ (n : ℕ). any_peer name ∷ peers_of (map pair_of (drop n ds)) (drop (j + 1) os)) (sym (add-zero i));
  }

  -- a declared name before all optional ones
  pub next_declared : (one : Dependency) (name : List ℕ) → i < length ds → one ≡ get_or ds i one → j < length os → name ≡ get_or os j name → AreRising os
      → slice_cmp nat_cmp one.name name ≡ Less → IsNext ds i os j (record { peer = required (pair_of one); declared = 1; optional = 0 })
  next_declared one name within is within' is' rises less =
      let cut = cut_at os j name within' is' in
      let below = below_all one.name name (drop (j + 1) os) less (subst AreRising cut (rising_left j os rises)) in
      of_declared one within is (omega arith) (subst (IsBelow one.name) (sym cut) below)

  pub last_declared : (one : Dependency) → i < length ds → one ≡ get_or ds i one → j ≤ length os → length os ≤ j
      → IsNext ds i os j (record { peer = required (pair_of one); declared = 1; optional = 0 })
  last_declared one within is before past = of_declared one within is before (subst (IsBelow one.name) (sym (none_left os j past)) tt)

  -- a name that is both
  pub next_both : (one : Dependency) (name : List ℕ) → i < length ds → one ≡ get_or ds i one → j < length os → name ≡ get_or os j name → AreRising os
      → one.name ≡ name → IsNext ds i os j (record { peer = marked (required (pair_of one)); declared = 1; optional = 1 })
  next_both one name within is within' is' rises same = record {
    of_declared = omega arith;
    of_optional = omega arith;
    some = omega arith;
    first = let cut = cut_at os j name within' is' in
        ap (λ (l : List Dependency). peers_of (map pair_of l) (drop j os)) (cut_at ds i one within is)
        ∙ ap (λ (l : List (List ℕ)). peers_of (map pair_of (one ∷ drop (i + 1) ds)) l) cut
        ∙ both_first (pair_of one) (map pair_of (drop (i + 1) ds)) name (drop (j + 1) os) same (subst AreRising cut (rising_left j os rises));
  }

  -- an optional name before all declared ones
  pub next_optional : (one : Dependency) (name : List ℕ) → i < length ds → one ≡ get_or ds i one → j < length os → name ≡ get_or os j name → IsRising (map pair_of ds) → AreRising os
      → slice_cmp nat_cmp one.name name ≡ Greater → IsNext ds i os j (record { peer = any_peer name; declared = 0; optional = 1 })
  next_optional one name within is within' is' rises rises' greater =
      let cut = ap (λ (l : List Dependency). names (map pair_of l)) (cut_at ds i one within is) in
      let below = below_all name one.name (names (map pair_of (drop (i + 1) ds))) (turned one.name name Greater greater) (subst AreRising cut (rising_names i ds rises)) in
      of_optional name within' is' (omega arith) rises' (subst (IsBelow name) (sym cut) below)

  pub last_optional : (name : List ℕ) → i ≤ length ds → length ds ≤ i → j < length os → name ≡ get_or os j name → AreRising os
      → IsNext ds i os j (record { peer = any_peer name; declared = 0; optional = 1 })
  last_optional name before past within is rises =
      of_optional name within is before rises (subst (λ (l : List Dependency). IsBelow name (names (map pair_of l))) (sym (none_left ds i past)) tt)
