-- Lemmas on lists of peers in byte order.
use Rattle.std.proofs.Common.{◌≡◌, ℕ, List, [], ◌∷◌, refl, sym, ap, ◌∙◌, subst, map}
use Rattle.std.specs.Cmp.Lexicographic.{slice_cmp}
use Rattle.std.specs.List.{AllByRecursion}
use Rattle.std.specs.List.Sorted.{IsStrictlySortedBy}
use Rattle.std.specs.Ordering.{nat_cmp, match_ordering, ordering_reverse}
use Rattle.std.specs.declared.cmp.Ordering.{Ordering}
use Rattle.std.specs.declared.cmp.Ordering.TheVariants.{Less, Equal, Greater}
use Rattle.std.proofs.lemmas.Cmp.{nat_list_cmp_total, tied_itself}
use Rattle.pn_manifest.specs.Pairs.{Pair, names}
use Rattle.pn_manifest.specs.PeerLists.{any_peer, marked, peers_of, required, with_optional, with_optionals}
use Rattle.pn_manifest.specs.Said.{AreRising, Peer, peer_names}

-- before all of them
abbrev pub IsBelow : List ℕ → List (List ℕ) → Type 0
IsBelow k texts = AllByRecursion (λ (y : List ℕ). slice_cmp nat_cmp k y ≡ Less) texts

pub turned : (j k : List ℕ) (o : Ordering) → slice_cmp nat_cmp j k ≡ o → slice_cmp nat_cmp k j ≡ ordering_reverse o
turned j k o h = nat_list_cmp_total.antisymm k j ∙ ap ordering_reverse h

pub further : (j k : List ℕ) (texts : List (List ℕ)) → slice_cmp nat_cmp j k ≡ Less → IsBelow k texts → IsBelow j texts
further j k [] h b = tt
further j k (y ∷ ys) h b = (nat_list_cmp_total.trans j k y h b.0, further j k ys h b.1)

before : (o : List ℕ) (ps : List Peer) → IsBelow o (peer_names ps) → with_optional o ps ≡ any_peer o ∷ ps
before o [] h = refl
before o (p ∷ ps) h = ap (λ c. match_ordering c (any_peer o ∷ p ∷ ps) (marked p ∷ ps) (p ∷ with_optional o ps)) h.0

behind : (o : List ℕ) (p : Peer) (ps : List Peer) → slice_cmp nat_cmp p.name o ≡ Less → with_optional o (p ∷ ps) ≡ p ∷ with_optional o ps
behind o p ps h = ap (λ c. match_ordering c (any_peer o ∷ p ∷ ps) (marked p ∷ ps) (p ∷ with_optional o ps)) (turned p.name o Less h)

-- names after it leave the first peer as it is
first_stays : (p : Peer) (ps : List Peer) (os : List (List ℕ)) → IsBelow p.name os → with_optionals os (p ∷ ps) ≡ p ∷ with_optionals os ps
first_stays p ps [] h = refl
first_stays p ps (o ∷ os) h = ap (with_optional o) (first_stays p ps os h.1) ∙ behind o p (with_optionals os ps) h.0

below_with : (k o : List ℕ) (ps : List Peer) → slice_cmp nat_cmp k o ≡ Less → IsBelow k (peer_names ps) → IsBelow k (peer_names (with_optional o ps))
below_with k o [] h b = (h, tt)
below_with k o (p ∷ ps) h b =
    elim (slice_cmp nat_cmp o p.name) as (λ c. IsBelow k (peer_names (match_ordering c (any_peer o ∷ p ∷ ps) (marked p ∷ ps) (p ∷ with_optional o ps)))) [
      | Less ↦ (h, b)
      | Equal ↦ b
      | Greater ↦ (b.0, below_with k o ps h b.1)
    ]

below_withs : (k : List ℕ) (os : List (List ℕ)) (ps : List Peer) → IsBelow k os → IsBelow k (peer_names ps) → IsBelow k (peer_names (with_optionals os ps))
below_withs k [] ps h b = b
below_withs k (o ∷ os) ps h b = below_with k o (with_optionals os ps) h.0 (below_withs k os ps h.1 b)

rises_with : (o : List ℕ) (ps : List Peer) → AreRising (peer_names ps) → AreRising (peer_names (with_optional o ps))
unfolding IsStrictlySortedBy
rises_with o [] h = (tt, tt)
rises_with o (p ∷ ps) h =
    elim (slice_cmp nat_cmp o p.name) as (λ c. slice_cmp nat_cmp o p.name ≡ c → AreRising (peer_names (match_ordering c (any_peer o ∷ p ∷ ps) (marked p ∷ ps) (p ∷ with_optional o ps)))) [
      | Less ↦ λ e. ((e, further o p.name (peer_names ps) e h.0), h)
      | Equal ↦ λ e. h
      | Greater ↦ λ e. (below_with p.name o ps (turned o p.name Greater e) h.0, rises_with o ps h.1)
    ] refl

pub rises_withs : (os : List (List ℕ)) (ps : List Peer) → AreRising (peer_names ps) → AreRising (peer_names (with_optionals os ps))
rises_withs [] ps h = h
rises_withs (o ∷ os) ps h = rises_with o (with_optionals os ps) (rises_withs os ps h)

pub required_names : (ds : List Pair) → peer_names (map required ds) ≡ names ds
required_names [] = refl
required_names (d ∷ ds) = ap (λ (ns : List (List ℕ)). d.0 ∷ ns) (required_names ds)

-- the peers rise where the declared names do
pub peers_rise : (ds : List Pair) (os : List (List ℕ)) → AreRising (names ds) → AreRising (peer_names (peers_of ds os))
peers_rise ds os h = rises_withs os (map required ds) (subst AreRising (sym (required_names ds)) h)

-- the first peer is of the first declared name, where all optional names are after it
pub declared_first : (d : Pair) (ds : List Pair) (os : List (List ℕ)) → IsBelow d.0 os → peers_of (d ∷ ds) os ≡ required d ∷ peers_of ds os
declared_first d ds os h = first_stays (required d) (map required ds) os h

-- of a name that is both
pub both_first : (d : Pair) (ds : List Pair) (o : List ℕ) (os : List (List ℕ)) → d.0 ≡ o → AreRising (o ∷ os) → peers_of (d ∷ ds) (o ∷ os) ≡ marked (required d) ∷ peers_of ds os
unfolding IsStrictlySortedBy
both_first d ds o os same h =
    let rest = with_optionals os (map required ds) in
    ap (with_optional o) (first_stays (required d) (map required ds) os (subst (λ (k : List ℕ). IsBelow k os) (sym same) h.0))
    ∙ ap (λ c. match_ordering c (any_peer o ∷ required d ∷ rest) (marked (required d) ∷ rest) (required d ∷ with_optional o rest))
    (subst (λ (k : List ℕ). slice_cmp nat_cmp o k ≡ Equal) (sym same) (tied_itself nat_list_cmp_total o))

-- of the first optional name, where all declared names are after it
pub optional_first : (ds : List Pair) (o : List ℕ) (os : List (List ℕ)) → IsBelow o (names ds) → AreRising (o ∷ os) → peers_of ds (o ∷ os) ≡ any_peer o ∷ peers_of ds os
unfolding IsStrictlySortedBy
optional_first ds o os below h =
    before o (with_optionals os (map required ds)) (below_withs o os (map required ds) h.0 (subst (IsBelow o) (sym (required_names ds)) below))
