-- What the packages of a lock keep.
use Rattle.std.proofs.Common.{◌≡◌, ◌<◌, ℕ, zero, suc, true, false, cond, List, [], ◌∷◌, length, map, nat_cmp, refl, sym, ap, ◌∙◌, subst, arith, IsPermutation, IsSorted}
use Rattle.std.specs.Prelude.{◌&&◌, ◌||◌, bytes_eq, slice_get}
use Rattle.std.specs.Cmp.Lexicographic.{slice_cmp}
use Rattle.std.specs.List.{All, AllByRecursion, filter, list_all}
use Rattle.std.specs.List.Sorted.{IsStrictlySortedBy}
use Rattle.std.specs.declared.cmp.Ordering.TheVariants.{Less}
use Rattle.std.proofs.lemmas.List.Elements.{All-from_recursion, recursion_from_All}
use Rattle.std.proofs.lemmas.List.Sorted.{All-permutation, IsPermutation-map, list_any-IsPermutation}
use Rattle.std.proofs.lemmas.Map.Keys.{IsDistinct-IsPermutation}
use Rattle.pn_text.specs.Name.{is_name}
use Rattle.pn_text.specs.Ids.{id_name}
use Rattle.pn_text.proofs.Bools.{and_left, and_right, or_true}
use Rattle.pn_lock.specs.declared.lists.LockPackage.{LockPackage}
use Rattle.pn_lock.specs.declared.lists.LockPeer.{LockPeer}
use Rattle.pn_lock.specs.Kept.{IsPackage, Rises, is_in}
use Rattle.pn_lock.specs.Locks.{ids_of}
use Rattle.pn_lock.proofs.KeptLemmas.{itself}
use Rattle.pn_graph.specs.declared.links.Package.{Package}
use Rattle.pn_graph.specs.declared.peer.Peer.{Peer}
use Rattle.pn_graph.specs.Graphs.{aliases, are_deps, distinct, has_own_names, is_package, peer_names, rises}
use Rattle.pn_graph.specs.Lookups.{package_id}
use Rattle.pn_lock_make.specs.Names.{IsNamedPackage}
use Rattle.pn_lock_make.specs.Packages.{optional_names, packages_from, peer_of}
use Rattle.pn_lock_make.proofs.ListLemmas.{both_weaker, tested}
use Rattle.pn_lock_make.proofs.OrderLemmas.{are_distinct, flips, rise, rises_from}

peers_same : (peers : List Peer) → map (λ (q : LockPeer). q.name) (map peer_of peers) ≡ peer_names peers
peers_same [] = refl
peers_same (r ∷ rs) = ap (λ (ns : List (List ℕ)). r.name ∷ ns) (peers_same rs)

optional_sub : (P : List ℕ → Type 0) (peers : List Peer) → AllByRecursion P (peer_names peers) → AllByRecursion P (optional_names peers)
optional_sub P [] h = tt
optional_sub P (r ∷ rs) h = elim r.optional as (λ o. AllByRecursion P (peer_names (cond o (r ∷ filter (λ (r : Peer). r.optional) rs) (filter (λ (r : Peer). r.optional) rs)))) [
  | true ↦ (h.0, optional_sub P rs h.1)
  | false ↦ optional_sub P rs h.1
]

optional_rise : (peers : List Peer) → Rises (peer_names peers) → Rises (optional_names peers)
unfolding IsStrictlySortedBy
optional_rise [] h = tt
optional_rise (r ∷ rs) h = elim r.optional as (λ o. IsStrictlySortedBy (slice_cmp nat_cmp) (peer_names (cond o (r ∷ filter (λ (r : Peer). r.optional) rs) (filter (λ (r : Peer). r.optional) rs)))) [
  | true ↦ (optional_sub (λ y. slice_cmp nat_cmp r.name y ≡ Less) rs h.0, optional_rise rs h.1)
  | false ↦ optional_rise rs h.1
]

-- the peers of a package rise
record HasRisingPeers (p : LockPackage) : Type 0 where
  peers : Rises (map (λ (q : LockPeer). q.name) p.peers)
  optional : Rises p.optional_peers

package_peers : (p k : ℕ) (q : Package) → is_package p k q ≡ true → Rises (peer_names q.peers)
package_peers p k q h = rises_from (peer_names q.peers)
    (and_right (are_deps p k q.deps) (rises (peer_names q.peers)) (and_left (are_deps p k q.deps && rises (peer_names q.peers)) (has_own_names (id_name q.id) (aliases q.deps) (peer_names q.peers)) h))

all_rise : (p k : ℕ) (integrities : List (List ℕ)) (n : ℕ) (qs : List Package) → AllByRecursion (λ (q : Package). is_package p k q ≡ true) qs → AllByRecursion HasRisingPeers (packages_from integrities n qs)
all_rise p k integrities n [] h = tt
all_rise p k integrities n (q ∷ qs) h =
    let up = package_peers p k q h.0 in
    (record { peers = subst Rises (sym (peers_same q.peers)) up; optional = optional_rise q.peers up }, all_rise p k integrities (suc n) qs h.1)

pub packages_kept : (p k : ℕ) (integrities : List (List ℕ)) (qs : List Package) (ps : List LockPackage) → list_all (is_package p k) qs ≡ true → IsPermutation (packages_from integrities 0 qs) ps → All IsNamedPackage ps
    → AllByRecursion IsPackage ps
packages_kept p k integrities qs ps are order named =
    let up = recursion_from_All HasRisingPeers ps (All-permutation HasRisingPeers (packages_from integrities 0 qs) ps order (All-from_recursion HasRisingPeers (packages_from integrities 0 qs) (all_rise p k integrities 0 qs (tested (is_package p k) qs are)))) in
    both_weaker HasRisingPeers IsNamedPackage IsPackage ps
    (λ (q : LockPackage) r m. record {
      id = m.id;
      integrity = m.integrity;
      peers = recursion_from_All (λ (r : LockPeer). is_name r.name ≡ true) q.peers m.peers;
      optional = recursion_from_All (λ (n : List ℕ). is_name n ≡ true) q.optional_peers m.optional;
      peers_rise = r.peers;
      optional_rise = r.optional;
    }) up (recursion_from_All IsNamedPackage ps named)

-- ---- ids

ids_same : (integrities : List (List ℕ)) (n : ℕ) (qs : List Package) → ids_of (packages_from integrities n qs) ≡ map (λ (q : Package). q.id) qs
ids_same integrities n [] = refl
ids_same integrities n (q ∷ qs) = ap (λ (is : List (List ℕ)). q.id ∷ is) (ids_same integrities (suc n) qs)

ids_order : (integrities : List (List ℕ)) (qs : List Package) (ps : List LockPackage) → IsPermutation (packages_from integrities 0 qs) ps → IsPermutation (map (λ (q : Package). q.id) qs) (ids_of ps)
ids_order integrities qs ps order =
    subst (λ (l : List (List ℕ)). IsPermutation l (ids_of ps)) (ids_same integrities 0 qs) (IsPermutation-map (λ (p : LockPackage). p.id) (packages_from integrities 0 qs) ps order)

pub ids_rise : (integrities : List (List ℕ)) (qs : List Package) (ps : List LockPackage) → distinct (map (λ (q : Package). q.id) qs) ≡ true → IsPermutation (packages_from integrities 0 qs) ps
    → IsSorted (slice_cmp nat_cmp) (ids_of ps) → Rises (ids_of ps)
ids_rise integrities qs ps once order sorted =
    rise (ids_of ps) (IsDistinct-IsPermutation bytes_eq flips (map (λ (q : Package). q.id) qs) (ids_of ps) (ids_order integrities qs ps order) (are_distinct (map (λ (q : Package). q.id) qs) once)) sorted

id_in : (qs : List Package) (k : ℕ) → k < length qs → is_in (map (λ (q : Package). q.id) qs) (package_id (slice_get qs k)) ≡ true
id_in [] k low = absurd (omega (arith, low))
id_in (q ∷ qs) zero low = ap (λ o. o || is_in (map (λ (q : Package). q.id) qs) q.id) (itself q.id)
id_in (q ∷ qs) (suc k) low = ap (λ o. bytes_eq q.id (package_id (slice_get qs k)) || o) (id_in qs k (omega (arith, low))) ∙ or_true (bytes_eq q.id (package_id (slice_get qs k)))

pub id_locked : (integrities : List (List ℕ)) (qs : List Package) (ps : List LockPackage) → IsPermutation (packages_from integrities 0 qs) ps → (k : ℕ) → k < length qs
    → is_in (ids_of ps) (package_id (slice_get qs k)) ≡ true
id_locked integrities qs ps order k low =
    sym (list_any-IsPermutation (λ (i : List ℕ). bytes_eq i (package_id (slice_get qs k))) (map (λ (q : Package). q.id) qs) (ids_of ps) (ids_order integrities qs ps order)) ∙ id_in qs k low
