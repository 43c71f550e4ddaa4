-- The packages of a lock that was made.
use Rattle.std.proofs.Common.{◌≡◌, ◌<◌, ◌+◌, ℕ, suc, List, [], ◌∷◌, length, map, get_or, refl, sym, ap, ◌∙◌, subst, arith, Some, IsPermutation}
use Rattle.std.specs.Prelude.{unwrap_or}
use Rattle.std.specs.List.{AllByRecursion}
use Rattle.std.proofs.lemmas.List.{get_or-map, get_or_default, length-map, same_lists}
use Rattle.std.proofs.lemmas.List.Elements.{All-from_recursion, recursion_from_All}
use Rattle.std.proofs.lemmas.List.Sorted.{All-permutation, IsPermutation-map, length_permutation}
use Rattle.pn_lock.specs.declared.lists.LockPackage.{LockPackage}
use Rattle.pn_lock.specs.Kept.{IsLock, Rises}
use Rattle.pn_lock.specs.Locks.{Locked, ids_of, key_at, place_of}
use Rattle.pn_lock.proofs.KeptLemmas.{place_back}
use Rattle.pn_graph.specs.declared.links.Package.{Package}
use Rattle.pn_lock_make.specs.Packages.{packages_from}
use Rattle.pn_lock_make.specs.Singles.{package_ids}
use Rattle.pn_lock_make.specs.Targets.{rank}
use Rattle.pn_lock_make.proofs.OneOrder.{one_order}
use Rattle.pn_lock_make.proofs.OrderLemmas.{key_get}
use Rattle.pn_locking.specs.Integrities.{digest_at}

pub many : (qs : List Package) (ids : List (List ℕ)) → IsPermutation (package_ids qs) ids → length ids ≡ length qs
many qs ids order = length_permutation (package_ids qs) ids order ∙ length-map qs (λ (q : Package). q.id)

from_ids : (integrities : List (List ℕ)) (n : ℕ) (qs : List Package) → ids_of (packages_from integrities n qs) ≡ package_ids qs
from_ids integrities n [] = refl
from_ids integrities n (q ∷ qs) = ap (λ (ks : List (List ℕ)). q.id ∷ ks) (from_ids integrities (suc n) qs)

-- the ids are those that are wanted
pub ids_are : (integrities : List (List ℕ)) (qs : List Package) (ids : List (List ℕ)) (l : Locked) → IsLock l → IsPermutation (packages_from integrities 0 qs) l.packages → IsPermutation (package_ids qs) ids
    → Rises ids → ids_of l.packages ≡ ids
ids_are integrities qs ids l kept made order up =
    one_order (package_ids qs) (ids_of l.packages) ids
    (subst (λ (ks : List (List ℕ)). IsPermutation ks (ids_of l.packages)) (from_ids integrities 0 qs) (IsPermutation-map (λ (p : LockPackage). p.id) (packages_from integrities 0 qs) l.packages made))
    order kept.packages_rise up

-- each has the integrity of its id
made_at : (g : List ℕ → List ℕ) (integrities : List (List ℕ)) (n : ℕ) (qs : List Package) → ((k : ℕ) → get_or integrities (n + k) [] ≡ get_or (map g (package_ids qs)) k [])
    → AllByRecursion (λ (p : LockPackage). p.integrity ≡ g p.id) (packages_from integrities n qs)
made_at g integrities n [] h = tt
made_at g integrities n (q ∷ qs) h = (
  (let same : n ≡ n + 0 = omega arith in ap (λ (k : ℕ). get_or integrities k []) same ∙ h 0),
  made_at g integrities (suc n) qs (λ k. let same : suc n + k ≡ n + suc k = omega arith in ap (λ (j : ℕ). get_or integrities j []) same ∙ h (suc k)),
)

mapped : (g : List ℕ → List ℕ) (ps : List LockPackage) → AllByRecursion (λ (p : LockPackage). p.integrity ≡ g p.id) ps → map (λ (p : LockPackage). p.integrity) ps ≡ map g (ids_of ps)
mapped g [] h = refl
mapped g (p ∷ ps) h = ap (λ (x : List ℕ). x ∷ map (λ (p : LockPackage). p.integrity) ps) h.0 ∙ ap (λ (xs : List (List ℕ)). g p.id ∷ xs) (mapped g ps h.1)

ranked : (ids : List (List ℕ)) (k : ℕ) → Rises ids → k < length ids → rank ids (get_or ids k []) ≡ k
ranked ids k up low =
    let is : key_at ids k ≡ get_or ids k [] = key_get ids k in
    ap (λ o. unwrap_or o 0) (subst (λ (x : List ℕ). place_of x ids ≡ Some k) is (place_back ids k low up))

in_order : (ids digests : List (List ℕ)) → Rises ids → length digests ≡ length ids → map (digest_at ids digests) ids ≡ digests
in_order ids digests up count =
    let size = length-map ids (digest_at ids digests) in
    same_lists (map (digest_at ids digests) ids) digests (size ∙ sym count) (λ k d low.
    let here : k < length ids = omega (arith, size, low) in
    let there : k < length digests = omega (arith, here, count) in
    get_or-map (digest_at ids digests) ids k [] d here ∙ ap (λ (j : ℕ). get_or digests j []) (ranked ids k up here) ∙ get_or_default digests k [] d there)

-- the integrities are those of the listings
pub integrities_are : (qs : List Package) (ids digests : List (List ℕ)) (l : Locked) → IsLock l → IsPermutation (packages_from (map (digest_at ids digests) (package_ids qs)) 0 qs) l.packages
    → IsPermutation (package_ids qs) ids → Rises ids → length digests ≡ length ids → map (λ (p : LockPackage). p.integrity) l.packages ≡ digests
integrities_are qs ids digests l kept made order up count =
    let g = digest_at ids digests in
    let all = packages_from (map g (package_ids qs)) 0 qs in
    let first = made_at g (map g (package_ids qs)) 0 qs (λ k. let same : 0 + k ≡ k = omega arith in ap (λ (j : ℕ). get_or (map g (package_ids qs)) j []) same) in
    let each = recursion_from_All (λ (p : LockPackage). p.integrity ≡ g p.id) l.packages
    (All-permutation (λ (p : LockPackage). p.integrity ≡ g p.id) all l.packages made (All-from_recursion (λ (p : LockPackage). p.integrity ≡ g p.id) all first)) in
    mapped g l.packages each ∙ ap (map g) (ids_are (map g (package_ids qs)) qs ids l kept made order up) ∙ in_order ids digests up count
