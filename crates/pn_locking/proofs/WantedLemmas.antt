-- Packages that are wanted.
use Rattle.std.proofs.Common.{◌≡◌, ℕ, List, [], ◌∷◌, map, nat_cmp, refl, sym, ap, subst, IsPermutation, IsSorted}
use Rattle.std.specs.Prelude.{bytes_eq}
use Rattle.std.specs.Cmp.Lexicographic.{slice_cmp}
use Rattle.std.specs.List.{All, IsDistinct}
use Rattle.std.specs.List.Sorted.{IsStrictlySortedBy}
use Rattle.std.proofs.lemmas.List.Elements.{All-from_recursion}
use Rattle.std.proofs.lemmas.Map.Keys.{IsDistinct-IsPermutation}
use Rattle.pn_lock.specs.declared.lists.LockPackage.{LockPackage}
use Rattle.pn_lock.specs.Kept.{Rises}
use Rattle.pn_lock.proofs.KeptLemmas.{all_any, all_map}
use Rattle.pn_graph.specs.declared.plain.Plain.{Plain}
use Rattle.pn_instances.proofs.SingleLemmas.{graph_parts}
use Rattle.pn_lock_make.specs.Singles.{package_ids}
use Rattle.pn_lock_make.proofs.OrderLemmas.{are_distinct, flips, rise}
use Rattle.pn_wanted.specs.declared.wanted.Wanted.{Wanted}
use Rattle.pn_wanted.specs.Wanted.{ids_of}
use Rattle.pn_locking.specs.Wants.{locked_in, wanted_of}

-- the ids of a graph, sorted
pub ids_rise : (p : Plain) (ids sorted : List (List ℕ)) → ids ≡ package_ids p.packages → IsPermutation ids sorted → IsSorted (slice_cmp nat_cmp) sorted → Rises sorted
ids_rise p ids sorted is order up =
    rise sorted (IsDistinct-IsPermutation bytes_eq flips ids sorted order
    (subst (IsDistinct bytes_eq) (sym is) (are_distinct (package_ids p.packages) (graph_parts p.root p.projects p.packages p.right).ids))) up

pub no_ids_rise : Rises []
unfolding IsStrictlySortedBy
no_ids_rise = tt

pub ids_same : (packages : List LockPackage) (ids : List (List ℕ)) → ids_of (map (wanted_of packages) ids) ≡ ids
ids_same packages [] = refl
ids_same packages (i ∷ ids) = ap (λ (ks : List (List ℕ)). i ∷ ks) (ids_same packages ids)

pub all_locked : (packages : List LockPackage) (ids : List (List ℕ)) → All (λ (w : Wanted). w.locked ≡ locked_in w.id packages) (map (wanted_of packages) ids)
all_locked packages ids =
    All-from_recursion (λ (w : Wanted). w.locked ≡ locked_in w.id packages) (map (wanted_of packages) ids)
    (all_map (λ (w : Wanted). w.locked ≡ locked_in w.id packages) (wanted_of packages) ids (all_any (λ (i : List ℕ). locked_in i packages ≡ locked_in i packages) (λ i. refl) ids))
