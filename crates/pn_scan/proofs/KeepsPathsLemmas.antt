-- Entries in byte order, each path once.
use Rattle.std.proofs.Common.{◌≡◌, ℕ, List, [], ◌∷◌, map, refl, sym, ap, ◌∙◌, subst, Less, nat_cmp}
use Rattle.std.specs.Prelude.{IsPermutation}
use Rattle.std.specs.Cmp.{on_total}
use Rattle.std.specs.Cmp.Lexicographic.{slice_cmp, nat_list_cmp_total}
use Rattle.std.specs.FinMap.{nat_cmp-IsAntisymmetric, slice_cmp-IsAntisymmetric}
use Rattle.std.specs.List.{Contains, AllByRecursion, dedup}
use Rattle.std.specs.List.Sorted.{IsStrictlySortedBy, IsSorted}
use Rattle.std.specs.Ordering.{on, eq_by_cmp}
use Rattle.std.proofs.lemmas.Cmp.{eq_by_cmp_equiv}
use Rattle.std.proofs.lemmas.List.Kept.{IsStrictlySortedBy-dedup, Any-dedup, Contains-from_dedup}
use Rattle.std.proofs.lemmas.List.Sorted.{Contains-permutation, IsPermutation-sym}
use Rattle.pn_text.specs.Path.{Path, path_text}
use Rattle.pn_text.proofs.Orders.{is_equal}
use Rattle.pn_scan.specs.Scans.{Found, IsRising}
use Rattle.pn_scan.specs.Turns.{KeepsPaths}

below_all : (x : List ℕ) (es : List Found) → AllByRecursion (λ (e : Found). slice_cmp nat_cmp x (path_text e.0) ≡ Less) es → AllByRecursion (λ y. slice_cmp nat_cmp x y ≡ Less) (map (λ (e : Found). path_text e.0) es)
below_all x [] h = tt
below_all x (e ∷ es) h = (h.0, below_all x es h.1)

rising_texts : (es : List Found) → IsStrictlySortedBy (on (λ (e : Found). path_text e.0) (slice_cmp nat_cmp)) es → IsRising es
unfolding IsStrictlySortedBy
rising_texts [] h = tt
rising_texts (e ∷ es) h = (below_all (path_text e.0) es h.0, rising_texts es h.1)

pub rising_once : (es : List Found) → IsSorted (on (λ (e : Found). path_text e.0) (slice_cmp nat_cmp)) es → IsRising (dedup (eq_by_cmp (on (λ (e : Found). path_text e.0) (slice_cmp nat_cmp))) es)
rising_once es h = rising_texts _ (IsStrictlySortedBy-dedup (on_total (λ (e : Found). path_text e.0) nat_list_cmp_total) (λ x y. refl) es h)

-- sorting and leaving out repeated paths keeps each path
pub keeps_paths : (found sorted : List Found) → IsPermutation found sorted → KeepsPaths found (dedup (eq_by_cmp (on (λ (e : Found). path_text e.0) (slice_cmp nat_cmp))) sorted)
keeps_paths found sorted p =
    let E = eq_by_cmp (on (λ (e : Found). path_text e.0) (slice_cmp nat_cmp)) in
    record {
      from = λ e h. Contains-permutation sorted found e (IsPermutation-sym found sorted p) (Contains-from_dedup E sorted e h);
      paths = λ e h.
          let f = Any-dedup (eq_by_cmp_equiv (on_total (λ (e : Found). path_text e.0) nat_list_cmp_total)) sorted e (Contains-permutation found sorted e p h) in
          (f.1, (f.0, f.2, f.3), sym (slice_cmp-IsAntisymmetric nat_cmp-IsAntisymmetric (path_text e.0) (path_text f.1.0) (is_equal _ f.4)));
    }
