-- The order of versions is total, and versions that tie are one.
use Rattle.std.proofs.Common.{◌≡◌, List, [], ◌∷◌, map, refl, sym, ◌∙◌, subst, Less, Equal, Greater, Bool}
use Rattle.std.specs.Prelude.{IsPermutation}
use Rattle.std.specs.Ordering.{nat_cmp, on, ordering_then, ordering_reverse, eq_by_cmp}
use Rattle.std.specs.declared.cmp.Ordering.{Ordering}
use Rattle.std.specs.Cmp.{IsTotalOrder, nat_cmp_total, on_total, then_total, Equal-is}
use Rattle.std.specs.Cmp.Lexicographic.{nat_list_cmp_total}
use Rattle.std.specs.FinMap.{nat_cmp-IsAntisymmetric, slice_cmp-IsAntisymmetric}
use Rattle.std.specs.List.{Contains, AllByRecursion, dedup}
use Rattle.std.specs.List.Sorted.{IsStrictlySortedBy, IsSorted}
use Rattle.std.proofs.lemmas.Cmp.{eq_by_cmp_equiv}
use Rattle.std.proofs.lemmas.List.Kept.{IsStrictlySortedBy-dedup, Any-dedup, Contains-from_dedup}
use Rattle.std.proofs.lemmas.List.Sorted.{Contains-permutation, IsPermutation-sym}
use Rattle.semver.specs.Parse.{Parts}
use Rattle.semver.specs.Identifiers.{parts_of}
use Rattle.semver.specs.OrderLaws.{pre_total, pre-anti}
use Rattle.semver.specs.declared.Version.{Version}
use Rattle.pn_text.proofs.Members.{from_map, to_map}
use Rattle.pn_published.specs.Versions.{precedence, version_cmp, same_version, IsRising, HasSame}

precedence_total : IsTotalOrder precedence
precedence_total = then_total (on_total (λ (v : Parts). v.0) nat_cmp_total) (then_total (on_total (λ (v : Parts). v.1) nat_cmp_total)
    (then_total (on_total (λ (v : Parts). v.2) nat_cmp_total) (on_total (λ (v : Parts). v.3) pre_total)))

pub version_total : IsTotalOrder version_cmp
version_total = then_total precedence_total (on_total (λ (v : Parts). v.4) nat_list_cmp_total)

then_first : (r s : Ordering) → ordering_then r s ≡ Equal → r ≡ Equal
then_first Less s e = cc e
then_first Equal s e = refl
then_first Greater s e = cc e

then_second : (r s : Ordering) → ordering_then r s ≡ Equal → s ≡ Equal
then_second Less s e = cc e
then_second Equal s e = e
then_second Greater s e = cc e

pub version_anti : (a b : Parts) → version_cmp a b ≡ Equal → a ≡ b
version_anti a b e =
    let p : precedence a b ≡ Equal = then_first (precedence a b) _ e in
    let e4 : a.4 ≡ b.4 = slice_cmp-IsAntisymmetric nat_cmp-IsAntisymmetric a.4 b.4 (then_second (precedence a b) _ e) in
    let e0 : a.0 ≡ b.0 = nat_cmp-IsAntisymmetric a.0 b.0 (then_first (nat_cmp a.0 b.0) _ p) in
    let p1 = then_second (nat_cmp a.0 b.0) _ p in
    let e1 : a.1 ≡ b.1 = nat_cmp-IsAntisymmetric a.1 b.1 (then_first (nat_cmp a.1 b.1) _ p1) in
    let p2 = then_second (nat_cmp a.1 b.1) _ p1 in
    let e2 : a.2 ≡ b.2 = nat_cmp-IsAntisymmetric a.2 b.2 (then_first (nat_cmp a.2 b.2) _ p2) in
    let e3 : a.3 ≡ b.3 = pre-anti a.3 b.3 (then_second (nat_cmp a.2 b.2) _ p2) in
    λ i. (e0 i, e1 i, e2 i, e3 i, e4 i)

not_both : (r s : Ordering) → r ≡ ordering_reverse s → r ≡ Less → s ≡ Less → ⊥
not_both Less Less e f g = cc e
not_both Less Equal e f g = cc g
not_both Less Greater e f g = cc g
not_both Equal s e f g = cc f
not_both Greater s e f g = cc f

pub version_asym : (a b : Parts) → version_cmp a b ≡ Less → version_cmp b a ≡ Less → ⊥
version_asym a b f g = not_both (version_cmp a b) (version_cmp b a) (version_total.antisymm a b) f g

pub by_parts : Version → Version → Ordering
by_parts = on parts_of version_cmp

pub by_parts_total : IsTotalOrder (on parts_of version_cmp)
by_parts_total = on_total parts_of version_total

same_parts : Version → Version → Bool
same_parts a b = same_version (parts_of a) (parts_of b)

below_all : (x : Parts) (vs : List Version) → AllByRecursion (λ v. version_cmp x (parts_of v) ≡ Less) vs → AllByRecursion (λ y. version_cmp x y ≡ Less) (map parts_of vs)
below_all x [] h = tt
below_all x (v ∷ vs) h = (h.0, below_all x vs h.1)

rising_parts : (vs : List Version) → IsStrictlySortedBy (on parts_of version_cmp) vs → IsRising (map parts_of vs)
unfolding IsStrictlySortedBy
rising_parts [] h = tt
rising_parts (v ∷ vs) h = (below_all (parts_of v) vs h.0, rising_parts vs h.1)

pub rising_once : (vs : List Version) → IsSorted (on parts_of version_cmp) vs → IsRising (map parts_of (dedup (eq_by_cmp (on parts_of version_cmp)) vs))
rising_once vs h = rising_parts _ (IsStrictlySortedBy-dedup by_parts_total (λ x y. refl) vs h)

-- sorting and leaving out repeated versions keeps each version
pub keeps_each : (found sorted : List Version) → IsPermutation found sorted → HasSame (map parts_of found) (map parts_of (dedup (eq_by_cmp (on parts_of version_cmp)) sorted))
keeps_each found sorted p =
    let E = eq_by_cmp (on parts_of version_cmp) in
    let kept = dedup E sorted in
    record {
      from = λ v h.
          let r = from_map parts_of kept v h in
          subst (λ z. Contains (map parts_of found) z) r.2
          (to_map parts_of found r.0 (Contains-permutation sorted found r.0 (IsPermutation-sym found sorted p) (Contains-from_dedup E sorted r.0 r.1)));
      to = λ v h.
          let r = from_map parts_of found v h in
          let k = Any-dedup (eq_by_cmp_equiv by_parts_total) sorted r.0 (Contains-permutation found sorted r.0 p r.1) in
          let same : parts_of r.0 ≡ parts_of k.1 = version_anti (parts_of r.0) (parts_of k.1) ((Equal-is (version_cmp (parts_of r.0) (parts_of k.1))).0 k.4) in
          subst (λ z. Contains (map parts_of kept) z) (sym same ∙ r.2) (to_map parts_of kept k.1 (k.0, k.2, k.3));
    }
