-- Bare packages in order of their ids, and their places.
use Rattle.std.proofs.Common.{◌≡◌, ◌<◌, ◌+◌, ℕ, List, [], ◌∷◌, Option, length, map, get_or, sym, ap, ◌∙◌, subst, arith, IsPermutation}
use Rattle.std.specs.Prelude.{IsSortedBy}
use Rattle.std.specs.List.{All, Contains}
use Rattle.std.specs.List.Sorted.{IsSorted}
use Rattle.std.specs.Cmp.Lexicographic.{slice_cmp}
use Rattle.std.specs.Ordering.{nat_cmp, is_lt}
use Rattle.std.proofs.lemmas.List.{get_or-map, length-map}
use Rattle.std.proofs.lemmas.List.Elements.{All-contains, All-contains_itself, All-map, All-weaker}
use Rattle.std.proofs.lemmas.List.Sorted.{All-permutation}
use Rattle.pn_fs.specs.Tree.{Tree}
use Rattle.pn_graph.specs.declared.links.Package.{Package as Node}
use Rattle.pn_graph.specs.declared.plain.Plain.{Plain}
use Rattle.pn_collect.specs.Outline.{bare_of, bare_id}
use Rattle.pn_collect.specs.Packages.{FoldersStand, AreShort, HasPlace}
use Rattle.pn_collect.specs.declared.bare.Bare.{Bare}

pub sorted_ids : (bs : List Bare) → IsSortedBy (λ (a b : Bare). is_lt (slice_cmp nat_cmp a.id b.id)) bs → IsSorted (slice_cmp nat_cmp) (map bare_id bs)
sorted_ids [] h = λ k d low high. absurd (omega arith)
sorted_ids (x ∷ bs) h = λ k d low high.
    let all = x ∷ bs in
    let below : k + 1 < length all = omega (arith, length-map all bare_id, high) in
    let first : k < length all = omega arith in
    let a : get_or (map bare_id all) k d ≡ bare_id (get_or all k x) = get_or-map bare_id all k x d first in
    let b : get_or (map bare_id all) (k + 1) d ≡ bare_id (get_or all (k + 1) x) = get_or-map bare_id all (k + 1) x d below in
    ap (λ (y : List ℕ). is_lt (slice_cmp nat_cmp y (get_or (map bare_id all) k d))) b ∙ ap (λ (y : List ℕ). is_lt (slice_cmp nat_cmp (bare_id (get_or all (k + 1) x)) y)) a ∙ h k x low below

-- the graph's packages have their places
pub have_places : (r : Option Tree) (plain : Plain) (bare : List Bare) → FoldersStand r plain → AreShort plain → IsPermutation (map (bare_of plain.packages) plain.packages) bare → All (λ (b : Bare). HasPlace r b.id) bare
have_places r plain bare stand short order =
    All-permutation (λ (b : Bare). HasPlace r b.id) (map (bare_of plain.packages) plain.packages) bare order
    (All-map (λ (b : Bare). HasPlace r b.id) (bare_of plain.packages) plain.packages
    (All-weaker (Contains plain.packages) (λ (q : Node). HasPlace r q.id) (λ q c. record { short = short q c; stands = λ t is. stand t is q c }) plain.packages (All-contains_itself plain.packages)))

pub place_at : (r now : Option Tree) (bare : List Bare) (k : ℕ) (b : Bare) → All (λ (b : Bare). HasPlace r b.id) bare → k < length bare → b ≡ get_or bare k b → now ≡ r → HasPlace now b.id
place_at r now bare k b all within is same = subst (λ (o : Option Tree). HasPlace o b.id) (sym same) (All-contains (λ (b : Bare). HasPlace r b.id) bare b all (k, within, sym is))
