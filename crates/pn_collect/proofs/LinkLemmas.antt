-- The links of a graph's nodes.
use Rattle.std.proofs.Common.{◌≡◌, ◌<◌, ◌≤◌, ◌+◌, ℕ, List, [], ◌∷◌, ◌++◌, true, Less, nat_cmp, length, take, get_or, inl, inr, refl, sym, ap, ◌∙◌, subst, arith, append-nil}
use Rattle.std.specs.Prelude.{slice_get}
use Rattle.std.specs.Cmp.Lexicographic.{slice_cmp}
use Rattle.std.specs.List.{All, Contains, list_all}
use Rattle.std.specs.List.Sorted.{IsStrictlySortedBy}
use Rattle.std.specs.Ordering.{is_lt}
use Rattle.std.proofs.lemmas.Bool.{ltb-true}
use Rattle.std.proofs.lemmas.Cmp.{nat_list_cmp_total}
use Rattle.std.proofs.lemmas.Grind.{flat_map-append}
use Rattle.std.proofs.lemmas.List.{take_more, take_all}
use Rattle.std.proofs.lemmas.List.Elements.{All-append, All-contains, All-contains_itself, All-weaker, recursion_from_All}
use Rattle.std.proofs.lemmas.Option.{slice_get_cases}
use Rattle.pn_text.proofs.Bools.{and_left, and_right}
use Rattle.pn_text.proofs.Members.{from_map, to_map, in_cons, in_one, none_in}
use Rattle.pn_text.proofs.Orders.{is_less}
use Rattle.pn_graph.specs.Graphs.{aliases, rises, are_deps, in_range}
use Rattle.pn_graph.specs.declared.links.At.{At}
use Rattle.pn_graph.specs.declared.links.At.TheVariants.{Project as to_project, Package as to_package}
use Rattle.pn_graph.specs.declared.links.Dep.{Dep}
use Rattle.pn_graph.specs.declared.links.Package.{Package as Node}
use Rattle.pn_graph.specs.Lookups.{package_id as package_id_of}
use Rattle.pn_graph.proofs.RangeLemmas.{passes}
use Rattle.pn_package.specs.Links.{Pair, IsRising, aliases as names}
use Rattle.pn_package.specs.Sound.{IsSoundPair, AreSoundLinks}
use Rattle.pn_package.proofs.Contents.{from_flat_map}
use Rattle.pn_collect.specs.Outline.{link_to, links_of}

abbrev to_links : List Node → Dep → List Pair
to_links nodes d = link_to nodes d.alias d.to

-- the dependency of a link
alias_is : (nodes : List Node) (alias : List ℕ) (to : At) (l : Pair) → Contains (link_to nodes alias to) l → alias ≡ l.0
alias_is nodes alias (to_project q) l c = absurd (none_in l c)
alias_is nodes alias (to_package k) l c = ap (λ (x : Pair). x.0) (in_one (alias, package_id_of (slice_get nodes k.0)) l c)

pub dep_of : (nodes : List Node) (deps : List Dep) (l : Pair) → Contains (links_of nodes deps) l → (d : Dep) × Contains deps d × (d.alias ≡ l.0)
dep_of nodes deps l c = let from = from_flat_map (to_links nodes) deps l c in (from.0, from.1, alias_is nodes from.0.alias from.0.to l from.2)

-- a first name is below all others
first_below : (x : List ℕ) (xs : List (List ℕ)) → rises (x ∷ xs) ≡ true → (y : List ℕ) → Contains xs y → slice_cmp nat_cmp x y ≡ Less
first_below x [] h y c = absurd (none_in y c)
first_below x (z ∷ zs) h y c =
    let first : slice_cmp nat_cmp x z ≡ Less = is_less (slice_cmp nat_cmp x z) (and_left (is_lt (slice_cmp nat_cmp x z)) (rises (z ∷ zs)) h) in
    let rest : rises (z ∷ zs) ≡ true = and_right (is_lt (slice_cmp nat_cmp x z)) (rises (z ∷ zs)) h in
    elim (in_cons z zs y c) [
      | inl e ↦ subst (λ w. slice_cmp nat_cmp x w ≡ Less) e first
      | inr later ↦ nat_list_cmp_total.trans x z y first (first_below z zs rest y later)
    ]

rest_rises : (x : List ℕ) (xs : List (List ℕ)) → rises (x ∷ xs) ≡ true → rises xs ≡ true
rest_rises x [] h = refl
rest_rises x (z ∷ zs) h = and_right (is_lt (slice_cmp nat_cmp x z)) (rises (z ∷ zs)) h

-- an alias of a link is one of a dependency
name_of_dep : (nodes : List Node) (deps : List Dep) (x : List ℕ) → Contains (names (links_of nodes deps)) x → Contains (aliases deps) x
name_of_dep nodes deps x c =
    let l = from_map (λ (l : Pair). l.0) (links_of nodes deps) x c in
    let d = dep_of nodes deps l.0 l.1 in
    subst (Contains (aliases deps)) (d.2 ∙ l.2) (to_map (λ (d : Dep). d.alias) deps d.0 d.1)

-- one more link
more_rise : (nodes : List Node) (d : Dep) (ds : List Dep) (to : At) → rises (aliases (d ∷ ds)) ≡ true → IsRising (links_of nodes ds) → IsRising (link_to nodes d.alias to ++ links_of nodes ds)
unfolding IsStrictlySortedBy
more_rise nodes d ds (to_project q) h rest = rest
more_rise nodes d ds (to_package k) h rest = (
  recursion_from_All (λ y. slice_cmp nat_cmp d.alias y ≡ Less) (names (links_of nodes ds))
      (All-weaker (Contains (names (links_of nodes ds))) (λ y. slice_cmp nat_cmp d.alias y ≡ Less) (λ y c. first_below d.alias (aliases ds) h y (name_of_dep nodes ds y c)) (names (links_of nodes ds))
      (All-contains_itself (names (links_of nodes ds)))),
  rest,
)

-- where the aliases of dependencies rise, so do those of their links
pub links_rise : (nodes : List Node) (deps : List Dep) → rises (aliases deps) ≡ true → IsRising (links_of nodes deps)
unfolding IsStrictlySortedBy
links_rise nodes [] h = tt
links_rise nodes (d ∷ ds) h = more_rise nodes d ds d.to h (links_rise nodes ds (rest_rises d.alias (aliases ds) h))

pub deps_rise : (projects nodes : ℕ) (deps : List Dep) → are_deps projects nodes deps ≡ true → rises (aliases deps) ≡ true
deps_rise projects nodes deps h = and_left (rises (aliases deps)) (list_all (λ (d : Dep). in_range projects nodes d.to) deps) h

pub dep_ranged : (projects nodes : ℕ) (deps : List Dep) (d : Dep) → are_deps projects nodes deps ≡ true → Contains deps d → in_range projects nodes d.to ≡ true
dep_ranged projects nodes deps d h c = passes (λ (d : Dep). in_range projects nodes d.to) deps d (and_right (rises (aliases deps)) (list_all (λ (d : Dep). in_range projects nodes d.to) deps) h) c

-- what a link leads to is a package of the graph
node_at : (nodes : List Node) (k : ℕ) → k < length nodes → (q : Node) × Contains nodes q × (q.id ≡ package_id_of (slice_get nodes k))
node_at nodes k within = elim (slice_get_cases nodes k).1 [
  | inl a ↦ (a.0, (k, a.1, a.3), sym (ap package_id_of a.2))
  | inr b ↦ absurd (omega (arith, within, b.0))
]

to_led : (projects : ℕ) (nodes : List Node) (alias : List ℕ) (to : At) → in_range projects (length nodes) to ≡ true → (l : Pair) → Contains (link_to nodes alias to) l → (q : Node) × Contains nodes q × (q.id ≡ l.1)
to_led projects nodes alias (to_project q) h l c = absurd (none_in l c)
to_led projects nodes alias (to_package k) h l c =
    let at = node_at nodes k.0 (ltb-true k.0 (length nodes) h) in
    (at.0, at.1, at.2 ∙ ap (λ (x : Pair). x.1) (in_one (alias, package_id_of (slice_get nodes k.0)) l c))

pub led : (projects : ℕ) (nodes : List Node) (deps : List Dep) → are_deps projects (length nodes) deps ≡ true → (l : Pair) → Contains (links_of nodes deps) l → (q : Node) × Contains nodes q × (q.id ≡ l.1)
led projects nodes deps h l c =
    let from = from_flat_map (to_links nodes) deps l c in
    to_led projects nodes from.0.alias from.0.to (dep_ranged projects (length nodes) deps from.0 h from.1) l from.2

-- the links of one more dependency
taken_links : (nodes : List Node) (deps : List Dep) (k : ℕ) (d : Dep) → k < length deps → d ≡ get_or deps k d → links_of nodes (take (k + 1) deps) ≡ links_of nodes (take k deps) ++ to_links nodes d
taken_links nodes deps k d within is =
    ap (links_of nodes) (take_more deps k d within) ∙ flat_map-append (to_links nodes) (take k deps) (get_or deps k d ∷ []) ∙ ap (λ z. links_of nodes (take k deps) ++ z) (append-nil (to_links nodes (get_or deps k d)))
    ∙ ap (λ (e : Dep). links_of nodes (take k deps) ++ to_links nodes e) (sym is)

pub links_more : (nodes : List Node) (deps : List Dep) (k : ℕ) (d : Dep) (old new : List Pair) → k < length deps → d ≡ get_or deps k d → new ≡ old ++ to_links nodes d → old ≡ links_of nodes (take k deps) → new ≡ links_of nodes (take (k + 1) deps)
links_more nodes deps k d old new within is added same = added ∙ ap (λ z. z ++ to_links nodes d) same ∙ sym (taken_links nodes deps k d within is)

pub sound_more : (nodes : List Node) (deps : List Dep) (k : ℕ) (d : Dep) → k < length deps → d ≡ get_or deps k d → All IsSoundPair (links_of nodes (take k deps)) → All IsSoundPair (to_links nodes d) → All IsSoundPair (links_of nodes (take (k + 1) deps))
sound_more nodes deps k d within is h one = subst (All IsSoundPair) (sym (taken_links nodes deps k d within is)) (All-append IsSoundPair (links_of nodes (take k deps)) (to_links nodes d) h one)

pub sound_links : (nodes : List Node) (deps : List Dep) → rises (aliases deps) ≡ true → All IsSoundPair (links_of nodes deps) → AreSoundLinks (links_of nodes deps)
sound_links nodes deps rising h = record { rising = links_rise nodes deps rising; each = λ l c. All-contains IsSoundPair (links_of nodes deps) l h c }

-- the links of all dependencies
pub all_taken : (nodes : List Node) (deps : List Dep) (k : ℕ) → length deps ≤ k → links_of nodes (take k deps) ≡ links_of nodes deps
all_taken nodes deps k past = ap (links_of nodes) (take_all k deps past)
