-- The shape of a walk's end is a plain graph.
use Rattle.std.proofs.Common.{◌≡◌, ◌<◌, ◌^◌, ℕ, suc, ◌+◌, List, [], ◌∷◌, ◌++◌, true, false, Option, Some, None, length, map, refl, sym, ap, ◌∙◌, subst, arith, inl, inr}
use Rattle.std.specs.Prelude.{◌||◌, not, nat_lt, slice_get}
use Rattle.std.specs.List.{All, Contains, list_all, AllByRecursion}
use Rattle.std.specs.List.Sorted.{IsStrictlySortedBy}
use Rattle.std.specs.Str.{bytes_eq}
use Rattle.std.specs.Cmp.Derive.{both_true}
use Rattle.std.specs.Cmp.Lexicographic.{slice_cmp}
use Rattle.std.specs.Ordering.{nat_cmp, is_lt}
use Rattle.std.specs.declared.cmp.Ordering.TheVariants.{Less}
use Rattle.std.proofs.lemmas.Slice.Eq.{bytes_eq-Decides}
use Rattle.std.proofs.lemmas.List.Elements.{All-head, All-tail}
use Rattle.pn_text.proofs.Members.{in_cons, here, there}
use Rattle.pn_text.specs.Ids.{id_name}
use Rattle.pn_text.specs.declared.index.ProjIx.{ProjIx}
use Rattle.pn_manifest.specs.Said.{AreRising, peer_names as said_names}
use Rattle.pn_graph.specs.Graphs.{rises, has_name, distinct, aliases, peer_names, in_range, are_deps, is_project, has_own_names, is_package, is_graph}
use Rattle.pn_graph.specs.declared.links.Dep.{Dep}
use Rattle.pn_graph.specs.declared.links.Package.{Package}
use Rattle.pn_graph.specs.declared.links.Project.{Project}
use Rattle.pn_walk.specs.declared.node.Node.{Node}
use Rattle.pn_walk.specs.declared.wish.Place.{Place}
use Rattle.pn_walk.specs.declared.wish.Place.TheVariants.{Project as at_project, Package as at_package}
use Rattle.pn_walk.specs.Walks.{Link, State}
use Rattle.pn_walk.specs.Graphs.{IsDistinct}
use Rattle.pn_shape.specs.Shapes.{at_of, dep_to, deps_in, links_by, deps_by, projects_from, IsPackageOf, ArePackagesFrom, all_met, next, IsShape}
use Rattle.pn_shape.specs.Fits.{IsPlace, IsEnd, IsBetween, alias_of, aliases_by, HasOwnNames, IsFit}
use Rattle.pn_shape.proofs.LinkLemmas.{all_by}
use Rattle.pn_shape.proofs.ShapeLemmas.{projects_long, folders_are, packages_long, ids_are, names_are}

below : (a b : ℕ) → a < b → nat_lt a b ≡ true
below a b h = grind arith

rising_rises : (xs : List (List ℕ)) → AreRising xs → rises xs ≡ true
unfolding IsStrictlySortedBy
rising_rises [] h = refl
rising_rises (x ∷ []) h = refl
rising_rises (x ∷ y ∷ ys) h = both_true (ap is_lt h.0.0) (rising_rises (y ∷ ys) h.1)

-- a name that isn't there isn't found
pub not_named : (n : List ℕ) (ns : List (List ℕ)) → (Contains ns n → ⊥) → has_name n ns ≡ false
not_named n [] out = refl
not_named n (m ∷ ms) out = elim (bytes_eq n m) as (λ b. bytes_eq n m ≡ b → (b || has_name n ms) ≡ false) [
  | true ↦ λ e. absurd (out (subst (λ (x : List ℕ). Contains (m ∷ ms) x) (sym ((bytes_eq-Decides n m).0 e)) (here m ms)))
  | false ↦ λ e. not_named n ms (λ c. out (there m ms n c))
] refl

once_distinct : (is : List (List ℕ)) → IsDistinct is → distinct is ≡ true
once_distinct [] h = refl
once_distinct (i ∷ is) h = both_true (ap not (not_named i is h.0)) (once_distinct is h.1)

-- what holds of the aliases of edges holds of those of dependencies
all_deps : (P : List ℕ → Type 0) (links : List Link) → AllByRecursion P (map alias_of links) → AllByRecursion P (aliases (deps_in links))
all_deps P [] h = tt
all_deps P (l ∷ ls) h = one l.to (all_deps P ls h.1) where
  one : (o : Option Place) → AllByRecursion P (aliases (deps_in ls)) → AllByRecursion P (aliases (dep_to l.turn o ++ deps_in ls))
  one None rest = rest
  one (Some p) rest = (h.0, rest)

rising_deps : (links : List Link) → AreRising (map alias_of links) → AreRising (aliases (deps_in links))
unfolding IsStrictlySortedBy
rising_deps [] h = tt
rising_deps (l ∷ ls) h = one l.to (all_deps (λ (y : List ℕ). slice_cmp nat_cmp l.turn.wish.alias y ≡ Less) ls h.0) (rising_deps ls h.1) where
  one : (o : Option Place) → AllByRecursion (λ (y : List ℕ). slice_cmp nat_cmp l.turn.wish.alias y ≡ Less) (aliases (deps_in ls)) → AreRising (aliases (deps_in ls)) → AreRising (aliases (dep_to l.turn o ++ deps_in ls))
  one None first rest = rest
  one (Some p) first rest = (first, rest)

place_in : (projects packages : ℕ) (p : Place) → IsPlace projects packages p → in_range projects packages (at_of p) ≡ true
place_in projects packages (at_project q) h = below q projects h
place_in projects packages (at_package k) h = below k packages h

deps_within : (projects packages : ℕ) (links : List Link) → All (IsBetween projects packages) links → list_all (λ (d : Dep). in_range projects packages d.to) (deps_in links) ≡ true
deps_within projects packages [] h = refl
deps_within projects packages (l ∷ ls) h = one l.to (All-head (IsBetween projects packages) l ls h).to (deps_within projects packages ls (All-tail (IsBetween projects packages) l ls h)) where
  one : (o : Option Place) → IsEnd projects packages o → list_all (λ (d : Dep). in_range projects packages d.to) (deps_in ls) ≡ true → list_all (λ (d : Dep). in_range projects packages d.to) (dep_to l.turn o ++ deps_in ls) ≡ true
  one None to rest = rest
  one (Some p) to rest = both_true (place_in projects packages p to) rest

-- what a node's dependencies have to be
AreDepsOf : ℕ → ℕ → List Link → Type 0
AreDepsOf projects packages links = (who : Place) → are_deps projects packages (deps_by who links) ≡ true

deps_fit : (projects packages : ℕ) (links : List Link) → All (IsBetween projects packages) links → ((who : Place) → AreRising (aliases_by who links)) → AreDepsOf projects packages links
unfolding AreDepsOf
deps_fit projects packages links between rising = λ who.
    both_true (rising_rises (aliases (deps_by who links)) (rising_deps (links_by who links) (rising who)))
    (deps_within projects packages (links_by who links) (all_by (IsBetween projects packages) who links between))

projects_fit : (projects packages : ℕ) (links : List Link) → AreDepsOf projects packages links → (q : ℕ) (folders : List (List ℕ)) → list_all (is_project projects packages) (projects_from q folders links) ≡ true
unfolding AreDepsOf
projects_fit projects packages links fit q [] = refl
projects_fit projects packages links fit q (f ∷ fs) = both_true (both_true (fit (at_project q)) refl) (projects_fit projects packages links fit (suc q) fs)

alias_there : (links : List Link) (n : List ℕ) → Contains (aliases (deps_in links)) n → Contains (map alias_of links) n
alias_there [] n c = c
alias_there (l ∷ ls) n c = one l.to (λ d. alias_there ls n d) c where
  one : (o : Option Place) → (Contains (aliases (deps_in ls)) n → Contains (map alias_of ls) n) → Contains (aliases (dep_to l.turn o ++ deps_in ls)) n → Contains (map alias_of (l ∷ ls)) n
  one None rest c = there (alias_of l) (map alias_of ls) n (rest c)
  one (Some p) rest c = elim (in_cons (alias_of l) (aliases (deps_in ls)) n c) [
    | inl e ↦ subst (λ (x : List ℕ). Contains (map alias_of (l ∷ ls)) x) e (here (alias_of l) (map alias_of ls))
    | inr i ↦ there (alias_of l) (map alias_of ls) n (rest i)
  ]

none_both : (peers deps : List (List ℕ)) → ((r : List ℕ) → Contains peers r → Contains deps r → ⊥) → list_all (λ r. not (has_name r deps)) peers ≡ true
none_both [] deps h = refl
none_both (r ∷ rs) deps h = both_true (ap not (not_named r deps (λ c. h r (here r rs) c))) (none_both rs deps (λ x c d. h x (there r rs x c) d))

own_names : (links : List Link) (k : ℕ) (n : Node) (p : Package) → IsPackageOf links k n p → HasOwnNames n (aliases_by (at_package k) links) → has_own_names (id_name p.id) (aliases p.deps) (peer_names p.peers) ≡ true
own_names links k n p is own =
    let names : peer_names p.peers ≡ said_names n.peers = names_are n.peers p.peers is.peers in
    let from : (r : List ℕ) → Contains (aliases p.deps) r → Contains (aliases_by (at_package k) links) r =
    λ r c. alias_there (links_by (at_package k) links) r (subst (λ (l : List Dep). Contains (aliases l) r) is.deps c) in
    let said : (r : List ℕ) → Contains (peer_names p.peers) r → Contains (said_names n.peers) r = λ r c. subst (λ (l : List (List ℕ)). Contains l r) names c in
    let name : id_name p.id ≡ id_name n.id = ap id_name is.id in
    both_true (both_true
    (ap not (not_named (id_name p.id) (aliases p.deps) (λ c. own.no_alias (subst (λ (x : List ℕ). Contains (aliases_by (at_package k) links) x) name (from (id_name p.id) c)))))
    (ap not (not_named (id_name p.id) (peer_names p.peers) (λ c. own.no_peer (subst (λ (x : List ℕ). Contains (said_names n.peers) x) name (said (id_name p.id) c))))))
    (none_both (peer_names p.peers) (aliases p.deps) (λ r c d. own.not_both r (said r c) (from r d)))

package_fits : (projects packages : ℕ) (links : List Link) (k : ℕ) (n : Node) (p : Package) → AreDepsOf projects packages links → IsPackageOf links k n p → HasOwnNames n (aliases_by (at_package k) links) → is_package projects packages p ≡ true
unfolding AreDepsOf
package_fits projects packages links k n p fit is own =
    both_true (both_true
    (subst (λ (l : List Dep). are_deps projects packages l ≡ true) (sym is.deps) (fit (at_package k)))
    (rising_rises (peer_names p.peers) (subst AreRising (sym (names_are n.peers p.peers is.peers)) own.rising)))
    (own_names links k n p is own)

packages_fit : (projects packages : ℕ) (links : List Link) → AreDepsOf projects packages links → (k : ℕ) (ns : List Node) (ps : List Package)
    → ((j : ℕ) (n : Node) → slice_get ns j ≡ Some n → HasOwnNames n (aliases_by (at_package (k + j)) links)) → ArePackagesFrom links k ns ps → list_all (is_package projects packages) ps ≡ true
packages_fit projects packages links fit _ _ _ own (all_met k) = refl
packages_fit projects packages links fit _ _ _ own (next k n ns p ps is rest) =
    let z : k + 0 ≡ k = omega arith in
    both_true (package_fits projects packages links k n p fit is (subst (λ (j : ℕ). HasOwnNames n (aliases_by (at_package j) links)) z (own 0 n refl)))
    (packages_fit projects packages links fit (suc k) ns ps (λ j m h. subst (λ (i : ℕ). HasOwnNames m (aliases_by (at_package i) links)) (later k j) (own (suc j) m h)) rest)
  where
    later : (k j : ℕ) → k + suc j ≡ suc k + j
    later k j = omega arith

-- A fit end of a walk is a plain graph.
pub graph_of_fit : (root : ProjIx) (folders : List (List ℕ)) (t : State) (ps : List Project) (ks : List Package) → IsFit folders t → length t.met < 2 ^ 32 → root.0 < length folders → IsShape folders t ps ks → is_graph root ps ks ≡ true
graph_of_fit root folders t ps ks fit few there shape =
    let is : ps ≡ projects_from 0 folders t.links = shape.projects_are in
    let projects : length ps ≡ length folders = ap length is ∙ projects_long 0 folders t.links in
    let packages : length ks ≡ length t.met = packages_long t.links 0 t.met ks shape.packages_are in
    let between : All (IsBetween (length ps) (length ks)) t.links = subst (λ (j : ℕ). All (IsBetween j (length ks)) t.links) (sym projects) (subst (λ (j : ℕ). All (IsBetween (length folders) j) t.links) (sym packages) fit.between) in
    let deps : AreDepsOf (length ps) (length ks) t.links = deps_fit (length ps) (length ks) t.links between fit.aliases in
    both_true (below root.0 (length ps) (subst (λ (j : ℕ). root.0 < j) (sym projects) there))
    (both_true (both_true (both_true (both_true (both_true
    (below (length ps) (2 ^ 32) (subst (λ (j : ℕ). j < 2 ^ 32) (sym projects) fit.few))
    (below (length ks) (2 ^ 32) (subst (λ (j : ℕ). j < 2 ^ 32) (sym packages) few)))
    (rising_rises (map (λ (p : Project). p.folder) ps) (subst AreRising (sym (ap (map (λ (p : Project). p.folder)) is ∙ folders_are 0 folders t.links)) fit.rising)))
    (once_distinct (map (λ (p : Package). p.id) ks) (subst IsDistinct (sym (ids_are t.links 0 t.met ks shape.packages_are)) fit.once)))
    (subst (λ (l : List Project). list_all (is_project (length ps) (length ks)) l ≡ true) (sym is) (projects_fit (length ps) (length ks) t.links deps 0 folders)))
    (packages_fit (length ps) (length ks) t.links deps 0 t.met ks (λ j n h. subst (λ (i : ℕ). HasOwnNames n (aliases_by (at_package i) t.links)) (from_zero j) (fit.own j n h)) shape.packages_are))
  where
    from_zero : (j : ℕ) → j ≡ 0 + j
    from_zero j = omega arith
