-- Dependencies of a plain graph are in range.
use Rattle.std.proofs.Common.{◌≡◌, ℕ, Bool, true, List, length, subst, refl, map, Option, Some, None}
use Rattle.std.specs.Prelude.{◌&&◌, nat_lt, slice_get}
use Rattle.std.specs.List.{Contains, list_all}
use Rattle.std.proofs.lemmas.Bool.{ltb-true}
use Rattle.std.proofs.lemmas.List.Sums.{AllPass-from_list_all}
use Rattle.std.proofs.lemmas.List.Elements.{All-contains, Contains-get_or}
use Rattle.std.proofs.lemmas.Option.{slice_get_within, get_or_from_slice_get}
use Rattle.pn_text.specs.declared.index.ProjIx.{ProjIx}
use Rattle.pn_text.specs.Ids.{id_name}
use Rattle.pn_text.proofs.Bools.{and_left, and_right}
use Rattle.pn_text.proofs.Members.{none_in}
use Rattle.pn_graph.specs.Graphs.{At, Dep, Project, Package, in_range, are_deps, is_package, is_graph, is_project, are_nodes, rises, distinct, aliases, peer_names, has_own_names}
use Rattle.pn_graph.specs.Lookups.{package_deps}
use Rattle.pn_graph.specs.Founds.{AreWithin}

-- a member of a list of which all pass
pub passes : {X : Type 0} (p : X → Bool) (xs : List X) (x : X) → list_all p xs ≡ true → Contains xs x → p x ≡ true
passes p xs x h c = All-contains (λ y. p y ≡ true) xs x (AllPass-from_list_all p xs h) c

dep_within : (projects packages : ℕ) (deps : List Dep) → are_deps projects packages deps ≡ true → AreWithin packages deps
dep_within projects packages deps h k l =
    let right = and_right (rises (aliases deps)) (list_all (λ (d : Dep). in_range projects packages d.to) deps) h in
    let ranged : in_range projects packages l.dep.to ≡ true = passes (λ (d : Dep). in_range projects packages d.to) deps l.dep right l.has in
    ltb-true k packages (subst (λ (to : At). in_range projects packages to ≡ true) l.to ranged)

package_within : (projects packages : ℕ) (p : Package) → is_package projects packages p ≡ true → AreWithin packages p.deps
package_within projects packages p h =
    let rest = has_own_names (id_name p.id) (aliases p.deps) (peer_names p.peers) in
    dep_within projects packages p.deps (and_left (are_deps projects packages p.deps) (rises (peer_names p.peers)) (and_left (are_deps projects packages p.deps && rises (peer_names p.peers)) rest h))

found_within : (projects : ℕ) (packages : List Package) (i : ℕ) (found : Option Package) → list_all (is_package projects (length packages)) packages ≡ true → slice_get packages i ≡ found → AreWithin (length packages) (package_deps found)
found_within projects packages i None h e = λ k l. absurd (none_in l.dep l.has)
found_within projects packages i (Some p) h e =
    let there : Contains packages p = subst (λ (q : Package). Contains packages q) (get_or_from_slice_get packages i p p e) (Contains-get_or packages i p (slice_get_within packages i p e)) in
    package_within projects (length packages) p (passes (is_package projects (length packages)) packages p h there)

abbrev has_nodes : List Project → List Package → Bool
has_nodes projects packages =
    nat_lt (length projects) 4294967296 && nat_lt (length packages) 4294967296
    && rises (map (λ (p : Project). p.folder) projects) && distinct (map (λ (p : Package). p.id) packages)
    && list_all (is_project (length projects) (length packages)) projects

pub graph_within : (root : ProjIx) (projects : List Project) (packages : List Package) → is_graph root projects packages ≡ true → (i : ℕ) → AreWithin (length packages) (package_deps (slice_get packages i))
graph_within root projects packages h i =
    let nodes = and_right (nat_lt root.0 (length projects)) (are_nodes projects packages) h in
    found_within (length projects) packages i (slice_get packages i) (and_right (has_nodes projects packages) (list_all (is_package (length projects) (length packages)) packages) nodes) refl
