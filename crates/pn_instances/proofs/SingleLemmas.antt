-- Instances of a graph without peers keep what instances keep.
use Rattle.std.proofs.Common.{◌≡◌, ℕ, zero, suc, ◌+◌, Bool, true, false, List, [], ◌∷◌, ◌++◌, length, map, refl, sym, ap, ◌∙◌, arith, length-append, eq-eqb}
use Rattle.std.specs.Prelude.{◌&&◌, nat_lt}
use Rattle.std.specs.List.{list_all}
use Rattle.std.proofs.lemmas.List.{length-map}
use Rattle.pn_text.specs.declared.index.ProjIx.{ProjIx}
use Rattle.pn_text.specs.declared.index.PkgIx.{PkgIx}
use Rattle.pn_text.specs.Ids.{id_name}
use Rattle.std.specs.Cmp.Derive.{both_true}
use Rattle.pn_text.proofs.Bools.{and_left, and_right}
use Rattle.pn_graph.specs.declared.links.At.{At}
use Rattle.pn_graph.specs.declared.links.At.TheVariants.{Project as at_project, Package as at_package}
use Rattle.pn_graph.specs.declared.links.Dep.{Dep}
use Rattle.pn_graph.specs.declared.links.Package.{Package}
use Rattle.pn_graph.specs.declared.links.Project.{Project}
use Rattle.pn_graph.specs.Graphs.{rises, distinct, aliases, peer_names, in_range as at_in_range, are_deps, are_autos, are_nodes, is_graph, is_package, is_project, has_own_names}
use Rattle.pn_instances.specs.declared.links.Link.{Link}
use Rattle.pn_instances.specs.Instances.{link_names, in_range, are_links, are_instances}
use Rattle.pn_instances.specs.Singles.{places, goal_of, links_of, package_links, project_links}

pub length-places : (n : ℕ) → length (places n) ≡ n
length-places zero = refl
length-places (suc n) =
    let e : length (places n) ≡ n = length-places n in
    let p : PkgIx = record { 0 = n } in
    let f : length (places n ++ p ∷ []) ≡ length (places n) + 1 = length-append (places n) (p ∷ []) in
    omega arith

pub names_of : (deps : List Dep) → link_names (links_of deps) ≡ aliases deps
names_of [] = refl
names_of (d ∷ ds) = ap (λ (ns : List (List ℕ)). d.alias ∷ ns) (names_of ds)

goal_in : (p k : ℕ) (at : At) → in_range p k (goal_of at) ≡ at_in_range p k at
goal_in p k (at_project q) = refl
goal_in p k (at_package j) = refl

targets_in : (p k : ℕ) (deps : List Dep) → list_all (λ (l : Link). in_range p k l.to) (links_of deps) ≡ list_all (λ (d : Dep). at_in_range p k d.to) deps
targets_in p k [] = refl
targets_in p k (d ∷ ds) =
    ap (λ (b : Bool). b && list_all (λ (l : Link). in_range p k l.to) (links_of ds)) (goal_in p k d.to)
    ∙ ap (λ (b : Bool). at_in_range p k d.to && b) (targets_in p k ds)

links_are : (p k : ℕ) (deps : List Dep) → are_deps p k deps ≡ true → are_links p k (links_of deps) ≡ true
links_are p k deps h =
    let rise = rises (aliases deps) in
    let within = list_all (λ (d : Dep). at_in_range p k d.to) deps in
    both_true (ap rises (names_of deps) ∙ and_left rise within h) (targets_in p k deps ∙ and_right rise within h)

package_are : (p k : ℕ) (q : Package) → is_package p k q ≡ true → are_links p k (package_links q) ≡ true
package_are p k q h =
    let deps = are_deps p k q.deps in
    let peers = rises (peer_names q.peers) in
    let own = has_own_names (id_name q.id) (aliases q.deps) (peer_names q.peers) in
    links_are p k q.deps (and_left deps peers (and_left (deps && peers) own h))

project_are : (p k : ℕ) (q : Project) → is_project p k q ≡ true → are_links p k (project_links q) ≡ true
project_are p k q h = links_are p k q.deps (and_left (are_deps p k q.deps) (are_autos k q.autos) h)

all_mapped : {X Y : Type 0} (f : X → Y) (p : X → Bool) (q : Y → Bool) → ((x : X) → p x ≡ true → q (f x) ≡ true) → (xs : List X) → list_all p xs ≡ true → list_all q (map f xs) ≡ true
all_mapped f p q g [] h = refl
all_mapped f p q g (x ∷ xs) h = both_true (g x (and_left (p x) (list_all p xs) h)) (all_mapped f p q g xs (and_right (p x) (list_all p xs) h))

-- The parts of what a graph keeps.
pub record Parts (ps : List Project) (ks : List Package) : Type 0 where
  pub few_projects : nat_lt (length ps) 4294967296 ≡ true
  pub few_packages : nat_lt (length ks) 4294967296 ≡ true
  pub folders : rises (map (λ (p : Project). p.folder) ps) ≡ true
  pub ids : distinct (map (λ (p : Package). p.id) ks) ≡ true
  pub projects : list_all (is_project (length ps) (length ks)) ps ≡ true
  pub packages : list_all (is_package (length ps) (length ks)) ks ≡ true

parts_six : (a b c d e f : Bool) → (a && b && c && d && e && f) ≡ true → (a ≡ true) × (b ≡ true) × (c ≡ true) × (d ≡ true) × (e ≡ true) × (f ≡ true)
parts_six true true true true true true h = (refl, refl, refl, refl, refl, refl)
parts_six false b c d e f h = (cc)
parts_six true false c d e f h = (cc)
parts_six true true false d e f h = (cc)
parts_six true true true false e f h = (cc)
parts_six true true true true false f h = (cc)
parts_six true true true true true false h = (cc)

pub graph_parts : (root : ProjIx) (projects : List Project) (packages : List Package) → is_graph root projects packages ≡ true → Parts projects packages
graph_parts root ps ks h =
    let s = parts_six (nat_lt (length ps) 4294967296) (nat_lt (length ks) 4294967296) (rises (map (λ (p : Project). p.folder) ps)) (distinct (map (λ (p : Package). p.id) ks))
    (list_all (is_project (length ps) (length ks)) ps) (list_all (is_package (length ps) (length ks)) ks) (and_right (nat_lt root.0 (length ps)) (are_nodes ps ks) h) in
    record { few_projects = s.0; few_packages = s.1; folders = s.2; ids = s.3; projects = s.4; packages = s.5 }

pub instances_of : (ls rs : List (List Link)) (ks : List PkgIx) → nat_lt (length ks) 4294967296 ≡ true → nat_lt (length rs) 4294967296 ≡ true → length ls ≡ length ks
    → list_all (are_links (length rs) (length ks)) ls ≡ true → list_all (are_links (length rs) (length ks)) rs ≡ true → are_instances ks ls rs ≡ true
instances_of ls rs ks a b c d e = both_true (both_true (both_true (both_true a b) (eq-eqb (length ls) (length ks) c)) d) e

pub singles_are : (root : ProjIx) (projects : List Project) (packages : List Package) → is_graph root projects packages ≡ true
    → are_instances (places (length packages)) (map package_links packages) (map project_links projects) ≡ true
singles_are root projects packages h =
    let s = graph_parts root projects packages h in
    let k : length (places (length packages)) ≡ length packages = length-places (length packages) in
    let p : length (map project_links projects) ≡ length projects = length-map projects project_links in
    instances_of (map package_links packages) (map project_links projects) (places (length packages))
    (ap (λ n. nat_lt n 4294967296) k ∙ s.few_packages) (ap (λ n. nat_lt n 4294967296) p ∙ s.few_projects)
    (length-map packages package_links ∙ sym k)
    (ap (λ n. list_all (are_links n (length (places (length packages)))) (map package_links packages)) p
    ∙ ap (λ n. list_all (are_links (length projects) n) (map package_links packages)) k
    ∙ all_mapped package_links (is_package (length projects) (length packages)) (are_links (length projects) (length packages)) (package_are (length projects) (length packages)) packages s.packages)
    (ap (λ n. list_all (are_links n (length (places (length packages)))) (map project_links projects)) p
    ∙ ap (λ n. list_all (are_links (length projects) n) (map project_links projects)) k
    ∙ all_mapped project_links (is_project (length projects) (length packages)) (are_links (length projects) (length packages)) (project_are (length projects) (length packages)) projects s.projects)

pub same_instances : (root : ProjIx) (projects : List Project) (packages : List Package) → is_graph root projects packages ≡ true → (ks : List PkgIx) (ls rs : List (List Link))
    → ks ≡ places (length packages) → ls ≡ map package_links packages → rs ≡ map project_links projects → are_instances ks ls rs ≡ true
same_instances root projects packages h ks ls rs k l r =
    ap (λ (x : List PkgIx). are_instances x ls rs) k
    ∙ ap (λ (x : List (List Link)). are_instances (places (length packages)) x rs) l
    ∙ ap (λ (x : List (List Link)). are_instances (places (length packages)) (map package_links packages) x) r
    ∙ singles_are root projects packages h
