-- What a graph keeps of its nodes.
use Rattle.std.proofs.Common.{◌≡◌, ◌≢◌, Option, Bool, true, false, length, map, inl, inr, refl, sym, ◌∙◌, subst}
use Rattle.std.specs.Prelude.{◌&&◌, not, nat_lt, slice_get}
use Rattle.std.specs.List.{Contains, list_all}
use Rattle.std.specs.Str.{bytes_eq}
use Rattle.std.proofs.lemmas.Option.{slice_get_cases}
use Rattle.std.proofs.lemmas.Slice.Eq.{bytes_eq-Decides}
use Rattle.pn_text.specs.Ids.{id_name}
use Rattle.pn_text.proofs.Bools.{and_left, and_right, not_true}
use Rattle.pn_text.proofs.Members.{to_map}
use Rattle.pn_graph.specs.Graphs.{aliases, peer_names, has_name, has_own_names, rises, distinct, are_deps, are_autos, is_project, is_package, are_nodes}
use Rattle.pn_graph.specs.declared.links.Dep.{Dep}
use Rattle.pn_graph.specs.declared.links.Project.{Project}
use Rattle.pn_graph.specs.declared.links.Package.{Package as Node}
use Rattle.pn_graph.specs.Lookups.{project_deps}
use Rattle.pn_graph.specs.declared.plain.Plain.{Plain}
use Rattle.pn_graph.proofs.FreeLemmas.{any_has}
use Rattle.pn_graph.proofs.RangeLemmas.{passes}

nodes_right : (plain : Plain) → are_nodes plain.projects plain.packages ≡ true
nodes_right plain = and_right (nat_lt plain.root.0 (length plain.projects)) (are_nodes plain.projects plain.packages) plain.right

abbrev few : Plain → Bool
few plain = nat_lt (length plain.projects) 4294967296 && nat_lt (length plain.packages) 4294967296 && rises (map (λ (p : Project). p.folder) plain.projects)

abbrev once : Plain → Bool
once plain = few plain && distinct (map (λ (q : Node). q.id) plain.packages)

abbrev projects_right : Plain → Bool
projects_right plain = list_all (is_project (length plain.projects) (length plain.packages)) plain.projects

abbrev packages_right : Plain → Bool
packages_right plain = list_all (is_package (length plain.projects) (length plain.packages)) plain.packages

-- no two packages have one id
pub ids_distinct : (plain : Plain) → distinct (map (λ (q : Node). q.id) plain.packages) ≡ true
ids_distinct plain =
    and_right (few plain) (distinct (map (λ (q : Node). q.id) plain.packages))
    (and_left (once plain) (projects_right plain) (and_left (once plain && projects_right plain) (packages_right plain) (nodes_right plain)))

is_node : (plain : Plain) (q : Node) → Contains plain.packages q → is_package (length plain.projects) (length plain.packages) q ≡ true
is_node plain q c =
    passes (is_package (length plain.projects) (length plain.packages)) plain.packages q (and_right (once plain && projects_right plain) (packages_right plain) (nodes_right plain)) c

-- a package's dependencies rise, and lead to nodes
pub node_deps : (plain : Plain) (q : Node) → Contains plain.packages q → are_deps (length plain.projects) (length plain.packages) q.deps ≡ true
node_deps plain q c =
    let own = has_own_names (id_name q.id) (aliases q.deps) (peer_names q.peers) in
    let deps = are_deps (length plain.projects) (length plain.packages) q.deps in
    and_left deps (rises (peer_names q.peers)) (and_left (deps && rises (peer_names q.peers)) own (is_node plain q c))

-- no alias of a package is its own name
pub own_alias : (plain : Plain) (q : Node) → Contains plain.packages q → (d : Dep) → Contains q.deps d → d.alias ≢ id_name q.id
own_alias plain q c d d_in e =
    let name = id_name q.id in
    let deps = are_deps (length plain.projects) (length plain.packages) q.deps in
    let own = has_own_names name (aliases q.deps) (peer_names q.peers) in
    let some_names = not (has_name name (aliases q.deps)) && not (has_name name (peer_names q.peers)) in
    let right : own ≡ true = and_right (deps && rises (peer_names q.peers)) own (is_node plain q c) in
    let first : some_names ≡ true = and_left some_names (list_all (λ r. not (has_name r (aliases q.deps))) (peer_names q.peers)) right in
    let none : has_name name (aliases q.deps) ≡ false = not_true (has_name name (aliases q.deps)) (and_left (not (has_name name (aliases q.deps))) (not (has_name name (peer_names q.peers))) first) in
    let some : has_name name (aliases q.deps) ≡ true = any_has (bytes_eq name) (aliases q.deps) d.alias ((bytes_eq-Decides name d.alias).1 (sym e)) (to_map (λ (d : Dep). d.alias) q.deps d d_in) in
    let no : true ≡ false = sym some ∙ none in cc

-- and so do a project's
pub project_right : (plain : Plain) (p : Project) → Contains plain.projects p → are_deps (length plain.projects) (length plain.packages) p.deps ≡ true
project_right plain p c =
    let all : projects_right plain ≡ true = and_right (once plain) (projects_right plain) (and_left (once plain && projects_right plain) (packages_right plain) (nodes_right plain)) in
    and_left (are_deps (length plain.projects) (length plain.packages) p.deps) (are_autos (length plain.packages) p.autos) (passes (is_project (length plain.projects) (length plain.packages)) plain.projects p all c)

pub root_deps : (plain : Plain) → are_deps (length plain.projects) (length plain.packages) (project_deps (slice_get plain.projects plain.root.0)) ≡ true
root_deps plain = elim (slice_get_cases plain.projects plain.root.0).1 [
  | inl a ↦ subst (λ (o : Option Project). are_deps (length plain.projects) (length plain.packages) (project_deps o) ≡ true) (sym a.2) (project_right plain a.0 (plain.root.0, a.1, a.3))
  | inr b ↦ subst (λ (o : Option Project). are_deps (length plain.projects) (length plain.packages) (project_deps o) ≡ true) (sym b.1) refl
]
