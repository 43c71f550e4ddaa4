-- What a graph and its instances keep.
use Rattle.std.proofs.Common.{◌≡◌, ◌<◌, ◌^◌, ℕ, Bool, true, false, List, [], ◌∷◌, length, get_or, refl, sym, ap, ◌∙◌, subst}
use Rattle.std.specs.Prelude.{◌&&◌, ◌==◌, nat_lt}
use Rattle.std.specs.List.{All, AllByRecursion, list_all}
use Rattle.std.proofs.lemmas.Bool.{ltb-true}
use Rattle.std.proofs.lemmas.List.Elements.{All-from_recursion}
use Rattle.std.proofs.lemmas.Map.Views.{exact_unsigned_eq}
use Rattle.pn_text.proofs.Bools.{and_left, and_right}
use Rattle.pn_text.specs.Ids.{id_name}
use Rattle.pn_text.specs.declared.index.PkgIx.{PkgIx}
use Rattle.pn_graph.specs.declared.links.Dep.{Dep}
use Rattle.pn_graph.specs.declared.links.Package.{Package}
use Rattle.pn_graph.specs.declared.links.Project.{Project}
use Rattle.pn_graph.specs.declared.plain.Plain.{Plain}
use Rattle.pn_graph.specs.Graphs.{aliases, are_autos, are_deps, has_own_names, in_range, is_package, is_project, peer_names, rises}
use Rattle.pn_instances.proofs.SingleLemmas.{graph_parts}
use Rattle.pn_instances.specs.declared.goal.Goal.{Goal}
use Rattle.pn_instances.specs.declared.goal.Goal.TheVariants.{Project as to_project, Inst as to_inst}
use Rattle.pn_instances.specs.declared.links.Link.{Link}
use Rattle.pn_instances.specs.Instances.{are_instances, are_links, in_range as in_range', link_names}
use Rattle.pn_lock_make.specs.Targets.{AreRanked, IsRanked}
use Rattle.pn_lock_make.proofs.ListLemmas.{tested}

deps_there : (p k : ℕ) (deps : List Dep) → are_deps p k deps ≡ true → list_all (λ (d : Dep). in_range p k d.to) deps ≡ true
deps_there p k deps h = and_right (rises (aliases deps)) (list_all (λ (d : Dep). in_range p k d.to) deps) h

project_there : (p k : ℕ) (q : Project) → is_project p k q ≡ true → list_all (λ (d : Dep). in_range p k d.to) q.deps ≡ true
project_there p k q h = deps_there p k q.deps (and_left (are_deps p k q.deps) (are_autos k q.autos) h)

package_there : (p k : ℕ) (q : Package) → is_package p k q ≡ true → list_all (λ (d : Dep). in_range p k d.to) q.deps ≡ true
package_there p k q h =
    let deps = are_deps p k q.deps in
    let peers = rises (peer_names q.peers) in
    deps_there p k q.deps (and_left deps peers (and_left (deps && peers) (has_own_names (id_name q.id) (aliases q.deps) (peer_names q.peers)) h))

pub project_range : (g : Plain) (items : List Project) (n : ℕ) (q : Project) (deps : List Dep) → items ≡ g.projects → n < length items → q ≡ get_or items n q → deps ≡ q.deps
    → list_all (λ (d : Dep). in_range (length g.projects) (length g.packages) d.to) deps ≡ true
project_range g items n q deps same low is of =
    let p = length g.projects in
    let k = length g.packages in
    let good = All-from_recursion (λ (q : Project). is_project p k q ≡ true) g.projects (tested (is_project p k) g.projects (graph_parts g.root g.projects g.packages g.right).projects) in
    let here = subst (λ (l : List Project). All (λ (q : Project). is_project p k q ≡ true) l) (sym same) good in
    ap (list_all (λ (d : Dep). in_range p k d.to)) of ∙ project_there p k q (subst (λ (z : Project). is_project p k z ≡ true) (sym is) (here n q low))

pub package_range : (g : Plain) (items : List Package) (n : ℕ) (q : Package) (deps : List Dep) → items ≡ g.packages → n < length items → q ≡ get_or items n q → deps ≡ q.deps
    → list_all (λ (d : Dep). in_range (length g.projects) (length g.packages) d.to) deps ≡ true
package_range g items n q deps same low is of =
    let p = length g.projects in
    let k = length g.packages in
    let good = All-from_recursion (λ (q : Package). is_package p k q ≡ true) g.packages (tested (is_package p k) g.packages (graph_parts g.root g.projects g.packages g.right).packages) in
    let here = subst (λ (l : List Package). All (λ (q : Package). is_package p k q ≡ true) l) (sym same) good in
    ap (list_all (λ (d : Dep). in_range p k d.to)) of ∙ package_there p k q (subst (λ (z : Package). is_package p k z ≡ true) (sym is) (here n q low))

-- ---- instances

-- The parts of what instances keep.
pub record AreKept (ks : List PkgIx) (ls rs : List (List Link)) : Type 0 where
  pub few : length ks < 2 ^ 32
  pub few_roots : length rs < 2 ^ 32
  pub count : length ls ≡ length ks
  pub links : list_all (are_links (length rs) (length ks)) ls ≡ true
  pub roots : list_all (are_links (length rs) (length ks)) rs ≡ true

five : (a b c d e : Bool) → (a && b && c && d && e) ≡ true → (a ≡ true) × (b ≡ true) × (c ≡ true) × (d ≡ true) × (e ≡ true)
five true true true true true h = (refl, refl, refl, refl, refl)
five false b c d e h = (cc)
five true false c d e h = (cc)
five true true false d e h = (cc)
five true true true false e h = (cc)
five true true true true false h = (cc)

pub instances_kept : (ks : List PkgIx) (ls rs : List (List Link)) → are_instances ks ls rs ≡ true → AreKept ks ls rs
instances_kept ks ls rs h =
    let s = five (nat_lt (length ks) 4294967296) (nat_lt (length rs) 4294967296) (length ls == length ks) (list_all (are_links (length rs) (length ks)) ls) (list_all (are_links (length rs) (length ks)) rs) h in
    record {
      few = ltb-true (length ks) 4294967296 s.0;
      few_roots = ltb-true (length rs) 4294967296 s.1;
      count = exact_unsigned_eq (length ls) (length ks) s.2;
      links = s.3;
      roots = s.4;
    }

one_ranked : (p k : ℕ) (to : Goal) → in_range' p k to ≡ true → IsRanked k to
one_ranked p k (to_project q) h = tt
one_ranked p k (to_inst i) h = ltb-true i.0 k h

all_ranked : (p k : ℕ) (links : List Link) → list_all (λ (l : Link). in_range' p k l.to) links ≡ true → AllByRecursion (λ (l : Link). IsRanked k l.to) links
all_ranked p k [] h = tt
all_ranked p k (l ∷ ls) h =
    let rest = list_all (λ (l : Link). in_range' p k l.to) ls in
    (one_ranked p k l.to (and_left (in_range' p k l.to) rest h), all_ranked p k ls (and_right (in_range' p k l.to) rest h))

lists_ranked : (p k : ℕ) (lists : List (List Link)) → list_all (are_links p k) lists ≡ true → AllByRecursion (AreRanked k) lists
lists_ranked p k [] h = tt
lists_ranked p k (ls ∷ lists) h = (
  All-from_recursion (λ (l : Link). IsRanked k l.to) ls
      (all_ranked p k ls (and_right (rises (link_names ls)) (list_all (λ (l : Link). in_range' p k l.to) ls) (and_left (are_links p k ls) (list_all (are_links p k) lists) h))),
  lists_ranked p k lists (and_right (are_links p k ls) (list_all (are_links p k) lists) h),
)

pub ranked : (p k count : ℕ) (lists : List (List Link)) → list_all (are_links p k) lists ≡ true → count ≡ k → All (AreRanked count) lists
ranked p k count lists h same = subst (λ (n : ℕ). All (AreRanked n) lists) (sym same) (All-from_recursion (AreRanked k) lists (lists_ranked p k lists h))
