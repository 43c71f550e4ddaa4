-- What the folders of an installed project find.
use Rattle.std.proofs.Common.{◌≡◌, List, [], ◌++◌, codes, refl, sym, ap, ◌∙◌, subst, Option, Some, None, map}
use Rattle.std.specs.Prelude.{slice_get}
use Rattle.std.specs.List.{Contains}
use Rattle.std.proofs.lemmas.List.Sorted.{Contains-permutation}
use Rattle.pn_text.specs.Path.{Path}
use Rattle.pn_text.specs.Ids.{id_name}
use Rattle.pn_text.specs.Name.{name_path}
use Rattle.pn_text.proofs.Members.{from_map, to_map}
use Rattle.pn_fs.specs.Tree.{folder, Tree, IsTree}
use Rattle.pn_node.specs.Find.{find}
use Rattle.pn_manifest.specs.Said.{Said}
use Rattle.pn_walk.specs.Wants.{Id}
use Rattle.pn_walk.specs.declared.node.Node.{Node}
use Rattle.pn_walk.specs.declared.wish.Aim.{Aim}
use Rattle.pn_walk.specs.declared.wish.Aim.TheVariants.{Package as to_package}
use Rattle.pn_walk.specs.declared.wish.Place.TheVariants.{Project as at_project}
use Rattle.pn_walk.specs.declared.wish.Wish.{Wish}
use Rattle.pn_text.specs.declared.index.ProjIx.{ProjIx}
use Rattle.pn_graph.specs.Lookups.{project_deps}
use Rattle.pn_graph.specs.declared.links.Package.{Package as Found}
use Rattle.pn_graph.specs.declared.links.Project.{Project}
use Rattle.pn_graph.specs.declared.plain.Plain.{Plain}
use Rattle.pn_choice.specs.Graphs.{IsGraphOf}
use Rattle.pn_shape.specs.Shapes.{deps_by}
use Rattle.pn_shape.specs.Words.{AreLinks, HasNode}
use Rattle.pn_choice.specs.Words.{HasWords}
use Rattle.pn_choice.proofs.WordsLemmas.{words}
use Rattle.pn_package.specs.Links.{Pair}
use Rattle.pn_package.specs.declared.packages.Package.{Package}
use Rattle.pn_digest.specs.Listing.{Entry}
use Rattle.pn_layout.specs.Laws.{FindsAll, FindsOwn, IsInstalled}
use Rattle.pn_layout.specs.Listed.{AreOfPackages}
use Rattle.pn_package.specs.Sound.{IsSoundPackage}
use Rattle.pn_layout.specs.Store.{home_of}
use Rattle.pn_layout.proofs.FindingLemmas.{finds}
use Rattle.pn_collect.specs.Outline.{Outline, outline, wanted, links_of, direct_of}
use Rattle.pn_collect.specs.Packages.{ArePackages}
use Rattle.pn_cmd.specs.Names.{modules_path}
use Rattle.pn_cmd.specs.Graph.{inputs_of, root}
use Rattle.pn_cmd.specs.Lookup.{LooksUp, FindsFrom, package_home, leads}
use Rattle.pn_cmd.proofs.LinkLemmas.{link_in, link_from}

-- a package of the graph, as it is installed
record IsOne (plain : Plain) (q : Found) (packages : List Package) : Type 0 where
  pub found : Package
  pub here : Contains packages found
  pub same : found.id ≡ q.id
  pub links : found.links ≡ links_of plain.packages q.deps

one_of : (r : Tree) (plain : Plain) (q : Found) (packages : List Package) → ArePackages (Some r) plain packages → Contains plain.packages q → IsOne plain q packages
one_of r plain q packages are has =
    let p = from_map outline packages (wanted plain.packages q) (Contains-permutation (map (wanted plain.packages) plain.packages) (map outline packages) (wanted plain.packages q) are.exact (to_map (wanted plain.packages) plain.packages q has)) in
    record {
      found = p.0;
      here = p.1;
      same = ap (λ (o : Outline). o.id) p.2;
      links = ap (λ (o : Outline). o.links) p.2;
    }

no_aim : {C : Type 0} (i : Id) → Some (to_package i) ≡ None → C
no_aim i h = cc h

-- what a package finds, said of what its wishes lead to
own_is : (r u : Tree) (place : Path) (m : Said) (plain : Plain) (q : Found) (n : Node) (p : Package) (from : Path) → ((w : Wish) (a b : Option Aim) → leads r m w a → leads r m w b → a ≡ b) → p.id ≡ n.id
    → p.links ≡ links_of plain.packages q.deps → IsSoundPackage p → AreLinks (leads r m) plain.packages n.wishes q.deps → FindsOwn u (modules_path place) p from → FindsFrom r u place m n from
own_is r u place m plain q n p from one same links sound are h =
    let name : id_name p.id ≡ id_name n.id = ap id_name same in
    record {
      own = subst (λ (i : Id). find u from (name_path (id_name i)) ≡ Some (package_home place i)) same h.own;
      dependency = λ w i c l. h.dependency (w.alias, i) (subst (λ (ls : List Pair). Contains ls (w.alias, i)) (sym links) (link_in plain.packages q.deps w.alias i (are.from w i c l)));
      other = λ x named apart none. h.other x named (λ e. apart (e ∙ name)) (λ l c e.
          let back = are.to l.0 l.1 (link_from plain.packages q.deps l (sound.links.each l c).target (subst (λ (ls : List Pair). Contains ls l) links c)) in
          no_aim l.1 (one back.0 (Some (to_package l.1)) None back.3 (none back.0 back.1 (back.2 ∙ e))));
    }

inside_is : (r u : Tree) (place : Path) (m : Said) (plain : Plain) (packages : List Package) (n : Node) (inner : Path) → HasWords r (inputs_of m) plain → ArePackages (Some r) plain packages → FindsAll u (modules_path place) (direct_of plain) packages
    → HasNode (leads r m) plain.packages n → u (inner ++ package_home place n.id) ≡ Some folder → FindsFrom r u place m n (inner ++ package_home place n.id)
inside_is r u place m plain packages n inner said are all has stands =
    let one = one_of r plain has.found packages are has.has in
    let same : one.found.id ≡ n.id = one.same ∙ has.id in
    let home : home_of (modules_path place) one.found.id ≡ package_home place n.id = ap (package_home place) same in
    subst (λ (h : Path). FindsFrom r u place m n (inner ++ h)) home
    (own_is r u place m plain has.found n one.found (inner ++ home_of (modules_path place) one.found.id) said.one same one.links (are.sound.each one.found one.here) has.links
    (all.inside one.found inner one.here (subst (λ (h : Path). u (inner ++ h) ≡ Some folder) (sym home) stands)))

-- the project of the graph
first : {r : Option Tree} (m : Said) (plain : Plain) → IsGraphOf r (inputs_of m) root plain → Project
first m plain g = record { folder = codes "."; deps = deps_by (at_project 0) g.state.links; autos = [] }

first_is : {r : Option Tree} (m : Said) (plain : Plain) → (g : IsGraphOf r (inputs_of m) root plain) → slice_get plain.projects 0 ≡ Some (first m plain g)
unfolding first
first_is m plain g = ap (λ (l : List Project). slice_get l 0) g.shape.projects_are

pub all_found : (r u : Tree) (place : Path) (m : Said) (plain : Plain) (packages : List Package) (listings : List (List Entry)) → IsTree u → IsGraphOf (Some r) (inputs_of m) root plain → ArePackages (Some r) plain packages → AreOfPackages packages listings
    → IsInstalled u (modules_path place) (direct_of plain) packages listings → LooksUp r u place m
all_found r u place m plain packages listings tree graph are listed installed =
    let all = finds u (modules_path place) (direct_of plain) packages listings tree are.direct are.sound listed are.whole installed in
    let said = words r (inputs_of m) root plain graph in
    record {
      inside = λ own n inner starts reaches node stands. inside_is r u place m plain packages n inner said are all ((said.all own starts).package_has n reaches node) stands;
      project = λ named own w i starts c l. all.project place (w.alias, i) refl named (subst (λ (x : ProjIx). Contains (links_of plain.packages (project_deps (slice_get plain.projects x.0))) (w.alias, i)) (sym graph.root_is)
          (subst (λ (o : Option Project). Contains (links_of plain.packages (project_deps o)) (w.alias, i)) (sym (first_is m plain graph))
          (link_in plain.packages (first m plain graph).deps w.alias i (((said.all own starts).project_has 0 (first m plain graph) (first_is m plain graph)).from w i c l))));
    }
