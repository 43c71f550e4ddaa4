-- The packages of an install are sound and whole.
use Rattle.std.proofs.Common.{◌≡◌, List, [], ◌∷◌, Option, IfSome, map, length, nat_cmp, refl, sym, ap, ◌∙◌, subst, true, IsPermutation, IsSorted}
use Rattle.std.specs.Prelude.{slice_get}
use Rattle.std.specs.List.{All, Contains}
use Rattle.std.specs.Cmp.Lexicographic.{slice_cmp}
use Rattle.std.specs.List.Sorted.{IsStrictlySortedBy}
use Rattle.std.specs.Str.{bytes_eq}
use Rattle.std.proofs.lemmas.List.Elements.{All-contains}
use Rattle.std.proofs.lemmas.List.Sorted.{IsPermutation-map, IsPermutation-sym, Contains-permutation}
use Rattle.std.proofs.lemmas.Map.Keys.{IsDistinct-IsPermutation}
use Rattle.pn_text.specs.Ids.{id_name}
use Rattle.pn_text.proofs.Members.{from_map, to_map}
use Rattle.pn_fs.specs.Tree.{Tree}
use Rattle.pn_graph.specs.Graphs.{are_deps}
use Rattle.pn_graph.specs.declared.links.Dep.{Dep}
use Rattle.pn_graph.specs.declared.links.Package.{Package as Node}
use Rattle.pn_graph.specs.Lookups.{project_deps}
use Rattle.pn_graph.specs.declared.plain.Plain.{Plain}
use Rattle.pn_package.specs.Links.{Id, Pair}
use Rattle.pn_package.specs.declared.packages.Package.{Package}
use Rattle.pn_package.specs.Sound.{AreSoundLinks, IsSoundPackage, AreSound, IsAmong, AreWhole, FilesStand}
use Rattle.pn_collect.specs.Outline.{Outline, outline, wanted, bare_of, dressed, bare_id, node_id, package_id, links_of, direct_of, IsMade, HasFiles, HaveFiles}
use Rattle.pn_collect.specs.Packages.{ArePackages}
use Rattle.pn_collect.specs.declared.bare.Bare.{Bare}
use Rattle.pn_collect.proofs.Causes.{if_all}
use Rattle.pn_collect.proofs.GraphFacts.{ids_distinct, node_deps, own_alias, root_deps}
use Rattle.pn_collect.proofs.IdLists.{are_distinct, id_flips, rise}
use Rattle.pn_collect.proofs.LinkLemmas.{dep_of, led}
use Rattle.pn_collect.proofs.SortedTexts.{one_by_key}

-- These packages are those of the graph, in some order.
pub record IsOf (plain : Plain) (v : List Package) : Type 0 where
  pub bare : List Bare
  pub order : IsPermutation (map (bare_of plain.packages) plain.packages) bare
  pub sorted : IsSorted (slice_cmp nat_cmp) (map bare_id bare)
  pub same : map outline v ≡ map dressed bare
  pub made : All IsMade v
  pub direct : AreSoundLinks (direct_of plain)

dressed_all : (nodes all : List Node) → map dressed (map (bare_of nodes) all) ≡ map (wanted nodes) all
dressed_all nodes [] = refl
dressed_all nodes (q ∷ all) = ap (λ (l : List Outline). wanted nodes q ∷ l) (dressed_all nodes all)

bare_ids : (nodes all : List Node) → map bare_id (map (bare_of nodes) all) ≡ map node_id all
bare_ids nodes [] = refl
bare_ids nodes (q ∷ all) = ap (λ (l : List Id). q.id ∷ l) (bare_ids nodes all)

-- the ids of the graph, in the order of the bare packages
pub ids_order : (plain : Plain) (bare : List Bare) → IsPermutation (map (bare_of plain.packages) plain.packages) bare → IsPermutation (map node_id plain.packages) (map bare_id bare)
ids_order plain bare order =
    subst (λ (l : List Id). IsPermutation l (map bare_id bare)) (bare_ids plain.packages plain.packages) (IsPermutation-map bare_id (map (bare_of plain.packages) plain.packages) bare order)

-- they rise
pub ids_rise : (plain : Plain) (bare : List Bare) → IsPermutation (map (bare_of plain.packages) plain.packages) bare → IsSorted (slice_cmp nat_cmp) (map bare_id bare) → IsStrictlySortedBy (slice_cmp nat_cmp) (map bare_id bare)
ids_rise plain bare order sorted =
    rise (map bare_id bare) (IsDistinct-IsPermutation bytes_eq id_flips (map node_id plain.packages) (map bare_id bare) (ids_order plain bare order) (are_distinct (map node_id plain.packages) (ids_distinct plain))) sorted

pub out_id : Outline → Id
out_id o = o.id

pub ids_made : (v : List Package) → map package_id v ≡ map out_id (map outline v)
unfolding out_id
ids_made [] = refl
ids_made (p ∷ v) = ap (λ (l : List Id). p.id ∷ l) (ids_made v)

ids_dressed : (bare : List Bare) → map out_id (map dressed bare) ≡ map bare_id bare
unfolding out_id
ids_dressed [] = refl
ids_dressed (b ∷ bare) = ap (λ (l : List Id). b.id ∷ l) (ids_dressed bare)

ids_same : (plain : Plain) (v : List Package) (h : IsOf plain v) → map package_id v ≡ map bare_id h.bare
ids_same plain v h = ids_made v ∙ ap (map out_id) h.same ∙ ids_dressed h.bare

in_order : (plain : Plain) (v : List Package) → IsOf plain v → IsStrictlySortedBy (slice_cmp nat_cmp) (map package_id v)
in_order plain v h = subst (IsStrictlySortedBy (slice_cmp nat_cmp)) (sym (ids_same plain v h)) (ids_rise plain h.bare h.order h.sorted)

exact : (plain : Plain) (v : List Package) → IsOf plain v → IsPermutation (map (wanted plain.packages) plain.packages) (map outline v)
exact plain v h =
    subst (λ (l : List Outline). IsPermutation l (map outline v)) (dressed_all plain.packages plain.packages)
    (subst (IsPermutation (map dressed (map (bare_of plain.packages) plain.packages))) (sym h.same) (IsPermutation-map dressed (map (bare_of plain.packages) plain.packages) h.bare h.order))

-- each package is one of the graph
origin : (plain : Plain) (v : List Package) → IsOf plain v → (p : Package) → Contains v p → (q : Node) × Contains plain.packages q × (wanted plain.packages q ≡ outline p)
origin plain v h p c =
    let order = exact plain v h in
    from_map (wanted plain.packages) plain.packages (outline p)
    (Contains-permutation (map outline v) (map (wanted plain.packages) plain.packages) (outline p) (IsPermutation-sym (map (wanted plain.packages) plain.packages) (map outline v) order) (to_map outline v p c))

-- and each package of the graph is there
image : (plain : Plain) (v : List Package) → IsOf plain v → (q : Node) → Contains plain.packages q → (p : Package) × Contains v p × (outline p ≡ wanted plain.packages q)
image plain v h q c =
    from_map outline v (wanted plain.packages q) (Contains-permutation (map (wanted plain.packages) plain.packages) (map outline v) (wanted plain.packages q) (exact plain v h) (to_map (wanted plain.packages) plain.packages q c))

-- what dependencies lead to is there
among : (plain : Plain) (v : List Package) → IsOf plain v → (deps : List Dep) → are_deps (length plain.projects) (length plain.packages) deps ≡ true → (l : Pair) → Contains (links_of plain.packages deps) l → IsAmong v l.1
among plain v h deps right l c =
    let q = led (length plain.projects) plain.packages deps right l c in
    let p = image plain v h q.0 q.1 in
    (p.0, p.1, ap (λ (o : Outline). o.id) p.2 ∙ q.2)

whole : (plain : Plain) (v : List Package) → IsOf plain v → AreWhole (direct_of plain) v
whole plain v h = record {
  project = among plain v h (project_deps (slice_get plain.projects plain.root.0)) (root_deps plain);
  others = λ p l c k.
      let q = origin plain v h p c in
      among plain v h q.0.deps (node_deps plain q.0 q.1) l (subst (λ (ls : List Pair). Contains ls l) (sym (ap (λ (o : Outline). o.links) q.2)) k);
}

sound_package : (plain : Plain) (v : List Package) → IsOf plain v → (p : Package) → Contains v p → IsSoundPackage p
sound_package plain v h p c =
    let m = All-contains IsMade v p h.made c in
    let q = origin plain v h p c in
    record {
      id = m.id;
      links = m.links;
      others = λ l k e.
          let d = dep_of plain.packages q.0.deps l (subst (λ (ls : List Pair). Contains ls l) (sym (ap (λ (o : Outline). o.links) q.2)) k) in
          own_alias plain q.0 q.1 d.0 d.1 (d.2 ∙ e ∙ sym (ap (λ (o : Outline). id_name o.id) q.2));
      files = m.files.each;
      apart = m.files.apart;
      short = m.files.short;
    }

sound : (plain : Plain) (v : List Package) → IsOf plain v → AreSound v
sound plain v h = record {
  each = sound_package plain v h;
  apart = λ p q c k e. one_by_key package_id v (in_order plain v h) p q c k e;
}

have_files : (t : Tree) (v : List Package) → All (HasFiles t) v → HaveFiles t v
have_files t v h p c = All-contains (HasFiles t) v p h c

files_stand : (t : Tree) (v : List Package) → All (HasFiles t) v → FilesStand t v
files_stand t v h p f c k = (All-contains (HasFiles t) v p h c).stand f k

are_packages : (r : Option Tree) (plain : Plain) (v : List Package) → IsOf plain v → IfSome r (λ t. All (HasFiles t) v) → ArePackages r plain v
are_packages r plain v is files = record {
  sound = sound plain v is;
  direct = is.direct;
  whole = whole plain v is;
  exact = exact plain v is;
  sorted = in_order plain v is;
  made = is.made;
  rising = λ p c. (All-contains IsMade v p is.made c).files.rising;
  stand = if_all (λ t. All (HasFiles t) v) (λ t. FilesStand t v) r (λ t. files_stand t v) files;
  files = if_all (λ t. All (HasFiles t) v) (λ t. HaveFiles t v) r (λ t. have_files t v) files;
}

pub packages_of : (r : Option Tree) (plain : Plain) (bare : List Bare) (v : List Package) → IsPermutation (map (bare_of plain.packages) plain.packages) bare → IsSorted (slice_cmp nat_cmp) (map bare_id bare)
    → AreSoundLinks (direct_of plain) → map outline v ≡ map dressed bare → All IsMade v → IfSome r (λ t. All (HasFiles t) v) → ArePackages r plain v
packages_of r plain bare v order sorted direct same made files = are_packages r plain v (record { bare = bare; order = order; sorted = sorted; same = same; made = made; direct = direct }) files
