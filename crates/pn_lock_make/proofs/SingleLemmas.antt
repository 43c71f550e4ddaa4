-- What a lock without peers is made of belongs together.
use Rattle.std.proofs.Common.{◌≡◌, ◌<◌, ℕ, zero, suc, true, false, not, List, [], ◌∷◌, ◌++◌, length, map, get_or, Some, append-nil, inl, inr, refl, sym, ap, ◌∙◌, subst, arith}
use Rattle.std.specs.Prelude.{◌&&◌, bytes_eq, slice_get}
use Rattle.std.specs.List.{All, AllByRecursion, IsDistinct, list_all}
use Rattle.std.proofs.lemmas.List.{length-map}
use Rattle.pn_text.specs.Ids.{id_name, id_text, id_version, is_id, is_version}
use Rattle.pn_text.specs.Name.{is_name}
use Rattle.pn_text.specs.declared.index.PkgIx.{PkgIx}
use Rattle.pn_text.proofs.Bools.{and_left, and_right, left_false, not_true, right_false}
use Rattle.pn_text.proofs.IdTexts.{text_again}
use Rattle.pn_deppath.specs.Cuts.{before}
use Rattle.pn_deppath.specs.Paths.{id_part, is_dep_path}
use Rattle.pn_deppath.proofs.IdBytes.{id_bytes, is_id_byte, without}
use Rattle.pn_deppath.proofs.PathLemmas.{before_front, is_made}
use Rattle.pn_asked.specs.Asked.{AskedLists}
use Rattle.pn_graph.specs.declared.links.Dep.{Dep}
use Rattle.pn_graph.specs.declared.links.Package.{Package}
use Rattle.pn_graph.specs.declared.plain.Plain.{Plain}
use Rattle.pn_graph.specs.Graphs.{aliases, are_deps, has_name, has_own_names, is_package, peer_names, rises}
use Rattle.pn_graph.specs.Lookups.{package_id}
use Rattle.pn_instances.specs.declared.instances.Instances.{Instances}
use Rattle.pn_instances.specs.declared.links.Link.{Link}
use Rattle.pn_instances.specs.Lookups.{links_at}
use Rattle.pn_instances.specs.Singles.{links_of, package_links, places, project_links}
use Rattle.pn_instances.proofs.SingleLemmas.{graph_parts, length-places}
use Rattle.pn_lock_make.specs.Made.{Belongs, IsInstance, instance_id}
use Rattle.pn_lock_make.specs.Singles.{AreSingle, BelongSingly, package_ids}
use Rattle.pn_lock_make.specs.Snapshots.{number_of, package_number}
use Rattle.pn_lock_make.proofs.ListLemmas.{tested}
use Rattle.pn_lock_make.proofs.OrderLemmas.{are_distinct, flips}
use Rattle.pn_lock_make.proofs.PassedLemmas.{below_next}

-- ---- an id is a dep path

whole_id : (id : List ℕ) → is_id id ≡ true → id_part id ≡ id
whole_id id h =
    let flat = without is_id_byte 40 id (id_bytes id h) refl in
    ap (before 40) (sym (append-nil id)) ∙ before_front 40 id [] flat ∙ append-nil id

path_id : (id : List ℕ) → is_id id ≡ true → is_dep_path id ≡ true
path_id id h =
    let named = and_left (is_name (id_name id)) (is_version (id_version id)) h in
    let versioned = and_right (is_name (id_name id)) (is_version (id_version id)) h in
    let made = is_made (id_name id) (id_version id) [] named versioned refl refl in
    ap is_dep_path (sym (text_again id versioned) ∙ sym (append-nil (id_text (id_name id) (id_version id)))) ∙ made

-- ---- the package of an instance

slice_left : {A : Type 0} (xs ys : List A) (k : ℕ) → k < length xs → slice_get (xs ++ ys) k ≡ slice_get xs k
slice_left [] ys k low = absurd (omega (arith, low))
slice_left (x ∷ xs) ys zero low = refl
slice_left (x ∷ xs) ys (suc k) low = slice_left xs ys k (omega (arith, low))

slice_end : {A : Type 0} (xs : List A) (y : A) → slice_get (xs ++ y ∷ []) (length xs) ≡ Some y
slice_end [] y = refl
slice_end (x ∷ xs) y = slice_end xs y

place_is : (k n : ℕ) → k < n → slice_get (places n) k ≡ Some (record { 0 = k })
place_is k zero low = absurd (omega (arith, low))
place_is k (suc n) low =
    let last : PkgIx = record { 0 = n } in
    let many : length (places n) ≡ n = length-places n in
    elim (below_next k n (omega (arith, low))) [
      | inl less ↦ slice_left (places n) (last ∷ []) k (omega (arith, less, many)) ∙ place_is k n less
      | inr same ↦ ap (λ (j : ℕ). slice_get (places n ++ last ∷ []) j) (same ∙ sym many) ∙ slice_end (places n) last ∙ ap (λ (j : ℕ). Some (place j)) (sym same)
    ]
  where
    place : ℕ → PkgIx
    place j = record { 0 = j }

id_at : (qs : List Package) (n : ℕ) → n < length qs → get_or (package_ids qs) n [] ≡ package_id (slice_get qs n)
id_at [] n low = absurd (omega (arith, low))
id_at (q ∷ qs) zero low = refl
id_at (q ∷ qs) (suc n) low = id_at qs n (omega (arith, low))

apart_links : (name : List ℕ) (deps : List Dep) → has_name name (aliases deps) ≡ false → AllByRecursion (λ (l : Link). bytes_eq l.name name ≡ false) (links_of deps)
apart_links name [] h = tt
apart_links name (d ∷ ds) h =
    let rest = has_name name (aliases ds) in
    (flips d.alias name ∙ left_false (bytes_eq name d.alias) rest h, apart_links name ds (right_false (bytes_eq name d.alias) rest h))

own_apart : (p k : ℕ) (q : Package) → is_package p k q ≡ true → has_name (id_name q.id) (aliases q.deps) ≡ false
own_apart p k q h =
    let name = id_name q.id in
    let own = not (has_name name (aliases q.deps)) in
    let peer = not (has_name name (peer_names q.peers)) in
    let both = list_all (λ r. not (has_name r (aliases q.deps))) (peer_names q.peers) in
    not_true (has_name name (aliases q.deps)) (and_left own peer (and_left (own && peer) both (and_right (are_deps p k q.deps && rises (peer_names q.peers)) (has_own_names name (aliases q.deps) (peer_names q.peers)) h)))

no_own : (p k : ℕ) (qs : List Package) (n : ℕ) → AllByRecursion (λ (q : Package). is_package p k q ≡ true) qs → n < length qs
    → AllByRecursion (λ (l : Link). bytes_eq l.name (id_name (package_id (slice_get qs n))) ≡ false) (links_at (map package_links qs) n)
no_own p k [] n h low = absurd (omega (arith, low))
no_own p k (q ∷ qs) zero h low = apart_links (id_name q.id) q.deps (own_apart p k q h.0)
no_own p k (q ∷ qs) (suc n) h low = no_own p k qs n h.1 (omega (arith, low))

instance_is : (p k : ℕ) (qs : List Package) → list_all (is_package p k) qs ≡ true → (n : ℕ) → n < length qs → is_id (get_or (package_ids qs) n []) ≡ true
    → IsInstance qs (places (length qs)) (map package_links qs) n (get_or (package_ids qs) n [])
instance_is p k qs are n low id =
    let same : package_number (places (length qs)) n ≡ n = ap number_of (place_is n (length qs) low) in
    let text = get_or (package_ids qs) n [] in
    let named : instance_id qs (places (length qs)) n ≡ package_id (slice_get qs n) = ap (λ (j : ℕ). package_id (slice_get qs j)) same in
    record {
      in_graph = omega (arith, same, low);
      path_is = path_id text id;
      begins = whole_id text id ∙ id_at qs n low ∙ sym named;
      other = subst (λ (i : List ℕ). AllByRecursion (λ (l : Link). bytes_eq l.name (id_name i) ≡ false) (links_at (map package_links qs) n)) (sym named) (no_own p k qs n (tested (is_package p k) qs are) low);
    }

-- ---- the whole

pub single_belongs : (a : AskedLists) (p : Plain) (i : Instances) (paths integrities : List (List ℕ)) → BelongSingly a p integrities → AreSingle p i → paths ≡ package_ids p.packages
    → All (λ (id : List ℕ). is_id id ≡ true) paths → Belongs a p i paths integrities
single_belongs a p i paths integrities b s same ids =
    let graph = graph_parts p.root p.projects p.packages p.right in
    let many : length (package_ids p.packages) ≡ length p.packages = length-map p.packages (λ (q : Package). q.id) in
    let made = subst (λ (l : List (List ℕ)). All (λ (id : List ℕ). is_id id ≡ true) l) same ids in
    record {
      paths_count = ap length same ∙ many ∙ sym (length-places (length p.packages)) ∙ sym (ap length s.packages);
      paths_once = subst (λ (l : List (List ℕ)). IsDistinct bytes_eq l) (sym same) (are_distinct (package_ids p.packages) graph.ids);
      instances = λ n low.
          let count : length paths ≡ length (package_ids p.packages) = ap length same in
          let within : n < length p.packages = omega (arith, low, count, many) in
          let short : n < length (package_ids p.packages) = omega (arith, low, count) in
          subst (λ (ks : List PkgIx). IsInstance p.packages ks i.links n (get_or paths n [])) (sym s.packages)
          (subst (λ (ls : List (List Link)). IsInstance p.packages (places (length p.packages)) ls n (get_or paths n [])) (sym s.links)
          (subst (λ (ps : List (List ℕ)). IsInstance p.packages (places (length p.packages)) (map package_links p.packages) n (get_or ps n [])) (sym same)
          (instance_is (length p.projects) (length p.packages) p.packages graph.packages n within (made n [] short))));
      integrities_count = b.integrities_count;
      projects_count = b.projects_count ∙ sym (length-map p.projects project_links) ∙ sym (ap length s.roots);
      folders = b.folders;
      apart = b.apart;
    }
