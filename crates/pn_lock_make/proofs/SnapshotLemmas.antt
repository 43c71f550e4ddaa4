-- What the snapshots of a lock keep.
use Rattle.std.proofs.Common.{◌≡◌, ◌<◌, ◌+◌, ℕ, suc, Bool, true, false, not, cond, List, [], ◌∷◌, length, map, get_or, nat_cmp, refl, sym, ap, ◌∙◌, subst, arith, IsPermutation, IsSorted}
use Rattle.std.specs.Prelude.{bytes_eq, slice_get}
use Rattle.std.specs.Cmp.Lexicographic.{slice_cmp}
use Rattle.std.specs.List.{All, AllByRecursion, IsDistinct, filter, list_all}
use Rattle.std.specs.List.Sorted.{IsStrictlySortedBy}
use Rattle.std.specs.declared.cmp.Ordering.TheVariants.{Less}
use Rattle.std.proofs.lemmas.List.Elements.{All-from_recursion, recursion_from_All}
use Rattle.std.proofs.lemmas.List.Sorted.{All-permutation, IsPermutation-map, IsPermutation-sym}
use Rattle.std.proofs.lemmas.Map.Keys.{IsDistinct-IsPermutation}
use Rattle.std.proofs.lemmas.Slice.Eq.{bytes_eq-Decides}
use Rattle.pn_text.specs.Name.{is_name}
use Rattle.pn_text.specs.Ids.{id_name}
use Rattle.pn_text.specs.declared.index.PkgIx.{PkgIx}
use Rattle.pn_text.proofs.Bools.{and_left, and_right}
use Rattle.pn_deppath.specs.Paths.{id_part}
use Rattle.pn_lock.specs.declared.lists.LockLink.{LockLink}
use Rattle.pn_lock.specs.declared.lists.LockSnapshot.{LockSnapshot}
use Rattle.pn_lock.specs.Kept.{InRange, IsLink, IsSnapshot, NoneOf, Rises, is_in}
use Rattle.pn_lock.specs.Locks.{Locked, ids_of, links_of, paths_of}
use Rattle.pn_graph.specs.declared.links.Dep.{Dep}
use Rattle.pn_graph.specs.declared.links.Package.{Package}
use Rattle.pn_graph.specs.Graphs.{rises}
use Rattle.pn_graph.specs.Lookups.{package_deps, package_id}
use Rattle.pn_instances.specs.declared.links.Link.{Link}
use Rattle.pn_instances.specs.Instances.{are_links, in_range, link_names}
use Rattle.pn_instances.specs.Lookups.{links_at}
use Rattle.pn_lock_make.specs.Made.{IsInstance}
use Rattle.pn_lock_make.specs.Names.{AreNamedLinks, IsNamedSnapshot}
use Rattle.pn_lock_make.specs.PassedOn.{AreAllPassed}
use Rattle.pn_lock_make.specs.Snapshots.{is_optional, link_of, optional_links, package_number, required_links, snapshot_at, snapshots_from}
use Rattle.pn_lock_make.proofs.ImporterLemmas.{HasPlaces, goal_there, links_there}
use Rattle.pn_lock_make.proofs.ListLemmas.{both_weaker, none_in, tested, weaker}
use Rattle.pn_lock_make.proofs.OrderLemmas.{flips, rise, rises_from}

-- ---- some of the links

abbrev chosen : (Link → Bool) → List ℕ → List Link → List LockLink
chosen p ranks links = map (link_of ranks) (filter p links)

chosen_of : (P : Link → Type 0) (Q : LockLink → Type 0) (p : Link → Bool) (ranks : List ℕ) (links : List Link) → ((k : Link) → P k → Q (link_of ranks k)) → AllByRecursion P links → AllByRecursion Q (chosen p ranks links)
chosen_of P Q p ranks [] f h = tt
chosen_of P Q p ranks (k ∷ ks) f h = elim (p k) as (λ o. AllByRecursion Q (map (link_of ranks) (cond o (k ∷ filter p ks) (filter p ks)))) [
  | true ↦ (f k h.0, chosen_of P Q p ranks ks f h.1)
  | false ↦ chosen_of P Q p ranks ks f h.1
]

chosen_names : (P : List ℕ → Type 0) (p : Link → Bool) (ranks : List ℕ) (links : List Link) → AllByRecursion P (link_names links) → AllByRecursion P (links_of (chosen p ranks links))
chosen_names P p ranks [] h = tt
chosen_names P p ranks (k ∷ ks) h = elim (p k) as (λ o. AllByRecursion P (links_of (map (link_of ranks) (cond o (k ∷ filter p ks) (filter p ks))))) [
  | true ↦ (h.0, chosen_names P p ranks ks h.1)
  | false ↦ chosen_names P p ranks ks h.1
]

chosen_rise : (p : Link → Bool) (ranks : List ℕ) (links : List Link) → Rises (link_names links) → Rises (links_of (chosen p ranks links))
unfolding IsStrictlySortedBy
chosen_rise p ranks [] h = tt
chosen_rise p ranks (k ∷ ks) h = elim (p k) as (λ o. IsStrictlySortedBy (slice_cmp nat_cmp) (links_of (map (link_of ranks) (cond o (k ∷ filter p ks) (filter p ks))))) [
  | true ↦ (chosen_names (λ y. slice_cmp nat_cmp k.name y ≡ Less) p ranks ks h.0, chosen_rise p ranks ks h.1)
  | false ↦ chosen_rise p ranks ks h.1
]

-- the names of those that are chosen by name
chosen_pass : (t : List ℕ → Bool) (ranks : List ℕ) (links : List Link) → AllByRecursion (λ (n : List ℕ). t n ≡ true) (links_of (chosen (λ (k : Link). t k.name) ranks links))
chosen_pass t ranks [] = tt
chosen_pass t ranks (k ∷ ks) = elim (t k.name) as (λ o. t k.name ≡ o → AllByRecursion (λ (n : List ℕ). t n ≡ true) (links_of (map (link_of ranks) (cond o (k ∷ filter (λ (k : Link). t k.name) ks) (filter (λ (k : Link). t k.name) ks))))) [
  | true ↦ λ e. (e, chosen_pass t ranks ks)
  | false ↦ λ e. chosen_pass t ranks ks
] refl

other_name : (t : List ℕ → Bool) (x n : List ℕ) → not (t x) ≡ true → t n ≡ true → bytes_eq x n ≡ false
other_name t x n a b = elim (bytes_eq x n) as (λ o. bytes_eq x n ≡ o → o ≡ false) [
  | true ↦ λ e. let same : t x ≡ true = ap t ((bytes_eq-Decides x n).0 e) ∙ b in let no : false ≡ true = sym (ap not same) ∙ a in absurd (cc no)
  | false ↦ λ e. refl
] refl

apart : (deps : List Dep) (ranks : List ℕ) (links : List Link) → NoneOf (links_of (required_links ranks deps links)) (links_of (optional_links ranks deps links))
apart deps ranks links =
    let required = links_of (required_links ranks deps links) in
    weaker (λ (n : List ℕ). is_optional deps n ≡ true) (λ (n : List ℕ). is_in required n ≡ false) (links_of (optional_links ranks deps links))
    (λ n e. none_in n required (weaker (λ (x : List ℕ). not (is_optional deps x) ≡ true) (λ (x : List ℕ). bytes_eq x n ≡ false) required
    (λ x a. other_name (is_optional deps) x n a e) (chosen_pass (λ n. not (is_optional deps n)) ranks links)))
    (chosen_pass (is_optional deps) ranks links)

are_links_kept : (l : Locked) (ranks : List ℕ) (p k : ℕ) → HasPlaces l ranks p k → (test : Link → Bool) (links : List Link) → list_all (λ (l : Link). in_range p k l.to) links ≡ true → (own : List ℕ)
    → AllByRecursion (λ (l : Link). bytes_eq l.name own ≡ false) links → AreNamedLinks (chosen test ranks links) → AllByRecursion (IsLink l own) (chosen test ranks links)
are_links_kept l ranks p k h test links range own other named =
    let there = chosen_of (λ (x : Link). in_range p k x.to ≡ true) (λ (x : LockLink). InRange l x.to) test ranks links (λ x e. goal_there l ranks p k h x.to e) (tested (λ (l : Link). in_range p k l.to) links range) in
    let others = chosen_of (λ (x : Link). bytes_eq x.name own ≡ false) (λ (x : LockLink). bytes_eq x.alias own ≡ false) test ranks links (λ x e. e) other in
    both_weaker (λ (x : LockLink). InRange l x.to × (bytes_eq x.alias own ≡ false)) (λ (x : LockLink). is_name x.alias ≡ true) (IsLink l own) (chosen test ranks links)
    (λ x a n. record { name = n; range = a.0; other = a.1 })
    (both_weaker (λ (x : LockLink). InRange l x.to) (λ (x : LockLink). bytes_eq x.alias own ≡ false) (λ (x : LockLink). InRange l x.to × (bytes_eq x.alias own ≡ false)) (chosen test ranks links) (λ x a b. (a, b)) there others)
    (recursion_from_All (λ (x : LockLink). is_name x.alias ≡ true) (chosen test ranks links) named)

-- ---- snapshots

snapshot_kept : (l : Locked) (ranks : List ℕ) (p k : ℕ) → HasPlaces l ranks p k → (packages : List Package) (places : List PkgIx) (lists : List (List Link)) → list_all (are_links p k) lists ≡ true
    → ((j : ℕ) → j < length packages → is_in (ids_of l.packages) (package_id (slice_get packages j)) ≡ true) → (passed : List (List (List ℕ))) → AreAllPassed packages passed → (n : ℕ) (path : List ℕ)
    → IsInstance packages places lists n path → IsNamedSnapshot (snapshot_at packages places lists ranks passed n path) → IsSnapshot l (snapshot_at packages places lists ranks passed n path)
snapshot_kept l ranks p k h packages places lists are ids passed pass n path i named =
    let links = links_at lists n in
    let deps = package_deps (slice_get packages (package_number places n)) in
    let linked = links_there p k lists n are in
    let up = rises_from (link_names links) (and_left (rises (link_names links)) (list_all (λ (l : Link). in_range p k l.to) links) linked) in
    let range = and_right (rises (link_names links)) (list_all (λ (l : Link). in_range p k l.to) links) linked in
    let own = id_name (id_part path) in
    let other = subst (λ (id : List ℕ). AllByRecursion (λ (l : Link). bytes_eq l.name (id_name id) ≡ false) links) (sym i.begins) i.other in
    let mine = pass.each (package_number places n) i.in_graph in
    record {
      path = i.path_is;
      locked = ap (is_in (ids_of l.packages)) i.begins ∙ ids (package_number places n) i.in_graph;
      dependencies = are_links_kept l ranks p k h (λ (x : Link). not (is_optional deps x.name)) links range own other named.dependencies;
      optional = are_links_kept l ranks p k h (λ (x : Link). is_optional deps x.name) links range own other named.optional;
      transitive = recursion_from_All (λ (n : List ℕ). is_name n ≡ true) (get_or passed (package_number places n) []) named.transitive;
      dependencies_rise = chosen_rise (λ (x : Link). not (is_optional deps x.name)) ranks links up;
      optional_rise = chosen_rise (λ (x : Link). is_optional deps x.name) ranks links up;
      transitive_rise = mine.rises;
      optional_apart = apart deps ranks links;
    }

all_kept : (l : Locked) (ranks : List ℕ) (p k : ℕ) → HasPlaces l ranks p k → (packages : List Package) (places : List PkgIx) (lists : List (List Link)) → list_all (are_links p k) lists ≡ true
    → ((j : ℕ) → j < length packages → is_in (ids_of l.packages) (package_id (slice_get packages j)) ≡ true) → (passed : List (List (List ℕ))) → AreAllPassed packages passed → (n : ℕ) (paths : List (List ℕ))
    → ((m : ℕ) → m < length paths → IsInstance packages places lists (m + n) (get_or paths m [])) → AllByRecursion IsNamedSnapshot (snapshots_from packages places lists ranks passed n paths)
    → AllByRecursion (IsSnapshot l) (snapshots_from packages places lists ranks passed n paths)
all_kept l ranks p k h packages places lists are ids passed pass n [] insts named = tt
all_kept l ranks p k h packages places lists are ids passed pass n (path ∷ paths) insts named =
    let zero_first : 0 + n ≡ n = omega arith in (
      snapshot_kept l ranks p k h packages places lists are ids passed pass n path (subst (λ (m : ℕ). IsInstance packages places lists m path) zero_first (insts 0 (omega arith))) named.0,
      all_kept l ranks p k h packages places lists are ids passed pass (suc n) paths
          (λ m low. let next : suc m + n ≡ m + suc n = omega arith in subst (λ (j : ℕ). IsInstance packages places lists j (get_or paths m [])) next (insts (suc m) (omega (arith, low)))) named.1,
    )

pub snapshots_kept : (l : Locked) (ranks : List ℕ) (p k : ℕ) → HasPlaces l ranks p k → (packages : List Package) (places : List PkgIx) (lists : List (List Link)) → list_all (are_links p k) lists ≡ true
    → ((j : ℕ) → j < length packages → is_in (ids_of l.packages) (package_id (slice_get packages j)) ≡ true) → (passed : List (List (List ℕ))) → AreAllPassed packages passed → (paths : List (List ℕ))
    → ((n : ℕ) → n < length paths → IsInstance packages places lists n (get_or paths n [])) → (ss : List LockSnapshot) → IsPermutation (snapshots_from packages places lists ranks passed 0 paths) ss → All IsNamedSnapshot ss
    → AllByRecursion (IsSnapshot l) ss
snapshots_kept l ranks p k h packages places lists are ids passed pass paths insts ss order named =
    let made = snapshots_from packages places lists ranks passed 0 paths in
    let back = IsPermutation-sym made ss order in
    let same = recursion_from_All IsNamedSnapshot made (All-permutation IsNamedSnapshot ss made back named) in
    recursion_from_All (IsSnapshot l) ss (All-permutation (IsSnapshot l) made ss order (All-from_recursion (IsSnapshot l) made
    (all_kept l ranks p k h packages places lists are ids passed pass 0 paths
    (λ m low. let same : m ≡ m + 0 = omega arith in subst (λ (j : ℕ). IsInstance packages places lists j (get_or paths m [])) same (insts m low)) same)))

-- ---- dep paths

paths_same : (packages : List Package) (places : List PkgIx) (lists : List (List Link)) (ranks : List ℕ) (passed : List (List (List ℕ))) (n : ℕ) (paths : List (List ℕ))
    → paths_of (snapshots_from packages places lists ranks passed n paths) ≡ paths
paths_same packages places lists ranks passed n [] = refl
paths_same packages places lists ranks passed n (path ∷ paths) = ap (λ (ps : List (List ℕ)). path ∷ ps) (paths_same packages places lists ranks passed (suc n) paths)

pub paths_order : (packages : List Package) (places : List PkgIx) (lists : List (List Link)) (ranks : List ℕ) (passed : List (List (List ℕ))) (paths : List (List ℕ)) (ss : List LockSnapshot)
    → IsPermutation (snapshots_from packages places lists ranks passed 0 paths) ss → IsPermutation paths (paths_of ss)
paths_order packages places lists ranks passed paths ss order =
    subst (λ (l : List (List ℕ)). IsPermutation l (paths_of ss)) (paths_same packages places lists ranks passed 0 paths)
    (IsPermutation-map (λ (s : LockSnapshot). s.path) (snapshots_from packages places lists ranks passed 0 paths) ss order)

pub paths_rise : (paths : List (List ℕ)) (ss : List LockSnapshot) → IsDistinct bytes_eq paths → IsPermutation paths (paths_of ss) → IsSorted (slice_cmp nat_cmp) (paths_of ss) → Rises (paths_of ss)
paths_rise paths ss once order sorted = rise (paths_of ss) (IsDistinct-IsPermutation bytes_eq flips paths (paths_of ss) order once) sorted
