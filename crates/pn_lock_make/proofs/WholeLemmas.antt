-- What is made of its parts is a lock.
use Rattle.std.proofs.Common.{◌≡◌, ◌<◌, ◌^◌, ℕ, suc, true, false, cond, List, [], ◌∷◌, length, map, get_or, Some, option_map, nat_cmp, inl, inr, refl, sym, ap, ◌∙◌, subst, arith, IsPermutation, IsSorted}
use Rattle.std.specs.Prelude.{bytes_eq, unwrap_or}
use Rattle.std.specs.Cmp.Lexicographic.{slice_cmp}
use Rattle.std.specs.List.{All, AllByRecursion, Contains}
use Rattle.std.proofs.lemmas.Bool.{cases_Bool}
use Rattle.std.proofs.lemmas.List.{get_or-map, length-map}
use Rattle.std.proofs.lemmas.List.Elements.{Contains-get_or, recursion_from_All}
use Rattle.std.proofs.lemmas.List.Sorted.{Contains-permutation, length_permutation}
use Rattle.std.proofs.lemmas.Slice.Eq.{bytes_eq-Decides}
use Rattle.pn_text.specs.Name.{is_name}
use Rattle.pn_text.proofs.Members.{in_cons, none_in}
use Rattle.pn_spec.specs.Entries.{AreCatalogs}
use Rattle.pn_lock.specs.declared.lists.LockCatalog.{LockCatalog}
use Rattle.pn_lock.specs.declared.lists.LockImporter.{LockImporter}
use Rattle.pn_lock.specs.declared.lists.LockSnapshot.{LockSnapshot}
use Rattle.pn_lock.specs.declared.lists.Override.{Override}
use Rattle.pn_lock.specs.Kept.{IsImporter, IsLock, Rises}
use Rattle.pn_lock.specs.Locks.{Locked, folders_of, groups_of, ids_of, paths_of, place_of}
use Rattle.pn_asked.specs.Asked.{AskedLists, IsAsked}
use Rattle.pn_asked.specs.Rows.{Row, keys}
use Rattle.pn_graph.specs.declared.plain.Plain.{Plain}
use Rattle.pn_instances.specs.declared.instances.Instances.{Instances}
use Rattle.pn_instances.specs.declared.links.Link.{Link}
use Rattle.pn_instances.proofs.SingleLemmas.{graph_parts}
use Rattle.pn_lock_make.specs.Entries.{entries_of, uses_of}
use Rattle.pn_lock_make.specs.Importers.{importers_from}
use Rattle.pn_lock_make.specs.Made.{Belongs, IsMade, override_of}
use Rattle.pn_lock_make.specs.Names.{AreNamedEntries, IsNamedImporter, IsNamedPackage, IsNamedSnapshot}
use Rattle.pn_lock_make.specs.Packages.{packages_from}
use Rattle.pn_lock_make.specs.PassedOn.{AreAllPassed}
use Rattle.pn_lock_make.specs.Snapshots.{snapshots_from}
use Rattle.pn_lock_make.specs.Targets.{AreRanked, rank, ranks_of}
use Rattle.pn_lock_make.proofs.EntryLemmas.{AreRisingGroups, entries_rise, groups_rise}
use Rattle.pn_lock_make.proofs.GraphLemmas.{instances_kept, ranked}
use Rattle.pn_lock_make.proofs.ImporterLemmas.{HasPlaces, importer_count, importer_folders, importers_kept}
use Rattle.pn_lock_make.proofs.OneOrder.{one_order}
use Rattle.pn_lock_make.proofs.PackageLemmas.{id_locked, ids_rise, packages_kept}
use Rattle.pn_lock_make.proofs.SnapshotLemmas.{paths_order, paths_rise, snapshots_kept}

-- ---- ranks

record HasPlace (x : List ℕ) (ks : List (List ℕ)) : Type 0 where
  at : ℕ
  is : place_of x ks ≡ Some at
  low : at < length ks

placed : (x : List ℕ) (ks : List (List ℕ)) → Contains ks x → HasPlace x ks
placed x [] c = absurd (none_in x c)
placed x (k ∷ ks) c = elim (cases_Bool (bytes_eq k x)) [
  | inl e ↦ record { at = 0; is = ap (λ o. cond o (Some 0) (option_map suc (place_of x ks))) e; low = omega arith }
  | inr e ↦ elim (in_cons k ks x c) [
    | inl same ↦ let no : true ≡ false = sym ((bytes_eq-Decides k x).1 same) ∙ e in absurd (cc no)
    | inr rest ↦
        let p = placed x ks rest in
        let low : p.at < length ks = p.low in
        record { at = suc p.at; is = ap (λ o. cond o (Some 0) (option_map suc (place_of x ks))) e ∙ ap (option_map suc) p.is; low = omega (arith, low) }
  ]
]

low_rank : (x : List ℕ) (ks : List (List ℕ)) → Contains ks x → rank ks x < length ks
low_rank x ks c =
    let p = placed x ks c in
    subst (λ (n : ℕ). n < length ks) (sym (ap (λ o. unwrap_or o 0) p.is)) p.low

low_ranks : (ks paths : List (List ℕ)) → IsPermutation paths ks → (k : ℕ) → k < length paths → get_or (ranks_of ks paths) k 0 < length ks
low_ranks ks paths same k low =
    let at : get_or (ranks_of ks paths) k 0 ≡ rank ks (get_or paths k []) = get_or-map (rank ks) paths k [] 0 low in
    subst (λ (n : ℕ). n < length ks) (sym at) (low_rank (get_or paths k []) ks (Contains-permutation paths ks (get_or paths k []) same (Contains-get_or paths k [] low)))

-- ---- the parts of a lock

pub record AreParts (a : AskedLists) (p : Plain) (i : Instances) (paths integrities : List (List ℕ)) (l : Locked) : Type 0 where
  pub keys : List (List ℕ)
  pub keys_rise : Rises keys
  pub keys_same : IsPermutation paths keys
  pub ranks : List ℕ
  pub ranks_are : ranks ≡ ranks_of keys paths
  pub passed : List (List (List ℕ))
  pub passed_are : AreAllPassed p.packages passed
  pub auto : l.auto ≡ a.auto
  pub catalogs : l.catalogs ≡ entries_of (uses_of p.projects p.packages) a.catalogs
  pub catalogs_named : AreNamedEntries l.catalogs
  pub overrides : l.overrides ≡ map override_of a.overrides
  pub importers : l.importers ≡ importers_from ranks i.roots 0 a.projects
  pub importers_named : All IsNamedImporter l.importers
  pub packages : IsPermutation (packages_from integrities 0 p.packages) l.packages
  pub packages_sorted : IsSorted (slice_cmp nat_cmp) (ids_of l.packages)
  pub packages_named : All IsNamedPackage l.packages
  pub snapshots : IsPermutation (snapshots_from p.packages i.packages i.links ranks passed 0 paths) l.snapshots
  pub snapshots_sorted : IsSorted (slice_cmp nat_cmp) (paths_of l.snapshots)
  pub snapshots_named : All IsNamedSnapshot l.snapshots

selectors : (rows : List Row) → map (λ (o : Override). o.selector) (map override_of rows) ≡ keys rows
selectors [] = refl
selectors (r ∷ rows) = ap (λ (ks : List (List ℕ)). r.0 ∷ ks) (selectors rows)

pub is_lock : (a : AskedLists) (p : Plain) (i : Instances) (paths integrities : List (List ℕ)) (l : Locked) → Belongs a p i paths integrities → IsAsked a → AreCatalogs a.catalogs → AreParts a p i paths integrities l → IsLock l
is_lock a p i paths integrities l b asked cats m =
    let inst = instances_kept i.packages i.links i.roots i.right in
    let graph = graph_parts p.root p.projects p.packages p.right in
    let order = paths_order p.packages i.packages i.links m.ranks m.passed paths l.snapshots m.snapshots in
    let many : length (paths_of l.snapshots) ≡ length paths = length_permutation paths (paths_of l.snapshots) order in
    let mapped : length (paths_of l.snapshots) ≡ length l.snapshots = length-map l.snapshots (λ (s : LockSnapshot). s.path) in
    let keyed : length m.keys ≡ length paths = length_permutation paths m.keys m.keys_same in
    let counted : length paths ≡ length i.packages = b.paths_count in
    let projects : length l.importers ≡ length i.roots = ap length m.importers ∙ importer_count m.ranks i.roots 0 a.projects ∙ b.projects_count in
    let few : length i.packages < 2 ^ 32 = inst.few in
    let few_roots : length i.roots < 2 ^ 32 = inst.few_roots in
    let places : HasPlaces l m.ranks (length i.roots) (length i.packages) = record {
      importers = projects;
      ranked = λ k low.
          let within : k < length paths = omega (arith, low, counted) in
          let r : get_or (ranks_of m.keys paths) k 0 < length m.keys = low_ranks m.keys paths m.keys_same k within in
          let same : get_or m.ranks k 0 ≡ get_or (ranks_of m.keys paths) k 0 = ap (λ (rs : List ℕ). get_or rs k 0) m.ranks_are in
          omega (arith, r, same, keyed, many, mapped);
    } in
    let groups = groups_rise (entries_of (uses_of p.projects p.packages) a.catalogs) (entries_rise (uses_of p.projects p.packages) a.catalogs cats.rising) in
    let rising = subst (λ (es : List LockCatalog). AreRisingGroups (groups_of es)) (sym m.catalogs) groups in
    let named = subst (λ (is : List LockImporter). AllByRecursion IsNamedImporter is) m.importers (recursion_from_All IsNamedImporter l.importers m.importers_named) in
    record {
      importers = subst (λ (is : List LockImporter). AllByRecursion (IsImporter l) is) (sym m.importers)
          (importers_kept l m.ranks (length i.roots) (length i.packages) places i.roots inst.roots 0 a.projects b.folders asked.projects b.apart named);
      packages = packages_kept (length p.projects) (length p.packages) integrities p.packages l.packages graph.packages m.packages m.packages_named;
      snapshots = snapshots_kept l m.ranks (length i.roots) (length i.packages) places p.packages i.packages i.links inst.links (id_locked integrities p.packages l.packages m.packages) m.passed m.passed_are paths b.instances
          l.snapshots m.snapshots m.snapshots_named;
      catalogs = recursion_from_All (λ (e : LockCatalog). is_name e.name ≡ true) l.catalogs m.catalogs_named;
      catalogs_rise = rising.catalogs;
      entries_rise = rising.entries;
      overrides_rise = subst Rises (sym (ap (map (λ (o : Override). o.selector)) m.overrides ∙ selectors a.overrides)) asked.overrides;
      importers_rise = subst Rises (sym (ap folders_of m.importers ∙ importer_folders m.ranks i.roots 0 a.projects)) asked.folders;
      packages_rise = ids_rise integrities p.packages l.packages graph.ids m.packages m.packages_sorted;
      snapshots_rise = paths_rise paths l.snapshots b.paths_once order m.snapshots_sorted;
      importers_few = omega (arith, projects, few_roots);
      snapshots_few = omega (arith, many, mapped, counted, few);
    }

pub is_made : (a : AskedLists) (p : Plain) (i : Instances) (paths integrities : List (List ℕ)) (l : Locked) → Belongs a p i paths integrities → AreParts a p i paths integrities l → IsMade a p i paths integrities l
is_made a p i paths integrities l b m =
    let order = paths_order p.packages i.packages i.links m.ranks m.passed paths l.snapshots m.snapshots in
    let same : m.keys ≡ paths_of l.snapshots = one_order paths m.keys (paths_of l.snapshots) m.keys_same order m.keys_rise (paths_rise paths l.snapshots b.paths_once order m.snapshots_sorted) in
    let ranks : m.ranks ≡ ranks_of (paths_of l.snapshots) paths = m.ranks_are ∙ ap (λ (ks : List (List ℕ)). ranks_of ks paths) same in
    record {
      auto = m.auto;
      catalogs = m.catalogs;
      overrides = m.overrides;
      importers = m.importers ∙ ap (λ (rs : List ℕ). importers_from rs i.roots 0 a.projects) ranks;
      packages = m.packages;
      snapshots = record {
        passed = m.passed;
        passed_are = m.passed_are;
        all = subst (λ (rs : List ℕ). IsPermutation (snapshots_from p.packages i.packages i.links rs m.passed 0 paths) l.snapshots) ranks m.snapshots;
      };
    }

-- ---- what the parts ask

pub few_keys : (i : Instances) (paths keys slice : List (List ℕ)) → length paths ≡ length i.packages → IsPermutation paths keys → slice ≡ keys → length slice < 2 ^ 32
few_keys i paths keys slice count same is =
    let few : length i.packages < 2 ^ 32 = (instances_kept i.packages i.links i.roots i.right).few in
    let many : length keys ≡ length paths = length_permutation paths keys same in
    let these : length slice ≡ length keys = ap length is in
    omega (arith, few, many, these, count)

pub ranked_roots : (i : Instances) (paths keys : List (List ℕ)) (ranks slice : List ℕ) (roots : List (List Link)) → length paths ≡ length i.packages → ranks ≡ ranks_of keys paths → slice ≡ ranks → roots ≡ i.roots
    → All (AreRanked (length slice)) roots
ranked_roots i paths keys ranks slice roots count is same these =
    let inst = instances_kept i.packages i.links i.roots i.right in
    subst (λ (ls : List (List Link)). All (AreRanked (length slice)) ls) (sym these)
    (ranked (length i.roots) (length i.packages) (length slice) i.roots inst.roots (ap length same ∙ ap length is ∙ length-map paths (rank keys) ∙ count))
