-- What stays of a lock is a lock.
use Rattle.std.proofs.Common.{◌≡◌, ◌<◌, ◌≤◌, ◌^◌, ◌+◌, ℕ, zero, suc, Bool, true, false, not, cond, List, [], ◌∷◌, ◌++◌, length, map, get_or, Some, Option, nat_cmp, inl, inr, refl, sym, ap, ◌∙◌, subst, arith}
use Rattle.std.specs.Prelude.{◌||◌, ◌&&◌, bytes_eq, slice_get}
use Rattle.std.specs.Cmp.Lexicographic.{slice_cmp}
use Rattle.std.specs.List.{AllByRecursion, Contains, filter}
use Rattle.std.specs.List.Sorted.{IsStrictlySortedBy}
use Rattle.std.specs.declared.cmp.Ordering.TheVariants.{Less}
use Rattle.std.proofs.lemmas.Bool.{cases_Bool}
use Rattle.std.proofs.lemmas.List.{length-map}
use Rattle.std.proofs.lemmas.List.Elements.{Contains-append_left, Contains-append_right}
use Rattle.std.proofs.lemmas.Slice.Eq.{bytes_eq-Decides}
use Rattle.pn_text.proofs.Bools.{or_true}
use Rattle.pn_text.proofs.Members.{here}
use Rattle.pn_text.specs.Ids.{id_name}
use Rattle.pn_text.specs.Name.{is_name}
use Rattle.pn_deppath.specs.Paths.{id_part}
use Rattle.pn_lock.specs.declared.goal.LockGoal.{LockGoal}
use Rattle.pn_lock.specs.declared.goal.LockGoal.TheVariants as goal
use Rattle.pn_lock.specs.declared.lists.LockCatalog.{LockCatalog}
use Rattle.pn_lock.specs.declared.lists.LockDependency.{LockDependency}
use Rattle.pn_lock.specs.declared.lists.LockImporter.{LockImporter}
use Rattle.pn_lock.specs.declared.lists.LockLink.{LockLink}
use Rattle.pn_lock.specs.declared.lists.LockPackage.{LockPackage}
use Rattle.pn_lock.specs.declared.lists.LockSnapshot.{LockSnapshot}
use Rattle.pn_lock.specs.declared.lists.Override.{Override}
use Rattle.pn_lock.specs.Kept.{InRange, IsDependency, IsImporter, IsLink, IsLock, IsPackage, IsSnapshot, NoneOf, Rises, is_in}
use Rattle.pn_lock.specs.Locks.{Group, Locked, aliases_of, folders_of, groups_of, ids_of, links_of, paths_of}
use Rattle.pn_lock.proofs.KeptLemmas.{itself}
use Rattle.pn_lock_prod.specs.Kept.{has_any, has_marked, new_dependency, new_goal, new_importer, new_link, new_snapshot, new_snapshots, numbers_from, stays}
use Rattle.pn_lock_prod.specs.Production.{IsProduction}
use Rattle.pn_lock_prod.specs.Targets.{dependency_targets, goal_targets, kept_targets, link_targets, or_none, snapshot_targets}
use Rattle.pn_lock_prod.specs.Walks.{first, next}
use Rattle.pn_lock_prod.proofs.ListLemmas.{not_in_front, some_all, some_rise, weaker}

-- ---- new places

pub numbers_count : (n : ℕ) (bs : List Bool) → length (numbers_from n bs) ≡ length bs
numbers_count n [] = refl
numbers_count n (b ∷ bs) = ap suc (numbers_count (cond b (suc n) n) bs)

low_number : (numbers : List ℕ) (n : ℕ) (bs : List Bool) (ss : List LockSnapshot) (k : ℕ) → length bs ≡ length ss → get_or bs k false ≡ true → get_or (numbers_from n bs) k 0 < n + length (new_snapshots numbers bs ss)
low_number numbers n [] ss k same e = absurd (none k e) where
  none : (k : ℕ) → get_or [] k false ≡ true → ⊥
  none k e = cc e
low_number numbers n (b ∷ bs) [] k same e = absurd (omega (arith, same))
low_number numbers n (true ∷ bs) (s ∷ ss) zero same e = omega arith
low_number numbers n (false ∷ bs) (s ∷ ss) zero same e = absurd (cc e)
low_number numbers n (true ∷ bs) (s ∷ ss) (suc k) same e =
    let rest : get_or (numbers_from (suc n) bs) k 0 < suc n + length (new_snapshots numbers bs ss) = low_number numbers (suc n) bs ss k (omega (arith, same)) e in
    omega (arith, rest)
low_number numbers n (false ∷ bs) (s ∷ ss) (suc k) same e = low_number numbers n bs ss k (omega (arith, same)) e

few_new : (numbers : List ℕ) (bs : List Bool) (ss : List LockSnapshot) → length (new_snapshots numbers bs ss) ≤ length ss
few_new numbers bs [] = omega arith
few_new numbers [] (s ∷ ss) = omega arith
few_new numbers (true ∷ bs) (s ∷ ss) = let rest : length (new_snapshots numbers bs ss) ≤ length ss = few_new numbers bs ss in omega (arith, rest)
few_new numbers (false ∷ bs) (s ∷ ss) = let rest : length (new_snapshots numbers bs ss) ≤ length ss = few_new numbers bs ss in omega (arith, rest)

-- The old lock has as many projects as the new one, and each marked snapshot has a place there.
record HasNewPlaces (l new : Locked) (marks : List Bool) (numbers : List ℕ) : Type 0 where
  importers : length new.importers ≡ length l.importers
  numbered : (k : ℕ) → get_or marks k false ≡ true → get_or numbers k 0 < length new.snapshots

abbrev AreMarked : List Bool → List ℕ → Type 0
AreMarked marks targets = (k : ℕ) → Contains targets k → get_or marks k false ≡ true

goal_kept : (l new : Locked) (marks : List Bool) (numbers : List ℕ) → HasNewPlaces l new marks numbers → (to : LockGoal) → InRange l to → AreMarked marks (goal_targets to) → InRange new (new_goal numbers to)
goal_kept l new marks numbers h (goal.Importer q) r m = subst (λ (n : ℕ). q < n) (sym h.importers) r
goal_kept l new marks numbers h (goal.Snapshot k) r m = h.numbered k (m k (here k []))

deps_kept : (l new : Locked) (marks : List Bool) (numbers : List ℕ) → HasNewPlaces l new marks numbers → (ds : List LockDependency) → AllByRecursion (IsDependency l) ds → AreMarked marks (dependency_targets ds)
    → AllByRecursion (IsDependency new) (map (new_dependency numbers) ds)
deps_kept l new marks numbers h [] a m = tt
deps_kept l new marks numbers h (d ∷ ds) a m = (
  record { name = a.0.name; range = goal_kept l new marks numbers h d.to a.0.range (λ k c. m k (Contains-append_left (goal_targets d.to) (dependency_targets ds) k c)) },
  deps_kept l new marks numbers h ds a.1 (λ k c. m k (Contains-append_right (goal_targets d.to) (dependency_targets ds) k c)),
)

links_kept : (l new : Locked) (marks : List Bool) (numbers : List ℕ) → HasNewPlaces l new marks numbers → (own : List ℕ) (ls : List LockLink) → AllByRecursion (IsLink l own) ls → AreMarked marks (link_targets ls)
    → AllByRecursion (IsLink new own) (map (new_link numbers) ls)
links_kept l new marks numbers h own [] a m = tt
links_kept l new marks numbers h own (x ∷ ls) a m = (
  record { name = a.0.name; range = goal_kept l new marks numbers h x.to a.0.range (λ k c. m k (Contains-append_left (goal_targets x.to) (link_targets ls) k c)); other = a.0.other },
  links_kept l new marks numbers h own ls a.1 (λ k c. m k (Contains-append_right (goal_targets x.to) (link_targets ls) k c)),
)

same_aliases : (numbers : List ℕ) (ds : List LockDependency) → aliases_of (map (new_dependency numbers) ds) ≡ aliases_of ds
same_aliases numbers [] = refl
same_aliases numbers (d ∷ ds) = ap (λ (ks : List (List ℕ)). d.alias ∷ ks) (same_aliases numbers ds)

same_links : (numbers : List ℕ) (ls : List LockLink) → links_of (map (new_link numbers) ls) ≡ links_of ls
same_links numbers [] = refl
same_links numbers (x ∷ ls) = ap (λ (ks : List (List ℕ)). x.alias ∷ ks) (same_links numbers ls)

nothing_rises : Rises []
unfolding IsStrictlySortedBy
nothing_rises = tt

-- ---- projects

importer_kept : (l new : Locked) (marks : List Bool) (numbers : List ℕ) → HasNewPlaces l new marks numbers → (i : LockImporter) → IsImporter l i → AreMarked marks (dependency_targets i.dependencies ++ dependency_targets i.optional)
    → IsImporter new (new_importer numbers i)
importer_kept l new marks numbers h i a m =
    let ds = same_aliases numbers i.dependencies in
    let os = same_aliases numbers i.optional in
    let apart = weaker (λ k. is_in (aliases_of i.dependencies ++ aliases_of i.dev) k ≡ false) (λ k. is_in (aliases_of i.dependencies ++ []) k ≡ false) (aliases_of i.optional)
    (λ k e. not_in_front k (aliases_of i.dependencies) (aliases_of i.dev) e) a.optional_apart in
    record {
      folder = a.folder;
      dependencies = deps_kept l new marks numbers h i.dependencies a.dependencies (λ k c. m k (Contains-append_left (dependency_targets i.dependencies) (dependency_targets i.optional) k c));
      dev = tt;
      optional = deps_kept l new marks numbers h i.optional a.optional (λ k c. m k (Contains-append_right (dependency_targets i.dependencies) (dependency_targets i.optional) k c));
      dependencies_rise = subst Rises (sym ds) a.dependencies_rise;
      dev_rise = nothing_rises;
      optional_rise = subst Rises (sym os) a.optional_rise;
      dev_apart = tt;
      optional_apart = subst (λ (ks : List (List ℕ)). NoneOf (ks ++ []) (aliases_of (map (new_dependency numbers) i.optional))) (sym ds)
          (subst (λ (ks : List (List ℕ)). NoneOf (aliases_of i.dependencies ++ []) ks) (sym os) apart);
    }

importers_kept : (l new : Locked) (marks : List Bool) (numbers : List ℕ) → HasNewPlaces l new marks numbers → (is : List LockImporter) → AllByRecursion (IsImporter l) is → AreMarked marks (kept_targets is)
    → AllByRecursion (IsImporter new) (map (new_importer numbers) is)
importers_kept l new marks numbers h [] a m = tt
importers_kept l new marks numbers h (i ∷ is) a m =
    let own = dependency_targets i.dependencies ++ dependency_targets i.optional in (
      importer_kept l new marks numbers h i a.0 (λ k c. m k (Contains-append_left own (kept_targets is) k c)),
      importers_kept l new marks numbers h is a.1 (λ k c. m k (Contains-append_right own (kept_targets is) k c)),
    )

same_folders : (numbers : List ℕ) (is : List LockImporter) → folders_of (map (new_importer numbers) is) ≡ folders_of is
same_folders numbers [] = refl
same_folders numbers (i ∷ is) = ap (λ (fs : List (List ℕ)). i.folder ∷ fs) (same_folders numbers is)

-- ---- packages

package_found : (marks : List Bool) (ss : List LockSnapshot) (ps : List LockPackage) (id : List ℕ) → is_in (ids_of ps) id ≡ true → has_marked id marks ss ≡ true → is_in (ids_of (filter (stays marks ss) ps)) id ≡ true
package_found marks ss [] id e m = absurd (cc e)
package_found marks ss (p ∷ ps) id e m = elim (cases_Bool (bytes_eq p.id id)) [
  | inl at ↦
      let good : stays marks ss p ≡ true = ap (λ o. o || not (has_any p.id ss)) (ap (λ (i : List ℕ). has_marked i marks ss) ((bytes_eq-Decides p.id id).0 at) ∙ m) in
      ap (λ o. is_in (ids_of (cond o (p ∷ filter (stays marks ss) ps) (filter (stays marks ss) ps))) id) good ∙ ap (λ o. o || is_in (ids_of (filter (stays marks ss) ps)) id) at
  | inr away ↦
      let rest = package_found marks ss ps id (sym (ap (λ o. o || is_in (ids_of ps) id) away) ∙ e) m in
      (elim (stays marks ss p) as (λ o. is_in (ids_of (cond o (p ∷ filter (stays marks ss) ps) (filter (stays marks ss) ps))) id ≡ true) [
        | true ↦ ap (λ o. bytes_eq p.id id || o) rest ∙ or_true (bytes_eq p.id id)
        | false ↦ rest
      ])
]

marked_found : (bs : List Bool) (ss : List LockSnapshot) (j : ℕ) (s : LockSnapshot) → get_or bs j false ≡ true → slice_get ss j ≡ Some s → has_marked (id_part s.path) bs ss ≡ true
marked_found bs [] j s e f = absurd (cc f)
marked_found [] (x ∷ ss) j s e f = absurd (cc e)
marked_found (b ∷ bs) (x ∷ ss) zero s e f =
    let same : x ≡ s = cc in
    ap (λ o. (o && bytes_eq (id_part x.path) (id_part s.path)) || has_marked (id_part s.path) bs ss) e
    ∙ ap (λ (y : LockSnapshot). bytes_eq (id_part y.path) (id_part s.path) || has_marked (id_part s.path) bs ss) same ∙ ap (λ o. o || has_marked (id_part s.path) bs ss) (itself (id_part s.path))
marked_found (b ∷ bs) (x ∷ ss) (suc j) s e f =
    ap (λ o. (b && bytes_eq (id_part x.path) (id_part s.path)) || o) (marked_found bs ss j s e f) ∙ or_true (b && bytes_eq (id_part x.path) (id_part s.path))

-- ---- snapshots

record IsGood (new : Locked) (marks : List Bool) (s : LockSnapshot) : Type 0 where
  locked : is_in (ids_of new.packages) (id_part s.path) ≡ true
  marked : AreMarked marks (snapshot_targets s)

snapshot_kept : (l new : Locked) (marks : List Bool) (numbers : List ℕ) → HasNewPlaces l new marks numbers → (s : LockSnapshot) → IsSnapshot l s → IsGood new marks s → IsSnapshot new (new_snapshot numbers s)
snapshot_kept l new marks numbers h s a g =
    let own = id_name (id_part s.path) in
    let ds = same_links numbers s.dependencies in
    let os = same_links numbers s.optional in
    record {
      path = a.path;
      locked = g.locked;
      dependencies = links_kept l new marks numbers h own s.dependencies a.dependencies (λ k c. g.marked k (Contains-append_left (link_targets s.dependencies) (link_targets s.optional) k c));
      optional = links_kept l new marks numbers h own s.optional a.optional (λ k c. g.marked k (Contains-append_right (link_targets s.dependencies) (link_targets s.optional) k c));
      transitive = a.transitive;
      dependencies_rise = subst Rises (sym ds) a.dependencies_rise;
      optional_rise = subst Rises (sym os) a.optional_rise;
      transitive_rise = a.transitive_rise;
      optional_apart = subst (λ (ks : List (List ℕ)). NoneOf ks (links_of (map (new_link numbers) s.optional))) (sym ds)
          (subst (λ (ks : List (List ℕ)). NoneOf (links_of s.dependencies) ks) (sym os) a.optional_apart);
    }

snapshots_kept : (l new : Locked) (marks : List Bool) (numbers : List ℕ) → HasNewPlaces l new marks numbers → (bs : List Bool) (ss : List LockSnapshot) → AllByRecursion (IsSnapshot l) ss
    → ((j : ℕ) (s : LockSnapshot) → get_or bs j false ≡ true → slice_get ss j ≡ Some s → IsGood new marks s) → AllByRecursion (IsSnapshot new) (new_snapshots numbers bs ss)
snapshots_kept l new marks numbers h bs [] a g = tt
snapshots_kept l new marks numbers h [] (s ∷ ss) a g = tt
snapshots_kept l new marks numbers h (true ∷ bs) (s ∷ ss) a g =
    (snapshot_kept l new marks numbers h s a.0 (g 0 s refl refl), snapshots_kept l new marks numbers h bs ss a.1 (λ j t e f. g (suc j) t e f))
snapshots_kept l new marks numbers h (false ∷ bs) (s ∷ ss) a g = snapshots_kept l new marks numbers h bs ss a.1 (λ j t e f. g (suc j) t e f)

paths_all : (P : List ℕ → Type 0) (numbers : List ℕ) (bs : List Bool) (ss : List LockSnapshot) → AllByRecursion P (paths_of ss) → AllByRecursion P (paths_of (new_snapshots numbers bs ss))
paths_all P numbers bs [] a = tt
paths_all P numbers [] (s ∷ ss) a = tt
paths_all P numbers (true ∷ bs) (s ∷ ss) a = (a.0, paths_all P numbers bs ss a.1)
paths_all P numbers (false ∷ bs) (s ∷ ss) a = paths_all P numbers bs ss a.1

paths_rise : (numbers : List ℕ) (bs : List Bool) (ss : List LockSnapshot) → Rises (paths_of ss) → Rises (paths_of (new_snapshots numbers bs ss))
unfolding IsStrictlySortedBy
paths_rise numbers bs [] a = tt
paths_rise numbers [] (s ∷ ss) a = tt
paths_rise numbers (true ∷ bs) (s ∷ ss) a = (paths_all (λ y. slice_cmp nat_cmp s.path y ≡ Less) numbers bs ss a.0, paths_rise numbers bs ss a.1)
paths_rise numbers (false ∷ bs) (s ∷ ss) a = paths_rise numbers bs ss a.1

-- ---- the whole

at_place : {A : Type 0} (P : A → Type 0) (xs : List A) (n : ℕ) (x : A) → AllByRecursion P xs → slice_get xs n ≡ Some x → P x
at_place P [] n x h e = absurd (cc e)
at_place P (y ∷ xs) zero x h e = let same : y ≡ x = cc in subst P same h.0
at_place P (y ∷ xs) (suc n) x h e = at_place P xs n x h.1 e

pub is_lock : (l new : Locked) → IsLock l → IsProduction l new → IsLock new
is_lock l new h p =
    let numbers = numbers_from 0 p.marks in
    let counted : length p.marks ≡ length l.snapshots = p.marks_are.count_is in
    let importers : length new.importers ≡ length l.importers = ap length p.importers ∙ length-map l.importers (new_importer numbers) in
    let places : HasNewPlaces l new p.marks numbers = record {
      importers = importers;
      numbered = λ k e.
          let low : get_or numbers k 0 < 0 + length (new_snapshots numbers p.marks l.snapshots) = low_number numbers 0 p.marks l.snapshots k counted e in
          let same : length new.snapshots ≡ length (new_snapshots numbers p.marks l.snapshots) = ap length p.snapshots in
          omega (arith, low, same);
    } in
    let starts : AreMarked p.marks (kept_targets l.importers) = λ k c. p.marks_are.all k (first k (inl c)) in
    let good : (j : ℕ) (s : LockSnapshot) → get_or p.marks j false ≡ true → slice_get l.snapshots j ≡ Some s → IsGood new p.marks s = λ j s e f. record {
      locked = ap (λ (ps : List LockPackage). is_in (ids_of ps) (id_part s.path)) p.packages
          ∙ package_found p.marks l.snapshots l.packages (id_part s.path) (at_place (IsSnapshot l) l.snapshots j s h.snapshots f).locked (marked_found p.marks l.snapshots j s e f);
      marked = λ k c. p.marks_are.all k (next j k (p.marks_are.right j e) (subst (λ (o : Option LockSnapshot). Contains (or_none o) k) (sym f) c));
    } in
    let few_old : length l.snapshots < 2 ^ 32 = h.snapshots_few in
    let few_projects : length l.importers < 2 ^ 32 = h.importers_few in
    let less : length (new_snapshots numbers p.marks l.snapshots) ≤ length l.snapshots = few_new numbers p.marks l.snapshots in
    let snapshots : length new.snapshots ≡ length (new_snapshots numbers p.marks l.snapshots) = ap length p.snapshots in
    record {
      importers = subst (λ (is : List LockImporter). AllByRecursion (IsImporter new) is) (sym p.importers) (importers_kept l new p.marks numbers places l.importers h.importers starts);
      packages = subst (λ (ps : List LockPackage). AllByRecursion IsPackage ps) (sym p.packages) (some_all IsPackage (stays p.marks l.snapshots) l.packages h.packages);
      snapshots = subst (λ (ss : List LockSnapshot). AllByRecursion (IsSnapshot new) ss) (sym p.snapshots) (snapshots_kept l new p.marks numbers places p.marks l.snapshots h.snapshots good);
      catalogs = subst (λ (es : List LockCatalog). AllByRecursion (λ (e : LockCatalog). is_name e.name ≡ true) es) (sym p.catalogs) h.catalogs;
      catalogs_rise = subst (λ (es : List LockCatalog). Rises (map (λ (g : Group). g.0) (groups_of es))) (sym p.catalogs) h.catalogs_rise;
      entries_rise = subst (λ (es : List LockCatalog). AllByRecursion (λ (g : Group). Rises (map (λ (e : LockCatalog). e.name) g.1)) (groups_of es)) (sym p.catalogs) h.entries_rise;
      overrides_rise = subst (λ (os : List Override). Rises (map (λ (o : Override). o.selector) os)) (sym p.overrides) h.overrides_rise;
      importers_rise = subst Rises (sym (ap folders_of p.importers ∙ same_folders numbers l.importers)) h.importers_rise;
      packages_rise = subst (λ (ps : List LockPackage). Rises (ids_of ps)) (sym p.packages) (some_rise (λ (q : LockPackage). q.id) (stays p.marks l.snapshots) l.packages h.packages_rise);
      snapshots_rise = subst (λ (ss : List LockSnapshot). Rises (paths_of ss)) (sym p.snapshots) (paths_rise numbers p.marks l.snapshots h.snapshots_rise);
      importers_few = omega (arith, importers, few_projects);
      snapshots_few = omega (arith, snapshots, less, few_old);
    }
