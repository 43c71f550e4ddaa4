-- A lock fits what it was made of.
use Rattle.std.proofs.Common.{◌≡◌, ◌+◌, ℕ, zero, suc, true, false, cond, List, [], ◌∷◌, ◌++◌, map, Some, None, Option, nat_cmp, inl, inr, refl, sym, ap, ◌∙◌, subst, arith}
use Rattle.std.specs.Prelude.{◌||◌, ◌⊎◌, bytes_eq, is_some, slice_get}
use Rattle.std.specs.Cmp.Lexicographic.{slice_cmp}
use Rattle.std.specs.List.{AllByRecursion}
use Rattle.std.specs.List.Sorted.{IsStrictlySortedBy}
use Rattle.std.specs.declared.cmp.Ordering.TheVariants.{Less}
use Rattle.std.proofs.lemmas.Bool.{cases_Bool}
use Rattle.std.proofs.lemmas.Slice.Eq.{bytes_eq-Decides}
use Rattle.std.specs.Cmp.Derive.{both_true}
use Rattle.pn_text.proofs.Bools.{and_left, and_right}
use Rattle.pn_spec.specs.declared.entry.CatalogEntry.{CatalogEntry}
use Rattle.pn_lock.specs.declared.lists.LockCatalog.{LockCatalog}
use Rattle.pn_lock.specs.declared.lists.LockImporter.{LockImporter}
use Rattle.pn_lock.specs.Kept.{Rises}
use Rattle.pn_lock.specs.Locks.{Locked, folders_of, paths_of}
use Rattle.pn_lock.proofs.KeptLemmas.{all_map, itself, less_other}
use Rattle.pn_asked.specs.declared.asked.AskedProject.{AskedProject}
use Rattle.pn_asked.specs.declared.spots.Spot.{Spot}
use Rattle.pn_asked.specs.Asked.{AskedLists, IsAsked, project_folders}
use Rattle.pn_asked.specs.Differences.{first_of, has_alias, override_rows, project_at, rows_of}
use Rattle.pn_asked.specs.Fits.{FitsFound, FitsProject}
use Rattle.pn_asked.specs.Rows.{Row, at_key, is_in, keys}
use Rattle.pn_asked.specs.Spots.{asked_at, both_have, catalog_named, fits_at, is_at, locked_at, locked_spots, project_spots, spot, spots_in, spots_of, with_spot}
use Rattle.pn_asked.proofs.FitsLemmas.{law}
use Rattle.pn_graph.specs.declared.plain.Plain.{Plain}
use Rattle.pn_instances.specs.declared.goal.Goal.{Goal}
use Rattle.pn_instances.specs.declared.instances.Instances.{Instances}
use Rattle.pn_instances.specs.declared.links.Link.{Link}
use Rattle.pn_instances.specs.Lookups.{goal_at, links_at}
use Rattle.pn_lock_make.specs.declared.catalogs.Use.{Use}
use Rattle.pn_lock_make.specs.Entries.{entries_of, entry_of, used_at, uses_of}
use Rattle.pn_lock_make.specs.Importers.{dependencies_of, dependency_of, importer_of, importers_from}
use Rattle.pn_lock_make.specs.Made.{AreLed, AreResolved, IsMade, IsResolved, override_of}
use Rattle.pn_lock_make.specs.Targets.{ranks_of}
use Rattle.pn_lock_make.proofs.EntryLemmas.{entries_all}
use Rattle.pn_lock_make.proofs.ImporterLemmas.{importer_folders}
use Rattle.pn_lock_make.proofs.ListLemmas.{at_place, both_weaker, joined, split_left, split_right, weaker}

-- ---- overrides

same_overrides : (rows : List Row) → override_rows (map override_of rows) ≡ rows
same_overrides [] = refl
same_overrides (r ∷ rows) = ap (λ (rs : List Row). r ∷ rs) (same_overrides rows)

-- ---- catalogs

abbrev IsUsed : List Use → Spot → Type 0
IsUsed uses s = is_some (used_at s.catalog s.name uses) ≡ true

not_none : (o : Option (List ℕ)) → o ≡ None → is_some o ≡ true → ⊥
not_none o e h = let no : false ≡ true = sym (ap is_some e) ∙ h in cc no

same_used : (uses : List Use) (s : Spot) (e : CatalogEntry) → is_at s e.catalog e.name ≡ true → used_at s.catalog s.name uses ≡ used_at e.catalog e.name uses
same_used uses s e h =
    ap (λ (c : List ℕ). used_at c s.name uses) ((bytes_eq-Decides s.catalog e.catalog).0 (and_left (bytes_eq s.catalog e.catalog) (bytes_eq s.name e.name) h))
    ∙ ap (λ (n : List ℕ). used_at e.catalog n uses) ((bytes_eq-Decides s.name e.name).0 (and_right (bytes_eq s.catalog e.catalog) (bytes_eq s.name e.name) h))

-- an entry that is used has one specifier on both sides
same_at : (uses : List Use) (s : Spot) → IsUsed uses s → (es : List CatalogEntry) → locked_at s (entries_of uses es) ≡ asked_at s es
same_at uses s h [] = refl
same_at uses s h (e ∷ es) = elim (used_at e.catalog e.name uses) as (λ o. used_at e.catalog e.name uses ≡ o → locked_at s (entry_of e o ++ entries_of uses es) ≡ cond (is_at s e.catalog e.name) (Some e.text) (asked_at s es)) [
  | None ↦ λ none. elim (cases_Bool (is_at s e.catalog e.name)) [
    | inl at ↦ absurd (not_none (used_at s.catalog s.name uses) (same_used uses s e at ∙ none) h)
    | inr away ↦ same_at uses s h es ∙ sym (ap (λ b. cond b (Some e.text) (asked_at s es)) away)
  ]
  | Some v ↦ λ some. ap (λ o. cond (is_at s e.catalog e.name) (Some e.text) o) (same_at uses s h es)
] refl

both_same : (o : Option (List ℕ)) → is_some o ≡ true → both_have o o ≡ true
both_same None h = absurd (cc h)
both_same (Some t) h = itself t

fits_one : (uses : List Use) (es : List CatalogEntry) (s : Spot) → IsUsed uses s → is_some (asked_at s es) ≡ true → fits_at (entries_of uses es) es s ≡ true
fits_one uses es s u a = ap (λ o. both_have o (asked_at s es)) (same_at uses s u es) ∙ both_same (asked_at s es) a

used_all : (uses : List Use) (es : List CatalogEntry) → AllByRecursion (λ (f : LockCatalog). IsUsed uses (spot f.catalog f.name)) (entries_of uses es)
used_all uses [] = tt
used_all uses (e ∷ es) = elim (used_at e.catalog e.name uses) as (λ o. used_at e.catalog e.name uses ≡ o → AllByRecursion (λ (f : LockCatalog). IsUsed uses (spot f.catalog f.name)) (entry_of e o ++ entries_of uses es)) [
  | None ↦ λ none. used_all uses es
  | Some v ↦ λ some. (ap is_some some, used_all uses es)
] refl

one_more_asked : (s : Spot) (e : CatalogEntry) (es : List CatalogEntry) → is_some (asked_at s es) ≡ true → is_some (asked_at s (e ∷ es)) ≡ true
one_more_asked s e es h = elim (is_at s e.catalog e.name) as (λ b. is_some (cond b (Some e.text) (asked_at s es)) ≡ true) [ true ↦ refl | false ↦ h ]

first_asked : (e : CatalogEntry) (es : List CatalogEntry) → is_some (asked_at (spot e.catalog e.name) (e ∷ es)) ≡ true
first_asked e es = ap (λ b. is_some (cond b (Some e.text) (asked_at (spot e.catalog e.name) es))) (both_true (itself e.catalog) (itself e.name))

asked_all : (es : List CatalogEntry) → AllByRecursion (λ (e : CatalogEntry). is_some (asked_at (spot e.catalog e.name) es) ≡ true) es
asked_all [] = tt
asked_all (e ∷ es) = (
  first_asked e es,
  weaker (λ (f : CatalogEntry). is_some (asked_at (spot f.catalog f.name) es) ≡ true) (λ (f : CatalogEntry). is_some (asked_at (spot f.catalog f.name) (e ∷ es)) ≡ true) es
      (λ f h. one_more_asked (spot f.catalog f.name) e es h) (asked_all es),
)

entries_fit : (uses : List Use) (es : List CatalogEntry) → AllByRecursion (λ s. fits_at (entries_of uses es) es s ≡ true) (locked_spots (entries_of uses es))
entries_fit uses es =
    all_map (λ s. fits_at (entries_of uses es) es s ≡ true) (λ (f : LockCatalog). spot f.catalog f.name) (entries_of uses es)
    (both_weaker (λ (f : LockCatalog). IsUsed uses (spot f.catalog f.name)) (λ (f : LockCatalog). is_some (asked_at (spot f.catalog f.name) es) ≡ true)
    (λ (f : LockCatalog). fits_at (entries_of uses es) es (spot f.catalog f.name) ≡ true) (entries_of uses es)
    (λ f u a. fits_one uses es (spot f.catalog f.name) u a) (used_all uses es)
    (entries_all (λ (e : CatalogEntry). is_some (asked_at (spot e.catalog e.name) es) ≡ true) (λ (f : LockCatalog). is_some (asked_at (spot f.catalog f.name) es) ≡ true) uses es (λ e v h. h) (asked_all es)))

-- ---- each project of a lock

each_importer : (P : LockImporter → Type 0) (ranks : List ℕ) (roots : List (List Link)) (n : ℕ) (qs : List AskedProject)
    → ((m : ℕ) (q : AskedProject) → slice_get qs m ≡ Some q → P (importer_of ranks (links_at roots (m + n)) q)) → AllByRecursion P (importers_from ranks roots n qs)
each_importer P ranks roots n [] f = tt
each_importer P ranks roots n (q ∷ qs) f =
    let first : 0 + n ≡ n = omega arith in (
      subst (λ (j : ℕ). P (importer_of ranks (links_at roots j) q)) first (f 0 q refl),
      each_importer P ranks roots (suc n) qs (λ m r e. let next : suc m + n ≡ m + suc n = omega arith in subst (λ (j : ℕ). P (importer_of ranks (links_at roots j) r)) next (f (suc m) r e)),
    )

-- ---- the entries that specifiers name

row_spots : (P : Spot → Type 0) (ranks : List ℕ) (links : List Link) (rows : List Row) → AllByRecursion (λ (r : Row). is_some (goal_at r.0 links) ≡ true → (c : List ℕ) → catalog_named r.1 ≡ Some c → P (spot c r.0)) rows
    → AllByRecursion P (spots_in (dependencies_of ranks links rows))
row_spots P ranks links [] h = tt
row_spots P ranks links (r ∷ rows) h = elim (goal_at r.0 links) as (λ o. (is_some o ≡ true → (c : List ℕ) → catalog_named r.1 ≡ Some c → P (spot c r.0)) → AllByRecursion P (spots_in (dependency_of ranks r o ++ dependencies_of ranks links rows))) [
  | None ↦ λ own. row_spots P ranks links rows h.1
  | Some to ↦ λ own. elim (catalog_named r.1) as (λ o. catalog_named r.1 ≡ o → AllByRecursion P (with_spot r.0 o (spots_in (dependencies_of ranks links rows)))) [
    | None ↦ λ e. row_spots P ranks links rows h.1
    | Some c ↦ λ e. (own refl c e, row_spots P ranks links rows h.1)
  ] refl
] h.0

all_spots : (P : Spot → Type 0) (is : List LockImporter) → AllByRecursion (λ (i : LockImporter). AllByRecursion P (project_spots i)) is → AllByRecursion P (spots_of is)
all_spots P [] h = tt
all_spots P (i ∷ is) h = joined P (project_spots i) (spots_of is) h.0 (all_spots P is h.1)

abbrev IsNamedRow : (Spot → Type 0) → List Link → Row → Type 0
IsNamedRow P links r = is_some (goal_at r.0 links) ≡ true → (c : List ℕ) → catalog_named r.1 ≡ Some c → P (spot c r.0)

importer_spots : (P : Spot → Type 0) (ranks : List ℕ) (links : List Link) (q : AskedProject) → AllByRecursion (IsNamedRow P links) (q.dependencies ++ (q.dev ++ q.optional)) → AllByRecursion P (project_spots (importer_of ranks links q))
importer_spots P ranks links q h =
    let rest = split_right (IsNamedRow P links) q.dependencies (q.dev ++ q.optional) h in
    joined P (spots_in (dependencies_of ranks links q.dependencies)) (spots_in (dependencies_of ranks links q.dev) ++ spots_in (dependencies_of ranks links q.optional))
    (row_spots P ranks links q.dependencies (split_left (IsNamedRow P links) q.dependencies (q.dev ++ q.optional) h))
    (joined P (spots_in (dependencies_of ranks links q.dev)) (spots_in (dependencies_of ranks links q.optional))
    (row_spots P ranks links q.dev (split_left (IsNamedRow P links) q.dev q.optional rest)) (row_spots P ranks links q.optional (split_right (IsNamedRow P links) q.dev q.optional rest)))

named_fit : (a : AskedLists) (p : Plain) (i : Instances) (ranks : List ℕ) → AreResolved a p i.roots
    → AllByRecursion (λ s. fits_at (entries_of (uses_of p.projects p.packages) a.catalogs) a.catalogs s ≡ true) (spots_of (importers_from ranks i.roots 0 a.projects))
named_fit a p i ranks r =
    let uses = uses_of p.projects p.packages in
    let P : Spot → Type 0 = λ s. fits_at (entries_of uses a.catalogs) a.catalogs s ≡ true in
    all_spots P (importers_from ranks i.roots 0 a.projects) (each_importer (λ (i : LockImporter). AllByRecursion P (project_spots i)) ranks i.roots 0 a.projects (λ m q e.
    let same : m + 0 ≡ m = omega arith in
    subst (λ (n : ℕ). AllByRecursion P (project_spots (importer_of ranks (links_at i.roots n) q))) (sym same) (importer_spots P ranks (links_at i.roots m) q
    (weaker (λ (r : Row). is_some (goal_at r.0 (links_at i.roots m)) ≡ true → (c : List ℕ) → catalog_named r.1 ≡ Some c → (is_some (used_at c r.0 uses) ≡ true) × (is_some (asked_at (spot c r.0) a.catalogs) ≡ true)) (IsNamedRow P (links_at i.roots m)) (q.dependencies ++ (q.dev ++ q.optional))
    (λ x h lead c named. let both = h lead c named in fits_one uses a.catalogs (spot c x.0) both.0 both.1) (r m q e).entries))))

-- ---- specifiers

led_rows : (ranks : List ℕ) (links : List Link) (rows : List Row) (k : List ℕ) → AreLed links rows → at_key k (rows_of (dependencies_of ranks links rows)) ≡ at_key k rows
led_rows ranks links [] k h = refl
led_rows ranks links (r ∷ rows) k h = elim (goal_at r.0 links) as (λ o. is_some o ≡ true → at_key k (rows_of (dependency_of ranks r o ++ dependencies_of ranks links rows)) ≡ cond (bytes_eq r.0 k) (Some r.1) (at_key k rows)) [
  | None ↦ λ e. absurd (cc e)
  | Some to ↦ λ e. ap (λ o. cond (bytes_eq r.0 k) (Some r.1) o) (led_rows ranks links rows k h.1)
] h.0

-- a name that leads somewhere keeps its specifier
same_key : (ranks : List ℕ) (links : List Link) (rows : List Row) (k : List ℕ) (to : Goal) → goal_at k links ≡ Some to → at_key k (rows_of (dependencies_of ranks links rows)) ≡ at_key k rows
same_key ranks links [] k to g = refl
same_key ranks links (r ∷ rows) k to g = elim (goal_at r.0 links) as (λ o. goal_at r.0 links ≡ o → at_key k (rows_of (dependency_of ranks r o ++ dependencies_of ranks links rows)) ≡ cond (bytes_eq r.0 k) (Some r.1) (at_key k rows)) [
  | None ↦ λ e. elim (cases_Bool (bytes_eq r.0 k)) [
    | inl at ↦ let no : Some to ≡ None = sym g ∙ ap (λ (n : List ℕ). goal_at n links) (sym ((bytes_eq-Decides r.0 k).0 at)) ∙ e in absurd (cc no)
    | inr away ↦ same_key ranks links rows k to g ∙ sym (ap (λ b. cond b (Some r.1) (at_key k rows)) away)
  ]
  | Some t ↦ λ e. ap (λ o. cond (bytes_eq r.0 k) (Some r.1) o) (same_key ranks links rows k to g)
] refl

-- one that leads nowhere is unknown to the lock
not_known : (ranks : List ℕ) (links : List Link) (rows : List Row) (k : List ℕ) → goal_at k links ≡ None → is_in (keys (rows_of (dependencies_of ranks links rows))) k ≡ false
not_known ranks links [] k g = refl
not_known ranks links (r ∷ rows) k g = elim (goal_at r.0 links) as (λ o. goal_at r.0 links ≡ o → is_in (keys (rows_of (dependency_of ranks r o ++ dependencies_of ranks links rows))) k ≡ false) [
  | None ↦ λ e. not_known ranks links rows k g
  | Some to ↦ λ e. elim (cases_Bool (bytes_eq r.0 k)) [
    | inl at ↦ let no : Some to ≡ None = sym e ∙ ap (λ (n : List ℕ). goal_at n links) ((bytes_eq-Decides r.0 k).0 at) ∙ g in absurd (cc no)
    | inr away ↦ ap (λ b. b || is_in (keys (rows_of (dependencies_of ranks links rows))) k) away ∙ not_known ranks links rows k g
  ]
] refl

none_has : (ranks : List ℕ) (links : List Link) (q : AskedProject) (k : List ℕ) → goal_at k links ≡ None → has_alias (importer_of ranks links q) k ≡ false
none_has ranks links q k g =
    ap (λ b. b || (is_in (keys (rows_of (dependencies_of ranks links q.dev))) k || is_in (keys (rows_of (dependencies_of ranks links q.optional))) k)) (not_known ranks links q.dependencies k g)
    ∙ ap (λ b. b || is_in (keys (rows_of (dependencies_of ranks links q.optional))) k) (not_known ranks links q.dev k g) ∙ not_known ranks links q.optional k g

optional_fits : (ranks : List ℕ) (links : List Link) (q : AskedProject) (k : List ℕ)
    → (at_key k (rows_of (dependencies_of ranks links q.optional)) ≡ at_key k q.optional) ⊎ (has_alias (importer_of ranks links q) k ≡ false)
optional_fits ranks links q k = elim (goal_at k links) as (λ o. goal_at k links ≡ o → (at_key k (rows_of (dependencies_of ranks links q.optional)) ≡ at_key k q.optional) ⊎ (has_alias (importer_of ranks links q) k ≡ false)) [
  | None ↦ λ e. inr (none_has ranks links q k e)
  | Some to ↦ λ e. inl (same_key ranks links q.optional k to e)
] refl

project_fits : (a : AskedLists) (p : Plain) (ranks : List ℕ) (links : List Link) (q : AskedProject) → IsResolved a p links q → FitsProject (importer_of ranks links q) q
project_fits a p ranks links q r = record {
  dependencies = λ k. led_rows ranks links q.dependencies k r.dependencies;
  dev = λ k. led_rows ranks links q.dev k r.dev;
  optional = optional_fits ranks links q;
}

-- a project is found by its folder
found : (qs : List AskedProject) (m : ℕ) (q : AskedProject) → Rises (project_folders qs) → slice_get qs m ≡ Some q → project_at q.folder qs ≡ Some q
unfolding IsStrictlySortedBy
found [] m q h e = absurd (cc e)
found (x ∷ qs) zero q h e =
    let same : x ≡ q = cc in
    ap (λ (y : AskedProject). cond (bytes_eq x.folder y.folder) (Some x) (project_at y.folder qs)) (sym same) ∙ ap (λ b. cond b (Some x) (project_at x.folder qs)) (itself x.folder) ∙ ap Some same
found (x ∷ qs) (suc m) q h e =
    let less : slice_cmp nat_cmp x.folder q.folder ≡ Less = at_place (λ (y : AskedProject). slice_cmp nat_cmp x.folder y.folder ≡ Less) qs m q (unmapped qs h.0) e in
    ap (λ b. cond b (Some x) (project_at q.folder qs)) (less_other x.folder q.folder less) ∙ found qs m q h.1 e
  where
    unmapped : (ys : List AskedProject) → AllByRecursion (λ (k : List ℕ). slice_cmp nat_cmp x.folder k ≡ Less) (project_folders ys) → AllByRecursion (λ (y : AskedProject). slice_cmp nat_cmp x.folder y.folder ≡ Less) ys
    unmapped [] k = tt
    unmapped (y ∷ ys) k = (k.0, unmapped ys k.1)

projects_fit : (a : AskedLists) (p : Plain) (i : Instances) (ranks : List ℕ) → Rises (project_folders a.projects) → AreResolved a p i.roots
    → AllByRecursion (λ (x : LockImporter). FitsFound x (project_at x.folder a.projects)) (importers_from ranks i.roots 0 a.projects)
projects_fit a p i ranks up r = each_importer (λ (x : LockImporter). FitsFound x (project_at x.folder a.projects)) ranks i.roots 0 a.projects (λ m q e.
    let same : m ≡ m + 0 = omega arith in
    let one = project_fits a p ranks (links_at i.roots (m + 0)) q (subst (λ (j : ℕ). IsResolved a p (links_at i.roots j) q) same (r m q e)) in
    subst (λ (o : Option AskedProject). FitsFound (importer_of ranks (links_at i.roots (m + 0)) q) o) (sym (found a.projects m q up e)) one)

-- ---- the whole

pub fits : (a : AskedLists) (p : Plain) (i : Instances) (paths integrities : List (List ℕ)) (l : Locked) → IsAsked a → IsMade a p i paths integrities l → AreResolved a p i.roots → first_of l a ≡ None
fits a p i paths integrities l asked made r =
    let ranks = ranks_of (paths_of l.snapshots) paths in
    let uses = uses_of p.projects p.packages in
    (law l a).1 (record {
      setting = made.auto;
      overrides = λ k. ap (at_key k) (ap override_rows made.overrides ∙ same_overrides a.overrides);
      entries = subst (λ (es : List LockCatalog). AllByRecursion (λ s. fits_at es a.catalogs s ≡ true) (locked_spots es)) (sym made.catalogs) (entries_fit uses a.catalogs);
      named = subst (λ (es : List LockCatalog). AllByRecursion (λ s. fits_at es a.catalogs s ≡ true) (spots_of l.importers)) (sym made.catalogs)
          (subst (λ (is : List LockImporter). AllByRecursion (λ s. fits_at (entries_of uses a.catalogs) a.catalogs s ≡ true) (spots_of is)) (sym made.importers) (named_fit a p i ranks r));
      folders = λ k. ap (λ (fs : List (List ℕ)). is_in fs k) (ap folders_of made.importers ∙ importer_folders ranks i.roots 0 a.projects);
      projects = subst (λ (is : List LockImporter). AllByRecursion (λ (x : LockImporter). FitsFound x (project_at x.folder a.projects)) is) (sym made.importers) (projects_fit a p i ranks asked.folders r);
    })
