-- What is looked up of a draft keeps the invariant of locks.
use Rattle.std.proofs.Common.{◌≡◌, ℕ, suc, ◌<◌, ◌^◌, Bool, true, false, cond, List, [], ◌∷◌, ◌++◌, length, option_map, refl, sym, ap, ◌∙◌, subst, arith, Some, None, Ok, Err}
use Rattle.std.specs.Prelude.{Option, bytes_eq}
use Rattle.std.specs.List.{AllByRecursion}
use Rattle.std.proofs.lemmas.List.{length-map}
use Rattle.pn_text.specs.Ids.{id_name}
use Rattle.pn_text.specs.Name.{is_name}
use Rattle.pn_deppath.specs.Paths.{id_part}
use Rattle.pn_lock.specs.declared.goal.LockGoal.{LockGoal}
use Rattle.pn_lock.specs.declared.goal.LockGoal.TheVariants as goal
use Rattle.pn_lock.specs.declared.lists.LockDependency.{LockDependency}
use Rattle.pn_lock.specs.declared.lists.LockImporter.{LockImporter}
use Rattle.pn_lock.specs.declared.lists.LockLink.{LockLink}
use Rattle.pn_lock.specs.declared.lists.LockSnapshot.{LockSnapshot}
use Rattle.pn_lock.specs.Kept.{InRange, IsDependency, IsImporter, IsLink, IsLock, IsSnapshot, NoneOf, Rises, is_in}
use Rattle.pn_lock.specs.Locks.{Locked, aliases_of, folders_of, ids_of, links_of, locked, paths_of, place_of}
use Rattle.pn_lock.proofs.KeptLemmas.{all_both, all_unmap}
use Rattle.pn_lock_shape.specs.declared.drafts.Aim.{Aim}
use Rattle.pn_lock_shape.specs.declared.drafts.Aim.TheVariants as aim
use Rattle.pn_lock_shape.specs.declared.drafts.Draft.{Draft}
use Rattle.pn_lock_shape.specs.declared.drafts.DraftDependency.{DraftDependency}
use Rattle.pn_lock_shape.specs.declared.drafts.DraftImporter.{DraftImporter}
use Rattle.pn_lock_shape.specs.declared.drafts.DraftLink.{DraftLink}
use Rattle.pn_lock_shape.specs.declared.drafts.DraftSnapshot.{DraftSnapshot}
use Rattle.pn_lock_shape.specs.Kept.{AreNames, IsDraft, IsDraftImporter, IsDraftSnapshot, Others, folders_in, paths_in}
use Rattle.pn_lock_shape.specs.Reading.{aliases_in, links_in}
use Rattle.pn_lock_read.specs.declared.fault.LockFault.TheVariants as fault
use Rattle.pn_lock_read.specs.Settling.{◌then◌, all_of, goal_at, known, place_or, settled_dependency, settled_importer, settled_link, settled_snapshot}
use Rattle.pn_lock_read.proofs.AllLemmas.{all_keys, all_made, settled_ok, then_settled}

-- ---- goals

place_within : (k : List ℕ) (ks : List (List ℕ)) (n : ℕ) → place_of k ks ≡ Some n → n < length ks
place_within k [] n h = absurd (cc h)
place_within k (x ∷ ks) n h = go (bytes_eq x k) (place_of k ks) (λ m e. place_within k ks m e) refl h where
  go : (b : Bool) (o : Option ℕ) → ((m : ℕ) → place_of k ks ≡ Some m → m < length ks) → place_of k ks ≡ o → cond b (Some 0) (option_map suc o) ≡ Some n → n < suc (length ks)
  go true o f e h = let z : 0 ≡ n = cc h in omega (arith, z)
  go false None f e h = absurd (cc h)
  go false (Some m) f e h = let z : suc m ≡ n = cc h in omega (arith, z, f m e)

-- a goal among so many projects and snapshots
abbrev Within : ℕ → ℕ → LockGoal → Type 0
Within m n (goal.Importer k) = k < m
Within m n (goal.Snapshot k) = k < n

place_goal : (m n : ℕ) (from to : List ℕ) (made : ℕ → LockGoal) (o : Option ℕ) (x : LockGoal) → ((k : ℕ) → o ≡ Some k → Within m n (made k)) → place_or from to made o ≡ Ok x → Within m n x
place_goal m n from to made None x f h = absurd (cc h)
place_goal m n from to made (Some k) x f h = subst (Within m n) (settled_ok (made k) x (Ok (made k)) refl h) (f k refl)

goal_within : (folders paths : List (List ℕ)) (from : List ℕ) (a : Aim) (x : LockGoal) → goal_at folders paths from a ≡ Ok x → Within (length folders) (length paths) x
goal_within folders paths from (aim.Folder None text) x h = absurd (cc h)
goal_within folders paths from (aim.Folder (Some f) text) x h = place_goal (length folders) (length paths) from text goal.Importer (place_of f folders) x (place_within f folders) h
goal_within folders paths from (aim.Path p) x h = place_goal (length folders) (length paths) from p goal.Snapshot (place_of p paths) x (place_within p paths) h

in_range : (l : Locked) (m n : ℕ) (x : LockGoal) → m ≡ length l.importers → n ≡ length l.snapshots → Within m n x → InRange l x
in_range l m n (goal.Importer k) a b h = subst (λ z. k < z) a h
in_range l m n (goal.Snapshot k) a b h = subst (λ z. k < z) b h

module _ (l : Locked) (folders paths : List (List ℕ)) (m : length folders ≡ length l.importers) (n : length paths ≡ length l.snapshots) where
  -- ---- importers

  dependency_same : (from : List ℕ) (x : DraftDependency) (y : LockDependency) → settled_dependency folders paths from x ≡ Ok y → y.alias ≡ x.alias
  dependency_same from x y h =
      let g = then_settled (goal_at folders paths from x.aim) (λ to. Ok (record { alias = x.alias; specifier = x.specifier; to = to })) y h in
      ap (λ (d : LockDependency). d.alias) (sym (settled_ok (record { alias = x.alias; specifier = x.specifier; to = g.0 }) y (Ok (record { alias = x.alias; specifier = x.specifier; to = g.0 })) refl g.2))

  dependency_kept : (from : List ℕ) (x : DraftDependency) (y : LockDependency) → is_name x.alias ≡ true → settled_dependency folders paths from x ≡ Ok y → IsDependency l y
  dependency_kept from x y q h =
      let g = then_settled (goal_at folders paths from x.aim) (λ to. Ok (record { alias = x.alias; specifier = x.specifier; to = to })) y h in
      subst (IsDependency l) (settled_ok (record { alias = x.alias; specifier = x.specifier; to = g.0 }) y (Ok (record { alias = x.alias; specifier = x.specifier; to = g.0 })) refl g.2)
      (record { name = q; range = in_range l (length folders) (length paths) g.0 m n (goal_within folders paths from x.aim g.0 g.1) })

  aliases_same : (from : List ℕ) (xs : List DraftDependency) (ys : List LockDependency) → all_of (settled_dependency folders paths from) xs ≡ Ok ys → aliases_of ys ≡ aliases_in xs
  aliases_same from xs ys h = all_keys (settled_dependency folders paths from) (λ (x : DraftDependency). x.alias) (λ (d : LockDependency). d.alias) (dependency_same from) xs ys h

  dependencies_kept : (from : List ℕ) (xs : List DraftDependency) (ys : List LockDependency) → AreNames (aliases_in xs) → all_of (settled_dependency folders paths from) xs ≡ Ok ys → AllByRecursion (IsDependency l) ys
  dependencies_kept from xs ys q h =
      all_made (settled_dependency folders paths from) (λ (x : DraftDependency). is_name x.alias ≡ true) (IsDependency l) (dependency_kept from) xs ys (all_unmap (λ (k : List ℕ). is_name k ≡ true) (λ (x : DraftDependency). x.alias) xs q) h

  pub importer_kept : (x : DraftImporter) (y : LockImporter) → IsDraftImporter x → settled_importer folders paths x ≡ Ok y → IsImporter l y
  importer_kept x y q h =
      let f = settled_dependency folders paths x.folder in
      let made : List LockDependency → List LockDependency → List LockDependency → LockImporter = λ ds dev opts. record { folder = x.folder; dependencies = ds; dev = dev; optional = opts } in
      let d = then_settled (all_of f x.dependencies) (λ ds. all_of f x.dev then λ dev. all_of f x.optional then λ opts. Ok (made ds dev opts)) y h in
      let e = then_settled (all_of f x.dev) (λ dev. all_of f x.optional then λ opts. Ok (made d.0 dev opts)) y d.2 in
      let o = then_settled (all_of f x.optional) (λ opts. Ok (made d.0 e.0 opts)) y e.2 in
      let ds = aliases_same x.folder x.dependencies d.0 d.1 in
      let es = aliases_same x.folder x.dev e.0 e.1 in
      let os = aliases_same x.folder x.optional o.0 o.1 in
      subst (IsImporter l) (settled_ok (made d.0 e.0 o.0) y (Ok (made d.0 e.0 o.0)) refl o.2) (record {
        folder = q.folder;
        dependencies = dependencies_kept x.folder x.dependencies d.0 q.dependencies d.1;
        dev = dependencies_kept x.folder x.dev e.0 q.dev e.1;
        optional = dependencies_kept x.folder x.optional o.0 q.optional o.1;
        dependencies_rise = subst Rises (sym ds) q.dependencies_rise;
        dev_rise = subst Rises (sym es) q.dev_rise;
        optional_rise = subst Rises (sym os) q.optional_rise;
        dev_apart = subst (λ ks. NoneOf ks (aliases_of e.0)) (sym ds) (subst (NoneOf (aliases_in x.dependencies)) (sym es) q.dev_apart);
        optional_apart = subst (λ ks. NoneOf ks (aliases_of o.0)) (ap (λ ks. ks ++ aliases_in x.dev) (sym ds) ∙ ap (λ ks. aliases_of d.0 ++ ks) (sym es))
            (subst (NoneOf (aliases_in x.dependencies ++ aliases_in x.dev)) (sym os) q.optional_apart);
      })

  -- ---- snapshots

  link_same : (from : List ℕ) (x : DraftLink) (y : LockLink) → settled_link folders paths from x ≡ Ok y → y.alias ≡ x.alias
  link_same from x y h =
      let g = then_settled (goal_at folders paths from x.aim) (λ to. Ok (record { alias = x.alias; to = to })) y h in
      ap (λ (d : LockLink). d.alias) (sym (settled_ok (record { alias = x.alias; to = g.0 }) y (Ok (record { alias = x.alias; to = g.0 })) refl g.2))

  link_kept : (from own : List ℕ) (x : DraftLink) (y : LockLink) → (is_name x.alias ≡ true) × (bytes_eq x.alias own ≡ false) → settled_link folders paths from x ≡ Ok y → IsLink l own y
  link_kept from own x y q h =
      let g = then_settled (goal_at folders paths from x.aim) (λ to. Ok (record { alias = x.alias; to = to })) y h in
      subst (IsLink l own) (settled_ok (record { alias = x.alias; to = g.0 }) y (Ok (record { alias = x.alias; to = g.0 })) refl g.2)
      (record { name = q.0; range = in_range l (length folders) (length paths) g.0 m n (goal_within folders paths from x.aim g.0 g.1); other = q.1 })

  links_same : (from : List ℕ) (xs : List DraftLink) (ys : List LockLink) → all_of (settled_link folders paths from) xs ≡ Ok ys → links_of ys ≡ links_in xs
  links_same from xs ys h = all_keys (settled_link folders paths from) (λ (x : DraftLink). x.alias) (λ (k : LockLink). k.alias) (link_same from) xs ys h

  links_kept : (from own : List ℕ) (xs : List DraftLink) (ys : List LockLink) → AreNames (links_in xs) → Others own (links_in xs) → all_of (settled_link folders paths from) xs ≡ Ok ys → AllByRecursion (IsLink l own) ys
  links_kept from own xs ys q r h =
      all_made (settled_link folders paths from) (λ (x : DraftLink). (is_name x.alias ≡ true) × (bytes_eq x.alias own ≡ false)) (IsLink l own) (link_kept from own) xs ys
      (all_both (λ (x : DraftLink). is_name x.alias ≡ true) (λ (x : DraftLink). bytes_eq x.alias own ≡ false) xs
      (all_unmap (λ (k : List ℕ). is_name k ≡ true) (λ (x : DraftLink). x.alias) xs q) (all_unmap (λ (k : List ℕ). bytes_eq k own ≡ false) (λ (x : DraftLink). x.alias) xs r)) h

  known_in : (ids : List (List ℕ)) (path : List ℕ) (b : Bool) → known ids path ≡ Ok b → is_in ids (id_part path) ≡ true
  known_in ids path b h = go (is_in ids (id_part path)) refl h where
    go : (c : Bool) → is_in ids (id_part path) ≡ c → cond c (Ok true) (Err (fault.Dangling path (id_part path))) ≡ Ok b → c ≡ true
    go true e h = refl
    go false e h = absurd (cc h)

  pub snapshot_kept : (x : DraftSnapshot) (y : LockSnapshot) → IsDraftSnapshot x → settled_snapshot folders (ids_of l.packages) paths x ≡ Ok y → IsSnapshot l y
  snapshot_kept x y q h =
      let f = settled_link folders paths x.path in
      let own = id_name (id_part x.path) in
      let made : List LockLink → List LockLink → LockSnapshot = λ ds opts. record { path = x.path; dependencies = ds; optional = opts; transitive = x.transitive } in
      let k = then_settled (known (ids_of l.packages) x.path) (λ is. all_of f x.dependencies then λ ds. all_of f x.optional then λ opts. Ok (made ds opts)) y h in
      let d = then_settled (all_of f x.dependencies) (λ ds. all_of f x.optional then λ opts. Ok (made ds opts)) y k.2 in
      let o = then_settled (all_of f x.optional) (λ opts. Ok (made d.0 opts)) y d.2 in
      let ds = links_same x.path x.dependencies d.0 d.1 in
      let os = links_same x.path x.optional o.0 o.1 in
      subst (IsSnapshot l) (settled_ok (made d.0 o.0) y (Ok (made d.0 o.0)) refl o.2) (record {
        path = q.path;
        locked = known_in (ids_of l.packages) x.path k.0 k.1;
        dependencies = links_kept x.path own x.dependencies d.0 q.dependencies q.dependencies_other d.1;
        optional = links_kept x.path own x.optional o.0 q.optional q.optional_other o.1;
        transitive = q.transitive;
        dependencies_rise = subst Rises (sym ds) q.dependencies_rise;
        optional_rise = subst Rises (sym os) q.optional_rise;
        transitive_rise = q.transitive_rise;
        optional_apart = subst (λ ks. NoneOf ks (links_of o.0)) (sym ds) (subst (NoneOf (links_in x.dependencies)) (sym os) q.optional_apart);
      })

importer_folder : (folders paths : List (List ℕ)) (x : DraftImporter) (y : LockImporter) → settled_importer folders paths x ≡ Ok y → y.folder ≡ x.folder
importer_folder folders paths x y h =
    let f = settled_dependency folders paths x.folder in
    let made : List LockDependency → List LockDependency → List LockDependency → LockImporter = λ ds dev opts. record { folder = x.folder; dependencies = ds; dev = dev; optional = opts } in
    let d = then_settled (all_of f x.dependencies) (λ ds. all_of f x.dev then λ dev. all_of f x.optional then λ opts. Ok (made ds dev opts)) y h in
    let e = then_settled (all_of f x.dev) (λ dev. all_of f x.optional then λ opts. Ok (made d.0 dev opts)) y d.2 in
    let o = then_settled (all_of f x.optional) (λ opts. Ok (made d.0 e.0 opts)) y e.2 in
    ap (λ (i : LockImporter). i.folder) (sym (settled_ok (made d.0 e.0 o.0) y (Ok (made d.0 e.0 o.0)) refl o.2))

snapshot_path : (folders ids paths : List (List ℕ)) (x : DraftSnapshot) (y : LockSnapshot) → settled_snapshot folders ids paths x ≡ Ok y → y.path ≡ x.path
snapshot_path folders ids paths x y h =
    let f = settled_link folders paths x.path in
    let made : List LockLink → List LockLink → LockSnapshot = λ ds opts. record { path = x.path; dependencies = ds; optional = opts; transitive = x.transitive } in
    let k = then_settled (known ids x.path) (λ is. all_of f x.dependencies then λ ds. all_of f x.optional then λ opts. Ok (made ds opts)) y h in
    let d = then_settled (all_of f x.dependencies) (λ ds. all_of f x.optional then λ opts. Ok (made ds opts)) y k.2 in
    let o = then_settled (all_of f x.optional) (λ opts. Ok (made d.0 opts)) y d.2 in
    ap (λ (s : LockSnapshot). s.path) (sym (settled_ok (made d.0 o.0) y (Ok (made d.0 o.0)) refl o.2))

pub lock_kept : (d : Draft) (is : List LockImporter) (ss : List LockSnapshot) → IsDraft d → length d.importers < 2 ^ 32 → length d.snapshots < 2 ^ 32
    → all_of (settled_importer (folders_in d.importers) (paths_in d.snapshots)) d.importers ≡ Ok is → all_of (settled_snapshot (folders_in d.importers) (ids_of d.packages) (paths_in d.snapshots)) d.snapshots ≡ Ok ss
    → IsLock (locked d.auto d.catalogs d.overrides is d.packages ss)
lock_kept d is ss k few some hi hs =
    let l = locked d.auto d.catalogs d.overrides is d.packages ss in
    let folders = folders_in d.importers in
    let paths = paths_in d.snapshots in
    let same_folders : folders_of is ≡ folders = all_keys (settled_importer folders paths) (λ (x : DraftImporter). x.folder) (λ (i : LockImporter). i.folder) (importer_folder folders paths) d.importers is hi in
    let same_paths : paths_of ss ≡ paths = all_keys (settled_snapshot folders (ids_of d.packages) paths) (λ (x : DraftSnapshot). x.path) (λ (s : LockSnapshot). s.path) (snapshot_path folders (ids_of d.packages) paths) d.snapshots ss hs in
    let m : length folders ≡ length is = ap (λ (ks : List (List ℕ)). length ks) (sym same_folders) ∙ length-map is (λ (i : LockImporter). i.folder) in
    let n : length paths ≡ length ss = ap (λ (ks : List (List ℕ)). length ks) (sym same_paths) ∙ length-map ss (λ (s : LockSnapshot). s.path) in
    record {
      importers = all_made (settled_importer folders paths) IsDraftImporter (IsImporter l) (importer_kept l folders paths m n) d.importers is k.importers hi;
      packages = k.packages;
      snapshots = all_made (settled_snapshot folders (ids_of d.packages) paths) IsDraftSnapshot (IsSnapshot l) (snapshot_kept l folders paths m n) d.snapshots ss k.snapshots hs;
      catalogs = k.catalogs;
      catalogs_rise = k.catalogs_rise;
      entries_rise = k.entries_rise;
      overrides_rise = k.overrides_rise;
      importers_rise = subst Rises (sym same_folders) k.importers_rise;
      packages_rise = k.packages_rise;
      snapshots_rise = subst Rises (sym same_paths) k.snapshots_rise;
      importers_few = subst (λ z. z < 2 ^ 32) (sym (length-map d.importers (λ (x : DraftImporter). x.folder)) ∙ m) few;
      snapshots_few = subst (λ z. z < 2 ^ 32) (sym (length-map d.snapshots (λ (x : DraftSnapshot). x.path)) ∙ n) some;
    }
