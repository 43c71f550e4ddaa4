-- The layout of a lock is sound.
use Rattle.std.proofs.Common.{◌≡◌, ◌≢◌, ◌⊎◌, ℕ, List, [], ◌∷◌, ◌++◌, get_or, map, refl, sym, ap, ◌∙◌, subst, true, false, Bool, cond, arith, inl, inr, append_assoc, Some, None}
use Rattle.std.specs.Prelude.{bytes_eq, codes, Option}
use Rattle.std.specs.List.{Contains, flat_map}
use Rattle.std.proofs.lemmas.Bool.{cases_Bool}
use Rattle.std.proofs.lemmas.List.{append_cancel_right, length-map}
use Rattle.std.proofs.lemmas.List.Elements.{Contains-append_cases, Contains-append_left, Contains-append_right, Contains-get_or}
use Rattle.std.proofs.lemmas.List.Folds.{list_any-append}
use Rattle.std.proofs.lemmas.Slice.Eq.{bytes_eq-Decides}
use Rattle.pn_text.specs.Path.{Path, same_path, tail_of, text_below}
use Rattle.pn_text.specs.Name.{holds_modules, is_name, modules}
use Rattle.pn_text.proofs.Bools.{or_true}
use Rattle.pn_text.proofs.Members.{from_map, here, in_one, none_in, to_map}
use Rattle.pn_text.proofs.Paths.{same_path-Decides}
use Rattle.pn_digest.specs.Listing.{Entry}
use Rattle.pn_draft.specs.Drawing.{AreApart}
use Rattle.pn_draft.proofs.WithinLemmas.{within_from}
use Rattle.pn_layout.specs.Layout.{marker_text}
use Rattle.pn_layout.proofs.RisingLemmas.{once}
use Rattle.pn_deppath.specs.Folders.{folder_name, plain_name, FolderLaw}
use Rattle.pn_deppath.specs.Paths.{id_part}
use Rattle.pn_lock.specs.declared.goal.LockGoal.{LockGoal}
use Rattle.pn_lock.specs.declared.lists.LockDependency.{LockDependency}
use Rattle.pn_lock.specs.declared.lists.LockImporter.{LockImporter}
use Rattle.pn_lock.specs.declared.lists.LockLink.{LockLink}
use Rattle.pn_lock.specs.declared.lists.LockPackage.{LockPackage}
use Rattle.pn_lock.specs.declared.lists.LockSnapshot.{LockSnapshot}
use Rattle.pn_lock.specs.Kept.{IsDependency, IsImporter, IsLink, IsLock, IsSnapshot, NoneOf}
use Rattle.pn_lock.specs.Locks.{Locked, ids_of, paths_of, place_of}
use Rattle.pn_lock.proofs.FolderLemmas.{tail_again}
use Rattle.pn_tree.specs.declared.instance.Instance.{Instance}
use Rattle.pn_tree.specs.declared.instance.Target.{Target}
use Rattle.pn_tree.specs.declared.instance.Top.{Top}
use Rattle.pn_tree.specs.Trees.{Managed, Layout}
use Rattle.pn_tree.specs.Sound.{folders, IsSoundInstance, IsSoundTop, IsSoundLayout}
use Rattle.pn_tree.proofs.LeafLemmas.{from_flat_map}
use Rattle.pn_lock_layout.specs.declared.hoist.Hoist.{Hoist}
use Rattle.pn_lock_layout.specs.Places.{default_store, folder_of, modules_of, name_of}
use Rattle.pn_lock_layout.specs.Layouts.{all_dependencies, all_links, files_of, hoist_top, instance_of, layout_to, listing_at, managed_of, project_managed, project_tops, store_managed, store_marker, target_of, top_of, tops_of}
use Rattle.pn_lock_layout.specs.Placed.{AreListings, IsCleanListing, IsHoist, IsPlaced}
use Rattle.pn_lock_layout.proofs.DirLemmas.{dir_of, dir_part, dir_not_marker, dir_not_modules}
use Rattle.pn_lock_layout.proofs.HomeLemmas.{named_path}
use Rattle.pn_lock_layout.proofs.LockLemmas.{apart_keys, in_all, once_both}
use Rattle.pn_lock_layout.proofs.PlaceLemmas.{none_absent, place_within}

-- ---- projects' folders

tail_one : (s t : List ℕ) → tail_of s ≡ tail_of t → s ≡ t
tail_one s t e = let same : 47 ∷ s ≡ 47 ∷ t = sym (tail_again s) ∙ ap text_below e ∙ tail_again t in cc

no_tail : (t : List ℕ) (root : Path) → root ≡ tail_of t ++ root → ⊥
no_tail t root e =
    let none : [] ≡ tail_of t = append_cancel_right [] (tail_of t) root e in
    let no : [] ≡ 47 ∷ t = ap text_below none ∙ tail_again t in cc

-- two texts of one folder are one
pub folder_one : (root : Path) (s t : List ℕ) → folder_of root s ≡ folder_of root t → s ≡ t
folder_one root s t e = elim (cases_Bool (bytes_eq s (codes "."))) [
  | inl a ↦ elim (cases_Bool (bytes_eq t (codes "."))) [
    | inl b ↦ (bytes_eq-Decides s (codes ".")).0 a ∙ sym ((bytes_eq-Decides t (codes ".")).0 b)
    | inr b ↦ absurd (no_tail t root (sym (folder_at root s true a) ∙ e ∙ folder_at root t false b))
  ]
  | inr a ↦ elim (cases_Bool (bytes_eq t (codes "."))) [
    | inl b ↦ absurd (no_tail s root (sym (folder_at root t true b) ∙ sym e ∙ folder_at root s false a))
    | inr b ↦ tail_one s t (append_cancel_right (tail_of s) (tail_of t) root (sym (folder_at root s false a) ∙ e ∙ folder_at root t false b))
  ]
] where
  folder_at : (root : Path) (t : List ℕ) (b : Bool) → bytes_eq t (codes ".") ≡ b → folder_of root t ≡ cond b root (tail_of t ++ root)
  folder_at root t b h = ap (λ o. cond o root (tail_of t ++ root)) h

-- a folder without a part `node_modules`, below the root
record IsFolderBelow (root : Path) (t : List ℕ) : Type 0 where
  way : Path
  is : folder_of root t ≡ way ++ root
  clean : holds_modules way ≡ false

below_root : (root : Path) (t : List ℕ) → holds_modules (tail_of t) ≡ false → IsFolderBelow root t
below_root root t h = elim (bytes_eq t (codes ".")) as (λ b. bytes_eq t (codes ".") ≡ b → IsFolderBelow root t) [
  | true ↦ λ e. record { way = []; is = ap (λ o. cond o root (tail_of t ++ root)) e; clean = refl }
  | false ↦ λ e. record { way = tail_of t; is = ap (λ o. cond o root (tail_of t ++ root)) e; clean = h }
] refl

modules_held : (s r : Path) → holds_modules (s ++ modules ∷ r) ≡ true
modules_held s r = list_any-append (λ x. bytes_eq x modules) s (modules ∷ r) ∙ or_true (holds_modules s)

-- no project's folder is below the `node_modules` of one
none_inside : (root : Path) (s t : List ℕ) (r : Path) → holds_modules (tail_of s) ≡ false → holds_modules (tail_of t) ≡ false → folder_of root s ≡ r ++ modules_of root t → ⊥
none_inside root s t r h k e =
    let a = below_root root s h in
    let b = below_root root t k in
    let same : a.way ≡ r ++ modules ∷ b.way =
    append_cancel_right a.way (r ++ modules ∷ b.way) root (sym a.is ∙ e ∙ ap (λ p. r ++ modules ∷ p) b.is ∙ sym (append_assoc r (modules ∷ b.way) root)) in
    let no : false ≡ true = sym a.clean ∙ ap holds_modules same ∙ modules_held r b.way in cc

-- ---- managed folders

pub record InManaged (l : Locked) (root store : Path) (m : Managed) : Type 0 where
  pub case : ((i : LockImporter) × Contains l.importers i × (project_managed root i ≡ m)) ⊎ ((same_path store (default_store root) ≡ false) × ((store, store_marker root) ≡ m))

in_store : (root store : Path) (m : Managed) (b : Bool) → same_path store (default_store root) ≡ b → Contains (cond b [] ((store, store_marker root) ∷ [])) m → (b ≡ false) × ((store, store_marker root) ≡ m)
in_store root store m true e c = absurd (none_in m c)
in_store root store m false e c = (refl, in_one (store, store_marker root) m c)

pub in_managed : (l : Locked) (root store : Path) (m : Managed) → Contains (managed_of root store l.importers) m → InManaged l root store m
in_managed l root store m c = record {
  case = elim (Contains-append_cases (map (project_managed root) l.importers) (store_managed root store) m c) [
    | inl a ↦ inl (from_map (project_managed root) l.importers m a)
    | inr b ↦ let s = in_store root store m (same_path store (default_store root)) refl b in inr (s.0, s.1)
  ];
}

pub project_in : (l : Locked) (root store : Path) (i : LockImporter) → Contains l.importers i → Contains (managed_of root store l.importers) (project_managed root i)
project_in l root store i c = Contains-append_left (map (project_managed root) l.importers) (store_managed root store) (project_managed root i) (to_map (project_managed root) l.importers i c)

store_in : (root store : Path) → same_path store (default_store root) ≡ false → Contains (store_managed root store) (store, store_marker root)
store_in root store e = by (same_path store (default_store root)) e where
  by : (b : Bool) → b ≡ false → Contains {X = Managed} (cond b [] ((store, store_marker root) ∷ [])) (store, store_marker root)
  by true h = cc
  by false h = let m : Managed = (store, store_marker root) in here m []

not_default : (root store : Path) → same_path store (default_store root) ≡ false → store ≢ default_store root
not_default root store h e = let no : false ≡ true = sym h ∙ (same_path-Decides store (default_store root)).1 e in cc

-- ---- what links and dependencies keep

pub link_of_snapshot : (l : Locked) (s : LockSnapshot) → IsSnapshot l s → (k : LockLink) → Contains (all_links s) k → IsLink l (name_of s.path) k
link_of_snapshot l s h k c = elim (Contains-append_cases s.dependencies s.optional k c) [
  | inl a ↦ in_all (IsLink l (name_of s.path)) s.dependencies k h.dependencies a
  | inr b ↦ in_all (IsLink l (name_of s.path)) s.optional k h.optional b
]

pub dependency_of_importer : (l : Locked) (i : LockImporter) → IsImporter l i → (d : LockDependency) → Contains (all_dependencies i) d → IsDependency l d
dependency_of_importer l i h d c = elim (Contains-append_cases i.dependencies (i.dev ++ i.optional) d c) [
  | inl a ↦ in_all (IsDependency l) i.dependencies d h.dependencies a
  | inr b ↦ elim (Contains-append_cases i.dev i.optional d b) [ inl a ↦ in_all (IsDependency l) i.dev d h.dev a | inr a ↦ in_all (IsDependency l) i.optional d h.optional a ]
]

module _ (apart : FolderLaw) (l : Locked) (root store : Path) (hoisted : List Hoist) (kept : IsLock l) (placed : IsPlaced l root store hoisted) where
  -- two projects of one folder are one
  pub importer_one : (i j : LockImporter) → Contains l.importers i → Contains l.importers j → folder_of root i.folder ≡ folder_of root j.folder → i ≡ j
  importer_one i j ci cj e = once (λ (k : LockImporter). k.folder) l.importers kept.importers_rise i j ci cj (folder_one root i.folder j.folder e)

  tail_path : (p q : Path) → modules ∷ p ≡ modules ∷ q → p ≡ q
  tail_path p q e = cc

  -- a project's `node_modules` at or below another one's
  two_projects : (i j : LockImporter) (s : Path) → Contains l.importers i → Contains l.importers j → modules_of root j.folder ≡ s ++ modules_of root i.folder → modules_of root i.folder ≡ modules_of root j.folder
  two_projects i j [] ci cj e = sym e
  two_projects i j (x ∷ s) ci cj e = absurd (none_inside root j.folder i.folder s (placed.clean j cj) (placed.clean i ci) (let t : folder_of root j.folder ≡ s ++ modules_of root i.folder = cc in t))

  store_above : (i : LockImporter) (s : Path) → Contains l.importers i → modules_of root i.folder ≡ s ++ store → ⊥
  store_above i [] ci e = placed.named (folder_of root i.folder) (sym e)
  store_above i (x ∷ s) ci e = placed.apart i s ci (let t : folder_of root i.folder ≡ s ++ store = cc in t)

  by_cases : (m n : Managed) → InManaged l root store m → InManaged l root store n → (s : Path) → n.0 ≡ s ++ m.0 → m ≡ n
  by_cases m n a b s e = elim a.case [
    | inl i ↦ elim b.case [
      | inl j ↦
          let e0 : modules_of root j.0.folder ≡ s ++ modules_of root i.0.folder = ap (λ (x : Managed). x.0) j.2 ∙ e ∙ ap (λ (x : Managed). s ++ x.0) (sym i.2) in
          let one = two_projects i.0 j.0 s i.1 j.1 e0 in
          sym i.2 ∙ ap (λ p. let x : Managed = (p, marker_text) in x) one ∙ j.2
      | inr v ↦
          let e0 : store ≡ s ++ modules_of root i.0.folder = ap (λ (x : Managed). x.0) v.1 ∙ e ∙ ap (λ (x : Managed). s ++ x.0) (sym i.2) in
          absurd (not_default root store v.0 (placed.inside i.0 s i.1 e0))
    ]
    | inr v ↦ elim b.case [
      | inl j ↦
          let e0 : modules_of root j.0.folder ≡ s ++ store = ap (λ (x : Managed). x.0) j.2 ∙ e ∙ ap (λ (x : Managed). s ++ x.0) (sym v.1) in
          absurd (store_above j.0 s j.1 e0)
      | inr w ↦ sym v.1 ∙ w.1
    ]
  ]

  pub managed_apart : AreApart (folders (managed_of root store l.importers))
  managed_apart a b ca cb e =
      let m = from_map (λ (x : Managed). x.0) (managed_of root store l.importers) a ca in
      let n = from_map (λ (x : Managed). x.0) (managed_of root store l.importers) b cb in
      let w = within_from a b e in
      let e0 : n.0.0 ≡ w.0 ++ m.0.0 = n.2 ∙ w.1 ∙ ap (λ p. w.0 ++ p) (sym m.2) in
      sym m.2 ∙ ap (λ (x : Managed). x.0) (by_cases m.0 n.0 (in_managed l root store m.0 m.1) (in_managed l root store n.0 n.1) w.0 e0) ∙ n.2

  managed_marked : (m n : Managed) → Contains (managed_of root store l.importers) m → Contains (managed_of root store l.importers) n → m.0 ≡ n.0 → m ≡ n
  managed_marked m n cm cn e = by_cases m n (in_managed l root store m cm) (in_managed l root store n cn) [] (sym e)

  managed_store : (m : Managed) × Contains (managed_of root store l.importers) m × ((store ≡ m.0) ⊎ (store ≡ codes ".pnpm" ∷ m.0))
  managed_store = elim (cases_Bool (same_path store (default_store root))) [
    | inl e ↦
        let is : store ≡ default_store root = (same_path-Decides store (default_store root)).0 e in
        let i = placed.rooted is in
        let dot : folder_of root i.0.folder ≡ root = ap (folder_of root) i.2 in
        (project_managed root i.0, project_in l root store i.0 i.1, inr (is ∙ ap (λ p. codes ".pnpm" ∷ modules ∷ p) (sym dot)))
    | inr e ↦ ((store, store_marker root), Contains-append_right (map (project_managed root) l.importers) (store_managed root store) (store, store_marker root) (store_in root store e), inl refl)
  ]

  -- ---- instances

  pub snapshot_in : (s : LockSnapshot) → Contains l.snapshots s → IsSnapshot l s
  snapshot_in s c = in_all (IsSnapshot l) l.snapshots s kept.snapshots c

  -- two snapshots with one folder are one
  snapshot_one : (s t : LockSnapshot) → Contains l.snapshots s → Contains l.snapshots t → folder_name (paths_of l.snapshots) s.path ≡ folder_name (paths_of l.snapshots) t.path → s ≡ t
  snapshot_one s t cs ct e = once (λ (k : LockSnapshot). k.path) l.snapshots kept.snapshots_rise s t cs ct (same_paths (cases_Bool (bytes_eq s.path t.path))) where
    same_paths : ((bytes_eq s.path t.path ≡ true) ⊎ (bytes_eq s.path t.path ≡ false)) → s.path ≡ t.path
    same_paths (inl b) = (bytes_eq-Decides s.path t.path).0 b
    same_paths (inr b) = absurd (apart plain_name (paths_of l.snapshots) s.path t.path (omega (arith, kept.snapshots_few, length-map l.snapshots (λ (k : LockSnapshot). k.path))) (to_map (λ (k : LockSnapshot). k.path) l.snapshots s cs)
        (to_map (λ (k : LockSnapshot). k.path) l.snapshots t ct) (λ p. let no : false ≡ true = sym b ∙ (bytes_eq-Decides s.path t.path).1 p in cc) e)

  link_one : (s : LockSnapshot) → IsSnapshot l s → (j k : LockLink) → Contains (all_links s) j → Contains (all_links s) k → j.alias ≡ k.alias → j ≡ k
  link_one s h = once_both (λ (k : LockLink). k.alias) s.dependencies s.optional (once (λ (k : LockLink). k.alias) s.dependencies h.dependencies_rise) (once (λ (k : LockLink). k.alias) s.optional h.optional_rise)
      (λ j k cj ck e. apart_keys (λ (k : LockLink). k.alias) (λ (k : LockLink). k.alias) s.dependencies s.optional h.optional_apart j k cj ck e)

  module _ (lead : LockGoal → Path) (listings : List (List Entry)) (listed : AreListings l listings) where
    files_kept : (s : LockSnapshot) → IsSnapshot l s → IsCleanListing (files_of (ids_of l.packages) listings (id_part s.path))
    files_kept s h = by (place_of (id_part s.path) (ids_of l.packages)) refl where
      by : (o : Option ℕ) → place_of (id_part s.path) (ids_of l.packages) ≡ o → IsCleanListing (listing_at listings o)
      by None e = absurd (let no : true ≡ false = sym h.locked ∙ none_absent (id_part s.path) (ids_of l.packages) e in cc)
      by (Some n) e = listed.each (get_or listings n []) (Contains-get_or listings n [] (omega (arith, place_within (id_part s.path) (ids_of l.packages) n e, length-map l.packages (λ (p : LockPackage). p.id), listed.count)))

    sound_instance : (s : LockSnapshot) → IsSnapshot l s → IsSoundInstance (instance_of lead l listings s)
    sound_instance s h =
        let dir = dir_of (paths_of l.snapshots) s.path h.path in
        let files = files_kept s h in
        record {
          part = dir_part (folder_name (paths_of l.snapshots) s.path) dir;
          dir = dir_not_modules (folder_name (paths_of l.snapshots) s.path) dir;
          unmarked = dir_not_marker (folder_name (paths_of l.snapshots) s.path) dir;
          name = named_path s.path h.path;
          files = files.listing;
          clean = files.clean;
          links = λ k c. let a = from_map (target_of lead) (all_links s) k c in subst (λ (j : Target). is_name j.name ≡ true) a.2 (link_of_snapshot l s h a.0 a.1).name;
          others = λ k c e.
              let a = from_map (target_of lead) (all_links s) k c in
              let same : a.0.alias ≡ name_of s.path = ap (λ (j : Target). j.name) a.2 ∙ e in
              let no : false ≡ true = sym (link_of_snapshot l s h a.0 a.1).other ∙ (bytes_eq-Decides a.0.alias (name_of s.path)).1 same in cc;
          once = λ j k cj ck e.
              let a = from_map (target_of lead) (all_links s) j cj in
              let b = from_map (target_of lead) (all_links s) k ck in
              let one = link_one s h a.0 b.0 a.1 b.1 (ap (λ (t : Target). t.name) a.2 ∙ e ∙ sym (ap (λ (t : Target). t.name) b.2)) in
              sym a.2 ∙ ap (target_of lead) one ∙ b.2;
        }

    -- ---- links outside

    both_aliases : (ds es : List LockDependency) → map (λ (d : LockDependency). d.alias) ds ++ map (λ (d : LockDependency). d.alias) es ≡ map (λ (d : LockDependency). d.alias) (ds ++ es)
    both_aliases [] es = refl
    both_aliases (d ∷ ds) es = ap (λ ks. d.alias ∷ ks) (both_aliases ds es)

    dependency_one : (i : LockImporter) → IsImporter l i → (d e : LockDependency) → Contains (all_dependencies i) d → Contains (all_dependencies i) e → d.alias ≡ e.alias → d ≡ e
    dependency_one i h =
        let key : LockDependency → List ℕ = λ d. d.alias in
        let apart_optional = subst (λ ks. NoneOf ks (map key i.optional)) (both_aliases i.dependencies i.dev) h.optional_apart in
        once_both key i.dependencies (i.dev ++ i.optional) (once key i.dependencies h.dependencies_rise)
        (once_both key i.dev i.optional (once key i.dev h.dev_rise) (once key i.optional h.optional_rise)
        (λ d e cd ce same. apart_keys key key (i.dependencies ++ i.dev) i.optional apart_optional d e (Contains-append_right i.dependencies i.dev d cd) ce same))
        (λ d e cd ce same. elim (Contains-append_cases i.dev i.optional e ce) [
          | inl a ↦ apart_keys key key i.dependencies i.dev h.dev_apart d e cd a same
          | inr a ↦ apart_keys key key (i.dependencies ++ i.dev) i.optional apart_optional d e (Contains-append_left i.dependencies i.dev d cd) a same
        ])

    -- where a link outside the instances comes from
    pub record OfProject (t : Top) : Type 0 where
      pub importer : LockImporter
      pub among : Contains l.importers importer
      pub dependency : LockDependency
      pub has : Contains (all_dependencies importer) dependency
      pub is : top_of lead (folder_of root importer.folder) dependency ≡ t

    pub top_from : (t : Top) → Contains (tops_of lead root l.importers hoisted) t → OfProject t ⊎ ((h : Hoist) × Contains hoisted h × (hoist_top lead h ≡ t))
    top_from t c = elim (Contains-append_cases (flat_map (project_tops lead root) l.importers) (map (hoist_top lead) hoisted) t c) [
      | inl a ↦
          let i = from_flat_map (project_tops lead root) l.importers t a in
          let d = from_map (top_of lead (folder_of root i.0.folder)) (all_dependencies i.0) t i.2 in
          inl (record { importer = i.0; among = i.1; dependency = d.0; has = d.1; is = d.2 })
      | inr b ↦ inr (from_map (hoist_top lead) hoisted t b)
    ]

    importer_in : (i : LockImporter) → Contains l.importers i → IsImporter l i
    importer_in i c = in_all (IsImporter l) l.importers i kept.importers c

    project_holder : (i : LockImporter) → Contains l.importers i → Contains (folders (managed_of root store l.importers)) (modules_of root i.folder) × (modules_of root i.folder ≢ store)
    project_holder i c = (to_map (λ (x : Managed). x.0) (managed_of root store l.importers) (project_managed root i) (project_in l root store i c), λ e. placed.named (folder_of root i.folder) (sym e))

    whole : Layout
    whole = layout_to lead l root store hoisted listings

    sound_hoist : (h : Hoist) → IsHoist l root store h → IsSoundTop (layout_to lead l root store hoisted listings) (hoist_top lead h)
    sound_hoist h k = record {
      name = k.name;
      holder = elim k.holder [
        | inl e ↦ inr e
        | inr i ↦ let p = project_holder i.0 i.1 in inl (subst (Contains (folders (managed_of root store l.importers))) (sym i.2) p.0, λ e. p.1 (sym i.2 ∙ e))
      ];
    }

    top_sound : (t : Top) → OfProject t ⊎ ((h : Hoist) × Contains hoisted h × (hoist_top lead h ≡ t)) → IsSoundTop (layout_to lead l root store hoisted listings) t
    top_sound t (inl o) = subst (IsSoundTop (layout_to lead l root store hoisted listings)) o.is (record {
      name = (dependency_of_importer l o.importer (importer_in o.importer o.among) o.dependency o.has).name;
      holder = inl (project_holder o.importer o.among);
    })
    top_sound t (inr h) = subst (IsSoundTop (layout_to lead l root store hoisted listings)) h.2 (sound_hoist h.0 (placed.hoists h.0 h.1))

    project_and_hoist : (o : LockImporter) (d : LockDependency) (h : Hoist) → Contains l.importers o → Contains (all_dependencies o) d → Contains hoisted h → modules_of root o.folder ≡ h.holder → d.alias ≡ h.name → ⊥
    project_and_hoist o d h co cd ch holders names = (placed.hoists h ch).free o d co cd (sym holders) (sym names)

    top_one : (s t : Top) → OfProject s ⊎ ((h : Hoist) × Contains hoisted h × (hoist_top lead h ≡ s)) → OfProject t ⊎ ((h : Hoist) × Contains hoisted h × (hoist_top lead h ≡ t)) → s.holder ≡ t.holder → s.name ≡ t.name → s ≡ t
    top_one s t (inl a) (inl b) holders names =
        let folders_same : folder_of root a.importer.folder ≡ folder_of root b.importer.folder =
        tail_path (folder_of root a.importer.folder) (folder_of root b.importer.folder) (ap (λ (u : Top). u.holder) a.is ∙ holders ∙ sym (ap (λ (u : Top). u.holder) b.is)) in
        let one = importer_one a.importer b.importer a.among b.among folders_same in
        let there = subst (λ (i : LockImporter). Contains (all_dependencies i) b.dependency) (sym one) b.has in
        let same = dependency_one a.importer (importer_in a.importer a.among) a.dependency b.dependency a.has there (ap (λ (u : Top). u.name) a.is ∙ names ∙ sym (ap (λ (u : Top). u.name) b.is)) in
        sym a.is ∙ ap (λ p. top_of lead p a.dependency) folders_same ∙ ap (top_of lead (folder_of root b.importer.folder)) same ∙ b.is
    top_one s t (inl a) (inr h) holders names = absurd (project_and_hoist a.importer a.dependency h.0 a.among a.has h.1 (ap (λ (u : Top). u.holder) a.is ∙ holders ∙ sym (ap (λ (u : Top). u.holder) h.2)) (ap (λ (u : Top). u.name) a.is ∙ names ∙ sym (ap (λ (u : Top). u.name) h.2)))
    top_one s t (inr h) (inl a) holders names = absurd (project_and_hoist a.importer a.dependency h.0 a.among a.has h.1 (ap (λ (u : Top). u.holder) a.is ∙ sym holders ∙ sym (ap (λ (u : Top). u.holder) h.2)) (ap (λ (u : Top). u.name) a.is ∙ sym names ∙ sym (ap (λ (u : Top). u.name) h.2)))
    top_one s t (inr g) (inr h) holders names =
        let one = placed.once g.0 h.0 g.1 h.1 (ap (λ (u : Top). u.holder) g.2 ∙ holders ∙ sym (ap (λ (u : Top). u.holder) h.2)) (ap (λ (u : Top). u.name) g.2 ∙ names ∙ sym (ap (λ (u : Top). u.name) h.2)) in
        sym g.2 ∙ ap (hoist_top lead) one ∙ h.2

    pub sound_layout : IsSoundLayout (layout_to lead l root store hoisted listings)
    sound_layout = record {
      apart = managed_apart;
      marked = managed_marked;
      store = managed_store;
      dirs = λ g h cg ch e.
          let a = from_map (instance_of lead l listings) l.snapshots g cg in
          let b = from_map (instance_of lead l listings) l.snapshots h ch in
          let one = snapshot_one a.0 b.0 a.1 b.1 (ap (λ (x : Instance). x.dir) a.2 ∙ e ∙ sym (ap (λ (x : Instance). x.dir) b.2)) in
          sym a.2 ∙ ap (instance_of lead l listings) one ∙ b.2;
      instances = λ g c. let a = from_map (instance_of lead l listings) l.snapshots g c in subst IsSoundInstance a.2 (sound_instance a.0 (snapshot_in a.0 a.1));
      tops = λ t c. top_sound t (top_from t c);
      once = λ s t cs ct holders names. top_one s t (top_from s cs) (top_from t ct) holders names;
    }
