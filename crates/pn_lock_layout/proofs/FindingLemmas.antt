-- What an installed tree is.
use Rattle.std.proofs.Common.{◌≡◌, ◌≢◌, ◌⊎◌, ℕ, List, [], ◌∷◌, ◌++◌, map, get_or, sym, ap, ◌∙◌, subst, true, false, cond, arith, inl, inr, refl, Some, None}
use Rattle.std.specs.Prelude.{bytes_eq, Option}
use Rattle.std.specs.List.{Contains, flat_map}
use Rattle.std.proofs.lemmas.List.{length-map}
use Rattle.std.proofs.lemmas.List.Elements.{Contains-append_cases, Contains-append_left, Contains-append_right, Contains-get_or}
use Rattle.std.proofs.lemmas.Slice.Eq.{bytes_eq-Decides}
use Rattle.pn_text.specs.Path.{Path}
use Rattle.pn_text.specs.Name.{modules, name_path}
use Rattle.pn_node.specs.Find.{find}
use Rattle.pn_text.proofs.Members.{from_map, here, in_cons, none_in, there, to_map}
use Rattle.pn_fs.specs.Tree.{folder, Tree, IsTree}
use Rattle.pn_digest.specs.Listing.{Entry}
use Rattle.pn_digest.specs.declared.planned.Planned.TheVariants.{Folder, Stored}
use Rattle.pn_deppath.specs.Folders.{FolderLaw}
use Rattle.pn_lock.specs.declared.goal.LockGoal.{LockGoal}
use Rattle.pn_lock.specs.declared.goal.LockGoal.TheVariants as goal
use Rattle.pn_lock.specs.declared.lists.LockDependency.{LockDependency}
use Rattle.pn_lock.specs.declared.lists.LockImporter.{LockImporter}
use Rattle.pn_lock.specs.declared.lists.LockLink.{LockLink}
use Rattle.pn_lock.specs.declared.lists.LockSnapshot.{LockSnapshot}
use Rattle.pn_lock.specs.Kept.{InRange, IsImporter, IsLock, IsSnapshot}
use Rattle.pn_lock.specs.Links.{dependency_goal, importer_goal, link_goal, or_else, snapshot_goal}
use Rattle.pn_lock.specs.Locks.{Locked, folders_of, paths_of}
use Rattle.pn_tree.specs.declared.instance.Instance.{Instance}
use Rattle.pn_tree.specs.declared.instance.Target.{Target}
use Rattle.pn_tree.specs.declared.instance.Top.{Top}
use Rattle.pn_tree.specs.Trees.{home, content, leaf, managed as managed_entry}
use Rattle.pn_tree.specs.Laws as tree
use Rattle.pn_tree.proofs.BuiltLemmas.{built}
use Rattle.pn_tree.proofs.FindsLemmas.{finds as tree_finds}
use Rattle.pn_tree.proofs.LeafLemmas.{in_flat_map}
use Rattle.pn_tree.proofs.SoundLemmas.{sound}
use Rattle.pn_lock_layout.specs.declared.hoist.Hoist.{Hoist}
use Rattle.pn_lock_layout.specs.Laws.{IsInstalled, FindsOwn, FindsAll, FindsLaw, HeldLaw}
use Rattle.pn_lock_layout.specs.Places.{folder_of, goal_folder, home_of}
use Rattle.pn_lock_layout.specs.Layouts.{all_dependencies, all_links, hoist_top, instance_of, lock_layout, project_managed, project_tops, target_of, top_of}
use Rattle.pn_lock_layout.specs.Placed.{AreListings, IsPlaced}
use Rattle.pn_lock_layout.proofs.LockLemmas.{in_all}
use Rattle.pn_lock_layout.proofs.SoundLemmas.{dependency_of_importer, link_of_snapshot, project_in, sound_layout, OfProject, top_from}

-- ---- what names lead to, as members

link_in : (x : List ℕ) (ks : List LockLink) (to : LockGoal) → link_goal x ks ≡ Some to → (k : LockLink) × Contains ks k × (k.alias ≡ x) × (k.to ≡ to)
link_in x [] to h = cc
link_in x (k ∷ ks) to h = elim (bytes_eq k.alias x) as (λ b. bytes_eq k.alias x ≡ b → cond b (Some k.to) (link_goal x ks) ≡ Some to → (j : LockLink) × Contains (k ∷ ks) j × (j.alias ≡ x) × (j.to ≡ to)) [
  | true ↦ λ is e. (k, here k ks, (bytes_eq-Decides k.alias x).0 is, let same : k.to ≡ to = cc in same)
  | false ↦ λ is e. let r = link_in x ks to e in (r.0, there k ks r.0 r.1, r.2, r.3)
] refl h

no_link_in : (x : List ℕ) (ks : List LockLink) → link_goal x ks ≡ None → (k : LockLink) → Contains ks k → k.alias ≢ x
no_link_in x [] h j c e = none_in j c
no_link_in x (k ∷ ks) h j c e = elim (bytes_eq k.alias x) as (λ b. bytes_eq k.alias x ≡ b → cond b (Some k.to) (link_goal x ks) ≡ None → ⊥) [
  | true ↦ λ is g. cc
  | false ↦ λ is g. elim (in_cons k ks j c) [
    | inl same ↦ let no : false ≡ true = sym is ∙ (bytes_eq-Decides k.alias x).1 (ap (λ (i : LockLink). i.alias) same ∙ e) in cc
    | inr more ↦ no_link_in x ks g j more e
  ]
] refl h

dependency_in : (x : List ℕ) (ds : List LockDependency) (to : LockGoal) → dependency_goal x ds ≡ Some to → (d : LockDependency) × Contains ds d × (d.alias ≡ x) × (d.to ≡ to)
dependency_in x [] to h = cc
dependency_in x (d ∷ ds) to h = elim (bytes_eq d.alias x) as (λ b. bytes_eq d.alias x ≡ b → cond b (Some d.to) (dependency_goal x ds) ≡ Some to → (j : LockDependency) × Contains (d ∷ ds) j × (j.alias ≡ x) × (j.to ≡ to)) [
  | true ↦ λ is e. (d, here d ds, (bytes_eq-Decides d.alias x).0 is, let same : d.to ≡ to = cc in same)
  | false ↦ λ is e. let r = dependency_in x ds to e in (r.0, there d ds r.0 r.1, r.2, r.3)
] refl h

either_goal : (a b : Option LockGoal) (to : LockGoal) → or_else a b ≡ Some to → (a ≡ Some to) ⊎ (b ≡ Some to)
either_goal None b to h = inr h
either_goal (Some g) b to h = inl h

neither_goal : (a b : Option LockGoal) → or_else a b ≡ None → (a ≡ None) × (b ≡ None)
neither_goal None b h = (refl, h)
neither_goal (Some g) b h = cc

snapshot_link : (s : LockSnapshot) (x : List ℕ) (to : LockGoal) → snapshot_goal x s ≡ Some to → (k : LockLink) × Contains (all_links s) k × (k.alias ≡ x) × (k.to ≡ to)
snapshot_link s x to h = elim (either_goal (link_goal x s.dependencies) (link_goal x s.optional) to h) [
  | inl a ↦ let r = link_in x s.dependencies to a in (r.0, Contains-append_left s.dependencies s.optional r.0 r.1, r.2, r.3)
  | inr b ↦ let r = link_in x s.optional to b in (r.0, Contains-append_right s.dependencies s.optional r.0 r.1, r.2, r.3)
]

no_snapshot_link : (s : LockSnapshot) (x : List ℕ) → snapshot_goal x s ≡ None → (k : LockLink) → Contains (all_links s) k → k.alias ≢ x
no_snapshot_link s x h k c =
    let n = neither_goal (link_goal x s.dependencies) (link_goal x s.optional) h in
    elim (Contains-append_cases s.dependencies s.optional k c) [ inl a ↦ no_link_in x s.dependencies n.0 k a | inr b ↦ no_link_in x s.optional n.1 k b ]

importer_dependency : (i : LockImporter) (x : List ℕ) (to : LockGoal) → importer_goal x i ≡ Some to → (d : LockDependency) × Contains (all_dependencies i) d × (d.alias ≡ x) × (d.to ≡ to)
importer_dependency i x to h = elim (either_goal (dependency_goal x i.dependencies) (or_else (dependency_goal x i.dev) (dependency_goal x i.optional)) to h) [
  | inl a ↦ let r = dependency_in x i.dependencies to a in (r.0, Contains-append_left i.dependencies (i.dev ++ i.optional) r.0 r.1, r.2, r.3)
  | inr b ↦ elim (either_goal (dependency_goal x i.dev) (dependency_goal x i.optional) to b) [
    | inl a ↦ let r = dependency_in x i.dev to a in (r.0, Contains-append_right i.dependencies (i.dev ++ i.optional) r.0 (Contains-append_left i.dev i.optional r.0 r.1), r.2, r.3)
    | inr a ↦ let r = dependency_in x i.optional to a in (r.0, Contains-append_right i.dependencies (i.dev ++ i.optional) r.0 (Contains-append_right i.dev i.optional r.0 r.1), r.2, r.3)
  ]
]

-- ---- the whole

module _ (apart : FolderLaw) (u : Tree) (l : Locked) (root store : Path) (hoisted : List Hoist) (listings : List (List Entry)) (tree_is : IsTree u) (kept : IsLock l) (placed : IsPlaced l root store hoisted) (listed : AreListings l listings)
    (installed : IsInstalled u l root store hoisted listings) where
  -- a project's folder stands
  project_stands : (i : LockImporter) → Contains l.importers i → u (folder_of root i.folder) ≡ Some folder
  project_stands i c =
      let m = project_managed root i in
      let planned = (installed.entries m.0 Folder).1 (managed_entry m (project_in l root store i c)) in
      tree_is.parents modules (folder_of root i.folder) folder (installed.has.planned (m.0, Folder) planned)

  -- what a link leads to
  lead_is : (to : LockGoal) → InRange l to
      → ((h : Instance) × Contains (map (instance_of (goal_folder l root store) l listings) l.snapshots) h × (goal_folder l root store to ≡ home store h)) ⊎ (u (goal_folder l root store to) ≡ Some folder)
  lead_is (goal.Importer n) h =
      let i = from_map (λ (j : LockImporter). j.folder) l.importers (get_or (folders_of l.importers) n []) (Contains-get_or (folders_of l.importers) n [] (omega (arith, h, length-map l.importers (λ (j : LockImporter). j.folder)))) in
      inr (subst (λ t. u (folder_of root t) ≡ Some folder) i.2 (project_stands i.0 i.1))
  lead_is (goal.Snapshot n) h =
      let s = from_map (λ (j : LockSnapshot). j.path) l.snapshots (get_or (paths_of l.snapshots) n []) (Contains-get_or (paths_of l.snapshots) n [] (omega (arith, h, length-map l.snapshots (λ (j : LockSnapshot). j.path)))) in
      inl (instance_of (goal_folder l root store) l listings s.0, to_map (instance_of (goal_folder l root store) l listings) l.snapshots s.0 s.1, ap (home_of (paths_of l.snapshots) store) (sym s.2))

  top_led : (t : Top) → OfProject apart l root store hoisted kept placed (goal_folder l root store) listings listed t ⊎ ((h : Hoist) × Contains hoisted h × (hoist_top (goal_folder l root store) h ≡ t))
      → ((h : Instance) × Contains (map (instance_of (goal_folder l root store) l listings) l.snapshots) h × (t.to ≡ home store h)) ⊎ (u t.to ≡ Some folder)
  top_led t (inl o) =
      subst (λ (v : Top). ((h : Instance) × Contains (map (instance_of (goal_folder l root store) l listings) l.snapshots) h × (v.to ≡ home store h)) ⊎ (u v.to ≡ Some folder)) o.is
      (lead_is o.dependency.to (dependency_of_importer l o.importer (in_all (IsImporter l) l.importers o.importer kept.importers o.among) o.dependency o.has).range)
  top_led t (inr h) =
      subst (λ (v : Top). ((g : Instance) × Contains (map (instance_of (goal_folder l root store) l listings) l.snapshots) g × (v.to ≡ home store g)) ⊎ (u v.to ≡ Some folder)) h.2
      (lead_is (goal.Snapshot h.0.to) (placed.hoists h.0 h.1).range)

  whole_tree : tree.AreWhole u (lock_layout l root store hoisted listings)
  whole_tree = record {
    links = λ g k gc kc.
        let s = from_map (instance_of (goal_folder l root store) l listings) l.snapshots g gc in
        let j = from_map (target_of (goal_folder l root store)) (all_links s.0) k (subst (λ (h : Instance). Contains h.links k) (sym s.2) kc) in
        subst (λ (v : Target). ((h : Instance) × Contains (map (instance_of (goal_folder l root store) l listings) l.snapshots) h × (v.to ≡ home store h)) ⊎ (u v.to ≡ Some folder)) j.2
        (lead_is j.0.to (link_of_snapshot l s.0 (in_all (IsSnapshot l) l.snapshots s.0 kept.snapshots s.1) j.0 j.1).range);
    tops = λ t c. top_led t (top_from apart l root store hoisted kept placed (goal_folder l root store) listings listed t c);
  }

  finds_own : (s : LockSnapshot) (from : Path) → tree.FindsOwn u (lock_layout l root store hoisted listings) (instance_of (goal_folder l root store) l listings s) from → FindsOwn u l root store s from
  finds_own s from h = record {
    own = h.own;
    link = λ x to e.
        let k = snapshot_link s x to e in
        let found = h.dependency (target_of (goal_folder l root store) k.0) (to_map (target_of (goal_folder l root store)) (all_links s) k.0 k.1) in
        subst (λ n. find u from (name_path n) ≡ Some (goal_folder l root store to)) k.2 (subst (λ g. find u from (name_path k.0.alias) ≡ Some (goal_folder l root store g)) k.3 found);
    other = λ x named not_own none. h.other x named not_own (λ j c e.
        let k = from_map (target_of (goal_folder l root store)) (all_links s) j c in
        no_snapshot_link s x none k.0 k.1 (ap (λ (t : Target). t.name) k.2 ∙ e));
  }

  pub all_found : FindsAll u l root store hoisted
  all_found =
      let w = lock_layout l root store hoisted listings in
      let lead = goal_folder l root store in
      let good = sound_layout apart l root store hoisted kept placed lead listings listed in
      let all = tree_finds u w tree_is (sound u w good) whole_tree (built w installed.plan u installed.entries installed.has) in
      record {
        inside = λ s inner c here. finds_own s (inner ++ home_of (paths_of l.snapshots) store s.path) (all.inside (instance_of lead l listings s) inner (to_map (instance_of lead l listings) l.snapshots s c) here);
        project = λ i x to c other e.
            let d = importer_dependency i x to e in
            let t = top_of lead (folder_of root i.folder) d.0 in
            let among = Contains-append_left (flat_map (project_tops lead root) l.importers) (map (hoist_top lead) hoisted) t (in_flat_map (project_tops lead root) l.importers i t c (to_map (top_of lead (folder_of root i.folder)) (all_dependencies i) d.0 d.1)) in
            let found = all.tops t (folder_of root i.folder) among refl other in
            subst (λ n. find u (folder_of root i.folder) (name_path n) ≡ Some (lead to)) d.2 (subst (λ g. find u (folder_of root i.folder) (name_path d.0.alias) ≡ Some (lead g)) d.3 found);
        hoist = λ h place c holder other. all.tops (hoist_top lead h) place (Contains-append_right (flat_map (project_tops lead root) l.importers) (map (hoist_top lead) hoisted) (hoist_top lead h) (to_map (hoist_top lead) hoisted h c)) holder other;
      }

pub finds : FolderLaw → FindsLaw
finds apart u l root store hoisted listings tree_is kept placed listed installed = all_found apart u l root store hoisted listings tree_is kept placed listed installed

-- the files of the packages stand
pub held : HeldLaw
held u l root store hoisted listings h s f d c fc =
    let g = instance_of (goal_folder l root store) l listings s in
    let q = f ++ home_of (paths_of l.snapshots) store s.path in
    h.has.planned (q, Stored d) ((h.entries q (Stored d)).1 (leaf q (Stored d) (content g f d (to_map (instance_of (goal_folder l root store) l listings) l.snapshots s c) fc)))
