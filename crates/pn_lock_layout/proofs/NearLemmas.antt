-- Where no path is too long the links lead where the lock says; and where links lead doesn't matter for paths.
use Rattle.std.proofs.Common.{◌≡◌, ◌≤◌, ◌<◌, ℕ, List, [], ◌∷◌, ◌++◌, map, length, get_or, refl, sym, ap, ◌∙◌, subst, true, false, arith, inl, inr, Ok, Err}
use Rattle.std.specs.Prelude.{nat_lt, if◌then◌else◌, Result, IfOk, OnOk}
use Rattle.std.specs.List.{Contains, flat_map}
use Rattle.std.proofs.lemmas.Bool.{ltb-true}
use Rattle.std.proofs.lemmas.List.{get_or-map, length-map}
use Rattle.std.proofs.lemmas.List.Elements.{Contains-append_cases, Contains-append_left, Contains-append_right, Contains-get_or}
use Rattle.pn_text.specs.declared.limits.TheConstants.{PATH_LIMIT}
use Rattle.pn_text.specs.Path.{Path, path_text}
use Rattle.pn_text.proofs.Members.{from_map, to_map, here, there}
use Rattle.pn_digest.specs.Listing.{Entry}
use Rattle.pn_digest.specs.declared.planned.Planned.TheVariants.{Folder}
use Rattle.pn_layout.specs.Layout.{Fits}
use Rattle.pn_layout.proofs.AlikeLemmas.{HasPathsOf, HavePathsOf, long_of}
use Rattle.pn_lock.specs.declared.goal.LockGoal.{LockGoal}
use Rattle.pn_lock.specs.declared.goal.LockGoal.TheVariants as goal
use Rattle.pn_lock.specs.declared.lists.LockImporter.{LockImporter}
use Rattle.pn_lock.specs.declared.lists.LockSnapshot.{LockSnapshot}
use Rattle.pn_lock.specs.Kept.{InRange, IsImporter, IsLock, IsSnapshot}
use Rattle.pn_lock.specs.Locks.{Locked, folders_of, paths_of}
use Rattle.pn_tree.specs.declared.instance.Instance.{Instance}
use Rattle.pn_tree.specs.declared.instance.Target.{Target}
use Rattle.pn_tree.specs.declared.instance.Top.{Top}
use Rattle.pn_tree.specs.Trees.{Layout, Managed, laid, own, leaf}
use Rattle.pn_tree.specs.Refusals.{IsTooLong, LayoutRefused}
use Rattle.pn_tree.specs.declared.fault.LayoutFault.{LayoutFault}
use Rattle.pn_tree.specs.declared.fault.LayoutFault.TheVariants.{TooLong, Memory as no_memory}
use Rattle.pn_tree.proofs.LeafLemmas.{from_flat_map, in_flat_map}
use Rattle.pn_lock_layout.specs.declared.folders.Folders.{Folders}
use Rattle.pn_lock_layout.specs.declared.hoist.Hoist.{Hoist}
use Rattle.pn_lock_layout.specs.Folders.{found_folder, near_home}
use Rattle.pn_lock_layout.specs.Places.{folder_of, goal_folder, home_of}
use Rattle.pn_lock_layout.specs.Layouts.{all_dependencies, all_links, hoist_top, instance_of, layout_to, lock_layout, managed_of, project_tops, target_of, top_of, tops_of}
use Rattle.pn_lock_layout.specs.Placed.{IsPlaced}
use Rattle.pn_lock_layout.proofs.LockLemmas.{in_all}
use Rattle.pn_lock_layout.proofs.SoundLemmas.{dependency_of_importer, link_of_snapshot}

-- ---- where links lead doesn't matter for paths

module _ (l : Locked) (root : Path) (listings : List (List Entry)) (lead other : LockGoal → Path) where
  alike : (s : LockSnapshot) → HasPathsOf (instance_of lead l listings s) (instance_of other l listings s)
  alike s = record {
    dir = refl;
    name = refl;
    files = λ f d c. (d, c);
    links = λ k c.
        let a = from_map (target_of lead) (all_links s) k c in
        (target_of other a.0, to_map (target_of other) (all_links s) a.0 a.1, sym (ap (λ (j : Target). j.name) a.2));
  }

  alike_top : (hoisted : List Hoist) (t : Top) → Contains (tops_of lead root l.importers hoisted) t → (u : Top) × Contains (tops_of other root l.importers hoisted) u × (t.holder ≡ u.holder) × (t.name ≡ u.name)
  alike_top hoisted t c = elim (Contains-append_cases (flat_map (project_tops lead root) l.importers) (map (hoist_top lead) hoisted) t c) [
    | inl a ↦
        let i = from_flat_map (project_tops lead root) l.importers t a in
        let d = from_map (top_of lead (folder_of root i.0.folder)) (all_dependencies i.0) t i.2 in
        let u = top_of other (folder_of root i.0.folder) d.0 in (
          u,
          Contains-append_left (flat_map (project_tops other root) l.importers) (map (hoist_top other) hoisted) u (in_flat_map (project_tops other root) l.importers i.0 u i.1 (to_map (top_of other (folder_of root i.0.folder)) (all_dependencies i.0) d.0 d.1)),
          sym (ap (λ (v : Top). v.holder) d.2),
          sym (ap (λ (v : Top). v.name) d.2),
        )
    | inr b ↦
        let h = from_map (hoist_top lead) hoisted t b in (
          hoist_top other h.0,
          Contains-append_right (flat_map (project_tops other root) l.importers) (map (hoist_top other) hoisted) (hoist_top other h.0) (to_map (hoist_top other) hoisted h.0 h.1),
          sym (ap (λ (v : Top). v.holder) h.2),
          sym (ap (λ (v : Top). v.name) h.2),
        )
  ]

  pub alike_to : (hoisted : List Hoist) → HavePathsOf (map (instance_of lead l listings) l.snapshots) (map (instance_of other l listings) l.snapshots) (tops_of lead root l.importers hoisted) (tops_of other root l.importers hoisted)
  alike_to hoisted = record {
    instances = λ g c.
        let s = from_map (instance_of lead l listings) l.snapshots g c in
        (instance_of other l listings s.0, to_map (instance_of other l listings) l.snapshots s.0 s.1, subst (λ h. HasPathsOf h (instance_of other l listings s.0)) s.2 (alike s.0));
    tops = alike_top hoisted;
  }

pub long_to : (l : Locked) (root store : Path) (hoisted : List Hoist) (listings : List (List Entry)) (lead other : LockGoal → Path) (n : ℕ) → IsTooLong (layout_to lead l root store hoisted listings) n → IsTooLong (layout_to other l root store hoisted listings) n
long_to l root store hoisted listings lead other n h =
    long_of store (managed_of root store l.importers) (map (instance_of lead l listings) l.snapshots) (map (instance_of other l listings) l.snapshots) (tops_of lead root l.importers hoisted) (tops_of other root l.importers hoisted) n
    (alike_to l root listings lead other hoisted) (alike_to l root listings other lead hoisted) h

-- ---- links that lead to one folder each

map_same : {X Y : Type 0} (f g : X → Y) (xs : List X) → ((x : X) → Contains xs x → f x ≡ g x) → map f xs ≡ map g xs
map_same f g [] h = refl
map_same f g (x ∷ xs) h =
    let first = h x (here x xs) in
    let rest = map_same f g xs (λ y c. h y (there x xs y c)) in
    λ i. first i ∷ rest i

flat_same : {X Y : Type 0} (f g : X → List Y) (xs : List X) → ((x : X) → Contains xs x → f x ≡ g x) → flat_map f xs ≡ flat_map g xs
flat_same f g [] h = refl
flat_same f g (x ∷ xs) h =
    let first = h x (here x xs) in
    let rest = flat_same f g xs (λ y c. h y (there x xs y c)) in
    λ i. first i ++ rest i

module _ (l : Locked) (root store : Path) (hoisted : List Hoist) (listings : List (List Entry)) (kept : IsLock l) (placed : IsPlaced l root store hoisted) where
  pub same_lead : (lead other : LockGoal → Path) → ((to : LockGoal) → InRange l to → lead to ≡ other to) → layout_to lead l root store hoisted listings ≡ layout_to other l root store hoisted listings
  same_lead lead other one =
      let gs = map_same (instance_of lead l listings) (instance_of other l listings) l.snapshots same_instance in
      let ps = flat_same (project_tops lead root) (project_tops other root) l.importers same_project in
      let hs = map_same (hoist_top lead) (hoist_top other) hoisted (λ h c. λ i. record { holder = h.holder; name = h.name; to = one (goal.Snapshot h.to) (placed.hoists h c).range i }) in
      λ i. laid store (managed_of root store l.importers) (gs i) (ps i ++ hs i) where
        same_instance : (s : LockSnapshot) → Contains l.snapshots s → instance_of lead l listings s ≡ instance_of other l listings s
        same_instance s c =
            let ks = map_same (target_of lead) (target_of other) (all_links s) (λ k kc. λ i. record { name = k.alias; to = one k.to (link_of_snapshot l s (in_all (IsSnapshot l) l.snapshots s kept.snapshots c) k kc).range i }) in
            λ i. record { dir = (instance_of lead l listings s).dir; name = (instance_of lead l listings s).name; files = (instance_of lead l listings s).files; links = ks i }

        same_project : (i : LockImporter) → Contains l.importers i → project_tops lead root i ≡ project_tops other root i
        same_project i c = map_same (top_of lead (folder_of root i.folder)) (top_of other (folder_of root i.folder)) (all_dependencies i)
            (λ d dc. λ j. let t : Top = top_of lead (folder_of root i.folder) d in record { holder = t.holder; name = d.alias; to = one d.to (dependency_of_importer l i (in_all (IsImporter l) l.importers i kept.importers c) d dc).range j })

  module _ (f : Folders) (importers_are : f.importers.items ≡ map (folder_of root) (folders_of l.importers)) (snapshots_are : f.snapshots.items ≡ map (near_home (paths_of l.snapshots) root store) (paths_of l.snapshots)) where
    near_short : (path : List ℕ) → length (path_text (home_of (paths_of l.snapshots) store path)) ≤ PATH_LIMIT → near_home (paths_of l.snapshots) root store path ≡ home_of (paths_of l.snapshots) store path
    near_short path h =
        let p = home_of (paths_of l.snapshots) store path in
        elim (nat_lt PATH_LIMIT (length (path_text p))) as (λ b. nat_lt PATH_LIMIT (length (path_text p)) ≡ b → (if b then root else p) ≡ p) [
          | true ↦ λ is. let long : PATH_LIMIT < length (path_text p) = ltb-true PATH_LIMIT (length (path_text p)) is in absurd (omega (arith, long, h))
          | false ↦ λ is. refl
        ] refl

    -- each package folder is planned
    home_short : (lead : LockGoal → Path) → Fits (layout_to lead l root store hoisted listings) → (path : List ℕ) → Contains (paths_of l.snapshots) path → length (path_text (home_of (paths_of l.snapshots) store path)) ≤ PATH_LIMIT
    home_short lead fits path c =
        let s = from_map (λ (t : LockSnapshot). t.path) l.snapshots path c in
        let g = instance_of lead l listings s.0 in
        subst (λ p. length (path_text (home_of (paths_of l.snapshots) store p)) ≤ PATH_LIMIT) s.2
        (fits (home_of (paths_of l.snapshots) store s.0.path) Folder (leaf (home_of (paths_of l.snapshots) store s.0.path) Folder (own g (to_map (instance_of lead l listings) l.snapshots s.0 s.1))))

    leads : (lead : LockGoal → Path) → Fits (layout_to lead l root store hoisted listings) → (to : LockGoal) → InRange l to → found_folder f to ≡ goal_folder l root store to
    leads lead fits (goal.Importer n) h =
        let within : n < length (folders_of l.importers) = omega (arith, h, length-map l.importers (λ (i : LockImporter). i.folder)) in
        ap (λ ps. get_or ps n f.root) importers_are ∙ get_or-map (folder_of root) (folders_of l.importers) n [] f.root within
    leads lead fits (goal.Snapshot n) h =
        let within : n < length (paths_of l.snapshots) = omega (arith, h, length-map l.snapshots (λ (s : LockSnapshot). s.path)) in
        ap (λ ps. get_or ps n f.root) snapshots_are ∙ get_or-map (near_home (paths_of l.snapshots) root store) (paths_of l.snapshots) n [] f.root within
        ∙ near_short (get_or (paths_of l.snapshots) n []) (home_short lead fits (get_or (paths_of l.snapshots) n []) (Contains-get_or (paths_of l.snapshots) n [] within))

    -- where no path is too long, the layout is the lock's
    pub fits_is : (w : Layout) → w ≡ layout_to (found_folder f) l root store hoisted listings → Fits w → w ≡ lock_layout l root store hoisted listings
    fits_is w e fits = e ∙ same_lead (found_folder f) (goal_folder l root store) (leads (found_folder f) (subst Fits e fits))

    pub refused_near : (w : Layout) → w ≡ layout_to (found_folder f) l root store hoisted listings → (fault : LayoutFault) → LayoutRefused w fault → LayoutRefused (lock_layout l root store hoisted listings) fault
    refused_near w e (TooLong n) h = long_to l root store hoisted listings (found_folder f) (goal_folder l root store) n (subst (λ v. IsTooLong v n) e h)
    refused_near w e no_memory h = tt

-- the layout of the parts that were made
pub made_is : (l : Locked) (root store : Path) (hoisted : List Hoist) (listings : List (List Entry)) (f : Folders) (is js : List LockImporter) (ms : List Managed) (gs : List Instance) (ts : List Top) → is ≡ l.importers → js ≡ l.importers
    → ms ≡ managed_of root store is → gs ≡ map (instance_of (found_folder f) l listings) l.snapshots → ts ≡ tops_of (found_folder f) root js hoisted → laid store ms gs ts ≡ layout_to (found_folder f) l root store hoisted listings
made_is l root store hoisted listings f is js ms gs ts i j m g t =
    let m0 = m ∙ ap (managed_of root store) i in
    let t0 = t ∙ ap (λ (xs : List LockImporter). tops_of (found_folder f) root xs hoisted) j in
    λ k. laid store (m0 k) (g k) (t0 k)

pub ok_with : {T E A : Type 0} {P Q : T → Type 0} (r : Result T E) → (A → (v : T) → P v → Q v) → OnOk r A → IfOk r P → IfOk r Q
ok_with (Ok v) f a h = f a v h
ok_with (Err e) f a h = tt
