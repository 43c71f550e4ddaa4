-- What is printed of a lock has no key twice in a map.
use Rattle.std.proofs.Common.{◌≡◌, ℕ, Bool, true, false, List, [], ◌∷◌, map, refl, sym, ap, ◌∙◌, subst}
use Rattle.std.specs.Prelude.{◌&&◌, ◌||◌, not, Option, Some, None, bytes_eq, codes}
use Rattle.std.specs.List.{AllByRecursion}
use Rattle.std.specs.List.Sorted.{IsStrictlySortedBy}
use Rattle.std.specs.Cmp.Lexicographic.{slice_cmp}
use Rattle.std.specs.Ordering.{nat_cmp}
use Rattle.std.specs.declared.cmp.Ordering.TheVariants.{Less}
use Rattle.pn_yaml.specs.Data.{Data, Members, no_members, member, is_among, are_apart, items_apart, members_apart}
use Rattle.pn_yaml.specs.Data.{map as map_data}
use Rattle.pn_lock.specs.declared.lists.LockCatalog.{LockCatalog}
use Rattle.pn_lock.specs.declared.lists.LockDependency.{LockDependency}
use Rattle.pn_lock.specs.declared.lists.LockImporter.{LockImporter}
use Rattle.pn_lock.specs.declared.lists.LockLink.{LockLink}
use Rattle.pn_lock.specs.declared.lists.LockPackage.{LockPackage}
use Rattle.pn_lock.specs.declared.lists.LockPeer.{LockPeer}
use Rattle.pn_lock.specs.declared.lists.LockSnapshot.{LockSnapshot}
use Rattle.pn_lock.specs.declared.lists.Override.{Override}
use Rattle.pn_lock.specs.Kept.{IsLock, IsImporter, IsPackage, IsSnapshot, Rises}
use Rattle.pn_lock.specs.Locks.{Locked, Group, groups_of}
use Rattle.pn_lock.proofs.KeptLemmas.{all_any, all_from, less_other, map_same}
use Rattle.pn_lock_print.specs.LockData.{catalog_data, group_data, dependency_data, dependencies_data, importer_data, package_data, link_data, links_data, optional_data, snapshot_data, lock_data, text, text_items, names_data, truth}
use Rattle.pn_lock_print.specs.Members.{put, entries, filled}

-- none of these keys is among those before
abbrev Fresh : List (List ℕ) → List (List ℕ) → Type 0
Fresh seen ks = AllByRecursion (λ k. is_among k seen ≡ false) ks

fresh_more : (k : List ℕ) (seen ks : List (List ℕ)) → AllByRecursion (λ y. slice_cmp nat_cmp k y ≡ Less) ks → Fresh seen ks → Fresh (k ∷ seen) ks
fresh_more k seen [] h g = tt
fresh_more k seen (y ∷ ks) h g = (ap (λ o. o || is_among y seen) (less_other k y h.0) ∙ g.0, fresh_more k seen ks h.1 g.1)

-- entries whose keys rise
entries_apart : {A : Type 0} (key : A → List ℕ) (write : A → Data) (seen : List (List ℕ)) (xs : List A)
    → Rises (map key xs) → Fresh seen (map key xs) → AllByRecursion (λ x. are_apart (write x) ≡ true) xs → members_apart seen (entries key write xs) ≡ true
unfolding IsStrictlySortedBy
entries_apart key write seen [] r f h = refl
entries_apart key write seen (x ∷ xs) r f h =
    ap (λ o. not o && (are_apart (write x) && members_apart (key x ∷ seen) (entries key write xs))) f.0
    ∙ ap (λ o. o && members_apart (key x ∷ seen) (entries key write xs)) h.0
    ∙ entries_apart key write (key x ∷ seen) xs r.1 (fresh_more (key x) seen (map key xs) r.0 f.1) h.1

pub map_apart : {A : Type 0} (key : A → List ℕ) (write : A → Data) (xs : List A) → Rises (map key xs) → AllByRecursion (λ x. are_apart (write x) ≡ true) xs → are_apart (map_data (entries key write xs)) ≡ true
map_apart key write xs r h = entries_apart key write [] xs r (all_any (λ k. is_among k [] ≡ false) (λ k. refl) (map key xs)) h

abbrev OptApart : Option Data → Type 0
OptApart None = Unit {0}
OptApart (Some d) = are_apart d ≡ true

filled_apart : {A : Type 0} (key : A → List ℕ) (write : A → Data) (xs : List A) → Rises (map key xs) → AllByRecursion (λ x. are_apart (write x) ≡ true) xs → OptApart (filled key write xs)
filled_apart key write [] r h = tt
filled_apart key write (x ∷ xs) r h = map_apart key write (x ∷ xs) r h

-- a field behind other keys; more keys before make it no worse where they are other ones
put_apart : (k : List ℕ) (o : Option Data) (seen : List (List ℕ)) (ms : Members) → is_among k seen ≡ false → OptApart o → members_apart seen ms ≡ true → members_apart (k ∷ seen) ms ≡ true → members_apart seen (put k o ms) ≡ true
put_apart k None seen ms f h g m = g
put_apart k (Some d) seen ms f h g m = ap (λ o. not o && (are_apart d && members_apart (k ∷ seen) ms)) f ∙ ap (λ o. o && members_apart (k ∷ seen) ms) h ∙ m

three_apart : (a b c : List ℕ) (x y z : Option Data) → bytes_eq a b ≡ false → bytes_eq a c ≡ false → bytes_eq b c ≡ false → OptApart x → OptApart y → OptApart z
    → are_apart (map_data (put a x (put b y (put c z no_members)))) ≡ true
three_apart a b c x y z ab ac bc hx hy hz =
    put_apart a x [] (put b y (put c z no_members)) refl hx
    (put_apart b y [] (put c z no_members) refl hy (put_apart c z [] no_members refl hz refl refl) (put_apart c z (b ∷ []) no_members (ap (λ o. o || false) bc) hz refl refl))
    (put_apart b y (a ∷ []) (put c z no_members) (ap (λ o. o || false) ab) hy
    (put_apart c z (a ∷ []) no_members (ap (λ o. o || false) ac) hz refl refl)
    (put_apart c z (b ∷ a ∷ []) no_members (ap (λ o. o || (bytes_eq a c || false)) bc ∙ ap (λ o. o || false) ac) hz refl refl))

dependencies_apart : (l : Locked) (base : List ℕ) (ds : List LockDependency) → Rises (map (λ (d : LockDependency). d.alias) ds) → OptApart (dependencies_data l base ds)
dependencies_apart l base ds r = filled_apart (λ (d : LockDependency). d.alias) (dependency_data l base) ds r (all_any (λ d. are_apart (dependency_data l base d) ≡ true) (λ d. refl) ds)

pub importer_apart : (l : Locked) (i : LockImporter) → IsImporter l i → are_apart (importer_data l i) ≡ true
importer_apart l i h =
    three_apart (codes "dependencies") (codes "devDependencies") (codes "optionalDependencies") _ _ _ refl refl refl
    (dependencies_apart l i.folder i.dependencies h.dependencies_rise) (dependencies_apart l i.folder i.dev h.dev_rise) (dependencies_apart l i.folder i.optional h.optional_rise)

links_apart : (l : Locked) (ks : List LockLink) → Rises (map (λ (k : LockLink). k.alias) ks) → OptApart (links_data l ks)
links_apart l ks r = filled_apart (λ (k : LockLink). k.alias) (link_data l) ks r (all_any (λ k. are_apart (link_data l k) ≡ true) (λ k. refl) ks)

names_apart : (ks : List (List ℕ)) → items_apart (text_items ks) ≡ true
names_apart [] = refl
names_apart (k ∷ ks) = names_apart ks

list_apart : (ks : List (List ℕ)) → OptApart (names_data ks)
list_apart [] = tt
list_apart (k ∷ ks) = names_apart (k ∷ ks)

pub snapshot_apart : (l : Locked) (s : LockSnapshot) → IsSnapshot l s → are_apart (snapshot_data l s) ≡ true
snapshot_apart l s h =
    three_apart (codes "dependencies") (codes "optionalDependencies") (codes "transitivePeerDependencies") _ _ _ refl refl refl
    (links_apart l s.dependencies h.dependencies_rise) (links_apart l s.optional h.optional_rise) (list_apart s.transitive)

pub package_apart : (p : LockPackage) → IsPackage p → are_apart (package_data p) ≡ true
package_apart p h =
    let name : LockPeer → List ℕ = λ q. q.name in
    let meta : List ℕ → Data = λ k. optional_data in
    let y = filled name (λ q. text q.range) p.peers in
    let z = filled (λ (k : List ℕ). k) meta p.optional_peers in
    let hy : OptApart y = filled_apart name (λ q. text q.range) p.peers h.peers_rise (all_any (λ q. are_apart (text q.range) ≡ true) (λ q. refl) p.peers) in
    let hz : OptApart z = filled_apart (λ (k : List ℕ). k) meta p.optional_peers (subst Rises (sym (map_same p.optional_peers)) h.optional_rise) (all_any (λ k. are_apart (meta k) ≡ true) (λ k. refl) p.optional_peers) in
    put_apart (codes "peerDependencies") y (codes "resolution" ∷ []) (put (codes "peerDependenciesMeta") z no_members) refl hy
    (put_apart (codes "peerDependenciesMeta") z (codes "resolution" ∷ []) no_members refl hz refl refl)
    (put_apart (codes "peerDependenciesMeta") z (codes "peerDependencies" ∷ codes "resolution" ∷ []) no_members refl hz refl refl)

truth_apart : (b : Bool) → are_apart (map_data (member (codes "autoInstallPeers") (truth b) (member (codes "excludeLinksFromLockfile") (truth false) no_members))) ≡ true
truth_apart true = refl
truth_apart false = refl

pub lock_apart : (l : Locked) → IsLock l → are_apart (lock_data l) ≡ true
lock_apart l k =
    let o = codes "overrides" in
    let i = codes "importers" in
    let p = codes "packages" in
    let n = codes "snapshots" in
    let x = filled (λ (r : Override). r.selector) (λ (r : Override). text r.value) l.overrides in
    let all = map_data (entries (λ (j : LockImporter). j.folder) (importer_data l) l.importers) in
    let y = filled (λ (q : LockPackage). q.id) package_data l.packages in
    let z = filled (λ (s : LockSnapshot). s.path) (snapshot_data l) l.snapshots in
    let hx : OptApart x = filled_apart (λ (r : Override). r.selector) (λ (r : Override). text r.value) l.overrides k.overrides_rise (all_any (λ r. are_apart (text r.value) ≡ true) (λ r. refl) l.overrides) in
    let hi : are_apart all ≡ true = map_apart (λ (j : LockImporter). j.folder) (importer_data l) l.importers k.importers_rise (all_from l.importers (λ j h. importer_apart l j h) k.importers) in
    let hy : OptApart y = filled_apart (λ (q : LockPackage). q.id) package_data l.packages k.packages_rise (all_from l.packages (λ q h. package_apart q h) k.packages) in
    let hz : OptApart z = filled_apart (λ (s : LockSnapshot). s.path) (snapshot_data l) l.snapshots k.snapshots_rise (all_from l.snapshots (λ s h. snapshot_apart l s h) k.snapshots) in
    let c = codes "catalogs" in
    let w = filled (λ (g : Group). g.0) group_data (groups_of l.catalogs) in
    let hw : OptApart w = filled_apart (λ (g : Group). g.0) group_data (groups_of l.catalogs) k.catalogs_rise
    (all_from (groups_of l.catalogs) (λ g r. map_apart (λ (e : LockCatalog). e.name) catalog_data g.1 r (all_any (λ e. are_apart (catalog_data e) ≡ true) (λ e. refl) g.1)) k.entries_rise) in
    let s0 = codes "settings" ∷ codes "lockfileVersion" ∷ [] in
    let behind : (seen : List (List ℕ)) → is_among o seen ≡ false → members_apart seen (member i all (put p y (put n z no_members))) ≡ true → members_apart (o ∷ seen) (member i all (put p y (put n z no_members))) ≡ true
    → members_apart seen (put o x (member i all (put p y (put n z no_members)))) ≡ true = λ seen f g h. put_apart o x seen (member i all (put p y (put n z no_members))) f hx g h in
    let s1 = o ∷ s0 in
    let t0 = c ∷ s0 in
    let t1 = o ∷ t0 in
    let rest = put p y (put n z no_members) in
    let rest0 : members_apart (i ∷ s0) rest ≡ true = put_apart p y (i ∷ s0) (put n z no_members) refl hy (put_apart n z (i ∷ s0) no_members refl hz refl refl) (put_apart n z (p ∷ i ∷ s0) no_members refl hz refl refl) in
    let rest1 : members_apart (i ∷ s1) rest ≡ true = put_apart p y (i ∷ s1) (put n z no_members) refl hy (put_apart n z (i ∷ s1) no_members refl hz refl refl) (put_apart n z (p ∷ i ∷ s1) no_members refl hz refl refl) in
    let rest2 : members_apart (i ∷ t0) rest ≡ true = put_apart p y (i ∷ t0) (put n z no_members) refl hy (put_apart n z (i ∷ t0) no_members refl hz refl refl) (put_apart n z (p ∷ i ∷ t0) no_members refl hz refl refl) in
    let rest3 : members_apart (i ∷ t1) rest ≡ true = put_apart p y (i ∷ t1) (put n z no_members) refl hy (put_apart n z (i ∷ t1) no_members refl hz refl refl) (put_apart n z (p ∷ i ∷ t1) no_members refl hz refl refl) in
    ap (λ b. b && members_apart s0 (put c w (put o x (member i all rest)))) (truth_apart l.auto)
    ∙ put_apart c w s0 (put o x (member i all rest)) refl hw
    (behind s0 refl (ap (λ b. b && members_apart (i ∷ s0) rest) hi ∙ rest0) (ap (λ b. b && members_apart (i ∷ s1) rest) hi ∙ rest1))
    (behind t0 refl (ap (λ b. b && members_apart (i ∷ t0) rest) hi ∙ rest2) (ap (λ b. b && members_apart (i ∷ t1) rest) hi ∙ rest3))
