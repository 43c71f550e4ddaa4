-- How deep the levels of what is printed of a lock are nested.
use Rattle.std.proofs.Common.{ℕ, suc, ◌≤◌, Bool, true, false, List, [], ◌∷◌, arith}
use Rattle.std.specs.Prelude.{Option, Some, None, codes}
use Rattle.pn_yaml.specs.Data.{Data, Members, no_members, member, depth, items_depth, members_depth}
use Rattle.pn_yaml.specs.Data.{map as map_data}
use Rattle.pn_lock.specs.declared.lists.LockCatalog.{LockCatalog}
use Rattle.pn_lock.specs.declared.lists.LockDependency.{LockDependency}
use Rattle.pn_lock.specs.declared.lists.LockImporter.{LockImporter}
use Rattle.pn_lock.specs.declared.lists.LockLink.{LockLink}
use Rattle.pn_lock.specs.declared.lists.LockPackage.{LockPackage}
use Rattle.pn_lock.specs.declared.lists.LockPeer.{LockPeer}
use Rattle.pn_lock.specs.declared.lists.LockSnapshot.{LockSnapshot}
use Rattle.pn_lock.specs.declared.lists.Override.{Override}
use Rattle.pn_lock.specs.Locks.{Locked, Group, groups_of}
use Rattle.pn_lock_print.specs.LockData.{catalog_data, group_data, dependency_data, importer_data, package_data, link_data, links_data, optional_data, snapshot_data, lock_data, text, text_items, names_data, truth}
use Rattle.pn_lock_print.specs.Members.{put, entries, filled}

entries_flat : {A : Type 0} (n : ℕ) (key : A → List ℕ) (write : A → Data) (xs : List A) → ((x : A) → depth (write x) ≤ n) → members_depth (entries key write xs) ≤ n
entries_flat n key write [] h = omega arith
entries_flat n key write (x ∷ xs) h = omega (arith, h x, entries_flat n key write xs h)

abbrev OptFlat : ℕ → Option Data → Type 0
OptFlat n None = Unit {0}
OptFlat n (Some d) = depth d ≤ n

filled_flat : {A : Type 0} (n : ℕ) (key : A → List ℕ) (write : A → Data) (xs : List A) → ((x : A) → depth (write x) ≤ n) → OptFlat (suc n) (filled key write xs)
filled_flat n key write [] h = tt
filled_flat n key write (x ∷ xs) h = omega (arith, entries_flat n key write (x ∷ xs) h)

put_flat : (n : ℕ) (k : List ℕ) (o : Option Data) (ms : Members) → OptFlat n o → members_depth ms ≤ n → members_depth (put k o ms) ≤ n
put_flat n k None ms h g = g
put_flat n k (Some d) ms h g = omega (arith, h, g)

three_flat : (n : ℕ) (a b c : List ℕ) (x y z : Option Data) → OptFlat n x → OptFlat n y → OptFlat n z → depth (map_data (put a x (put b y (put c z no_members)))) ≤ suc n
three_flat n a b c x y z hx hy hz = omega (arith, put_flat n a x (put b y (put c z no_members)) hx (put_flat n b y (put c z no_members) hy (put_flat n c z no_members hz (omega arith))))

importer_flat : (l : Locked) (i : LockImporter) → depth (importer_data l i) ≤ 4
importer_flat l i =
    three_flat 3 (codes "dependencies") (codes "devDependencies") (codes "optionalDependencies") _ _ _
    (filled_flat 2 (λ (d : LockDependency). d.alias) (dependency_data l i.folder) i.dependencies (λ d. omega arith))
    (filled_flat 2 (λ (d : LockDependency). d.alias) (dependency_data l i.folder) i.dev (λ d. omega arith))
    (filled_flat 2 (λ (d : LockDependency). d.alias) (dependency_data l i.folder) i.optional (λ d. omega arith))

links_flat : (l : Locked) (ks : List LockLink) → OptFlat 3 (links_data l ks)
links_flat l ks = filled_flat 2 (λ (k : LockLink). k.alias) (link_data l) ks (λ k. omega arith)

items_flat : (ks : List (List ℕ)) → items_depth (text_items ks) ≤ 1
items_flat [] = omega arith
items_flat (k ∷ ks) = omega (arith, items_flat ks)

list_flat : (ks : List (List ℕ)) → OptFlat 3 (names_data ks)
list_flat [] = tt
list_flat (k ∷ ks) = omega (arith, items_flat (k ∷ ks))

snapshot_flat : (l : Locked) (s : LockSnapshot) → depth (snapshot_data l s) ≤ 4
snapshot_flat l s =
    three_flat 3 (codes "dependencies") (codes "optionalDependencies") (codes "transitivePeerDependencies") _ _ _ (links_flat l s.dependencies) (links_flat l s.optional) (list_flat s.transitive)

package_flat : (p : LockPackage) → depth (package_data p) ≤ 4
package_flat p =
    let name : LockPeer → List ℕ = λ q. q.name in
    let meta : List ℕ → Data = λ k. optional_data in
    let y = filled name (λ q. text q.range) p.peers in
    let z = filled (λ (k : List ℕ). k) meta p.optional_peers in
    omega (
      arith,
      put_flat 3 (codes "peerDependencies") y (put (codes "peerDependenciesMeta") z no_members) (filled_flat 2 name (λ q. text q.range) p.peers (λ q. omega arith))
          (put_flat 3 (codes "peerDependenciesMeta") z no_members (filled_flat 2 (λ (k : List ℕ). k) meta p.optional_peers (λ k. omega arith)) (omega arith)),
    )

truth_flat : (b : Bool) → depth (truth b) ≤ 1
truth_flat true = omega arith
truth_flat false = omega arith

group_flat : (g : Group) → depth (group_data g) ≤ 4
group_flat g = omega (arith, entries_flat 2 (λ (e : LockCatalog). e.name) catalog_data g.1 (λ e. omega arith))

pub lock_flat : (l : Locked) → depth (lock_data l) ≤ 64
lock_flat l =
    let x = filled (λ (r : Override). r.selector) (λ (r : Override). text r.value) l.overrides in
    let all = map_data (entries (λ (j : LockImporter). j.folder) (importer_data l) l.importers) in
    let y = filled (λ (q : LockPackage). q.id) package_data l.packages in
    let z = filled (λ (s : LockSnapshot). s.path) (snapshot_data l) l.snapshots in
    let rest = put (codes "packages") y (put (codes "snapshots") z no_members) in
    let r : members_depth rest ≤ 5 = put_flat 5 (codes "packages") y (put (codes "snapshots") z no_members) (filled_flat 4 (λ (q : LockPackage). q.id) package_data l.packages package_flat)
    (put_flat 5 (codes "snapshots") z no_members (filled_flat 4 (λ (s : LockSnapshot). s.path) (snapshot_data l) l.snapshots (snapshot_flat l)) (omega arith)) in
    let i : members_depth (entries (λ (j : LockImporter). j.folder) (importer_data l) l.importers) ≤ 4 = entries_flat 4 (λ (j : LockImporter). j.folder) (importer_data l) l.importers (importer_flat l) in
    let o : members_depth (put (codes "overrides") x (member (codes "importers") all rest)) ≤ 5 =
    put_flat 5 (codes "overrides") x (member (codes "importers") all rest) (filled_flat 4 (λ (r : Override). r.selector) (λ (r : Override). text r.value) l.overrides (λ q. omega arith)) (omega (arith, r, i)) in
    let c : members_depth (put (codes "catalogs") (filled (λ (g : Group). g.0) group_data (groups_of l.catalogs)) (put (codes "overrides") x (member (codes "importers") all rest))) ≤ 5 =
    put_flat 5 (codes "catalogs") (filled (λ (g : Group). g.0) group_data (groups_of l.catalogs)) (put (codes "overrides") x (member (codes "importers") all rest))
    (filled_flat 4 (λ (g : Group). g.0) group_data (groups_of l.catalogs) (λ g. group_flat g)) o in
    omega (arith, c, truth_flat l.auto)
