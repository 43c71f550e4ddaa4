-- The data that is printed of a lock.
use Rattle.std.specs.Prelude.{ℕ, Bool, true, false, List, [], ◌∷◌, Option, Some, None, codes}
use Rattle.pn_digest.specs.Digests.{integrity_text}
use Rattle.pn_yaml.specs.Data.{Data, scalar, list, map, Items, no_items, item, Members, no_members, member}
use Rattle.pn_lock.specs.declared.goal.LockGoal.{LockGoal}
use Rattle.pn_lock.specs.declared.goal.LockGoal.TheVariants as goal
use Rattle.pn_lock.specs.declared.lists.LockCatalog.{LockCatalog}
use Rattle.pn_lock.specs.declared.lists.LockDependency.{LockDependency}
use Rattle.pn_lock.specs.declared.lists.LockImporter.{LockImporter}
use Rattle.pn_lock.specs.declared.lists.LockLink.{LockLink}
use Rattle.pn_lock.specs.declared.lists.LockPackage.{LockPackage}
use Rattle.pn_lock.specs.declared.lists.LockPeer.{LockPeer}
use Rattle.pn_lock.specs.declared.lists.LockSnapshot.{LockSnapshot}
use Rattle.pn_lock.specs.declared.lists.Override.{Override}
use Rattle.pn_lock.specs.Locks.{Locked, Group, groups_of, folders_of, paths_of, key_at}
use Rattle.pn_lock_print.specs.Members.{put, entries, filled}
use Rattle.pn_lock_print.specs.TargetTexts.{link_text, path_text}

abbrev pub text : List ℕ → Data
text t = scalar t false

abbrev pub truth : Bool → Data
truth true = scalar (codes "true") true
truth false = scalar (codes "false") true

-- a target's text, from a folder and under an alias
abbrev pub goal_text : Locked → List ℕ → List ℕ → LockGoal → List ℕ
goal_text l base alias (goal.Importer n) = link_text base (key_at (folders_of l.importers) n)
goal_text l base alias (goal.Snapshot n) = path_text alias (key_at (paths_of l.snapshots) n)

-- ---- projects

-- a specifier and the version that it came to
abbrev pub pair_data : List ℕ → List ℕ → Data
pair_data specifier version = map (member (codes "specifier") (text specifier) (member (codes "version") (text version) no_members))

abbrev pub dependency_data : Locked → List ℕ → LockDependency → Data
dependency_data l base d = pair_data d.specifier (goal_text l base d.alias d.to)

abbrev pub dependencies_data : Locked → List ℕ → List LockDependency → Option Data
dependencies_data l base ds = filled (λ (d : LockDependency). d.alias) (dependency_data l base) ds

abbrev pub importer_data : Locked → LockImporter → Data
importer_data l i = map (put (codes "dependencies") (dependencies_data l i.folder i.dependencies)
    (put (codes "devDependencies") (dependencies_data l i.folder i.dev)
    (put (codes "optionalDependencies") (dependencies_data l i.folder i.optional) no_members)))

-- ---- packages

abbrev pub resolution_data : List ℕ → Data
resolution_data integrity = map (member (codes "integrity") (text integrity) no_members)

abbrev pub optional_data : Data
optional_data = map (member (codes "optional") (truth true) no_members)

abbrev pub peers_data : List LockPeer → Option Data
peers_data peers = filled (λ (q : LockPeer). q.name) (λ (q : LockPeer). text q.range) peers

abbrev pub optional_peers_data : List (List ℕ) → Option Data
optional_peers_data names = filled (λ (k : List ℕ). k) (λ (k : List ℕ). optional_data) names

abbrev pub package_data : LockPackage → Data
package_data p = map (member (codes "resolution") (resolution_data (integrity_text p.integrity))
    (put (codes "peerDependencies") (peers_data p.peers)
    (put (codes "peerDependenciesMeta") (optional_peers_data p.optional_peers) no_members)))

-- ---- snapshots

abbrev pub link_data : Locked → LockLink → Data
link_data l k = text (goal_text l (codes ".") k.alias k.to)

abbrev pub links_data : Locked → List LockLink → Option Data
links_data l ks = filled (λ (k : LockLink). k.alias) (link_data l) ks

abbrev pub text_items : List (List ℕ) → Items
text_items [] = no_items
text_items (k ∷ ks) = item (text k) (text_items ks)

abbrev pub names_data : List (List ℕ) → Option Data
names_data [] = None
names_data (k ∷ ks) = Some (list (text_items (k ∷ ks)))

abbrev pub snapshot_data : Locked → LockSnapshot → Data
snapshot_data l s = map (put (codes "dependencies") (links_data l s.dependencies)
    (put (codes "optionalDependencies") (links_data l s.optional)
    (put (codes "transitivePeerDependencies") (names_data s.transitive) no_members)))

-- ---- the whole

abbrev pub catalog_data : LockCatalog → Data
catalog_data e = pair_data e.specifier e.version

abbrev pub group_data : Group → Data
group_data g = map (entries (λ (e : LockCatalog). e.name) catalog_data g.1)

abbrev pub groups_members : List Group → Members
groups_members gs = entries (λ (g : Group). g.0) group_data gs

abbrev pub catalogs_data : List LockCatalog → Option Data
catalogs_data es = filled (λ (g : Group). g.0) group_data (groups_of es)

abbrev pub overrides_data : List Override → Option Data
overrides_data os = filled (λ (o : Override). o.selector) (λ (o : Override). text o.value) os

abbrev pub importers_data : Locked → Data
importers_data l = map (entries (λ (i : LockImporter). i.folder) (importer_data l) l.importers)

abbrev pub packages_data : List LockPackage → Option Data
packages_data ps = filled (λ (p : LockPackage). p.id) package_data ps

abbrev pub snapshots_data : Locked → Option Data
snapshots_data l = filled (λ (s : LockSnapshot). s.path) (snapshot_data l) l.snapshots

abbrev pub settings_data : Bool → Data
settings_data auto = map (member (codes "autoInstallPeers") (truth auto) (member (codes "excludeLinksFromLockfile") (truth false) no_members))

-- an empty list other than that of the projects isn't printed
abbrev pub projects_members : Locked → Members
projects_members l = member (codes "importers") (importers_data l)
    (put (codes "packages") (packages_data l.packages)
    (put (codes "snapshots") (snapshots_data l) no_members))

abbrev pub settings_then : Locked → Members → Members
settings_then l more = member (codes "lockfileVersion") (text (codes "9.0")) (member (codes "settings") (settings_data l.auto)
    (put (codes "catalogs") (catalogs_data l.catalogs)
    (put (codes "overrides") (overrides_data l.overrides) more)))

-- a lock
abbrev pub lock_data : Locked → Data
lock_data l = map (settings_then l (projects_members l))
