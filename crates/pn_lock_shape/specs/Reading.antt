-- What data says as a lockfile, before targets are looked up.
use Rattle.std.specs.Prelude.{ℕ, ◌&&◌, ◌++◌, ◌==◌, nat_lt, Bool, true, false, not, List, [], ◌∷◌, length, drop, map, Option, Some, None, Result, Ok, Err, if◌then◌else◌, bytes_eq, codes}
use Rattle.std.specs.List.{list_all}
use Rattle.base64.specs.Engines.{standard}
use Rattle.base64.specs.GeneralPurpose.{decode_of}
use Rattle.base64.specs.declared.decode.DecodeError.{DecodeError}
use Rattle.pn_text.specs.Ids.{id_name, is_id}
use Rattle.pn_text.specs.Name.{is_name}
use Rattle.pn_digest.specs.Digests.{integrity_text}
use Rattle.pn_yaml.specs.Data.{Data, Items, no_items, item, Members}
use Rattle.pn_deppath.specs.Paths.{id_part, is_dep_path}
use Rattle.pn_lock.specs.declared.lists.LockCatalog.{LockCatalog}
use Rattle.pn_lock.specs.declared.lists.LockPackage.{LockPackage}
use Rattle.pn_lock.specs.declared.lists.LockPeer.{LockPeer}
use Rattle.pn_lock.specs.declared.lists.Override.{Override}
use Rattle.pn_lock.specs.Folders.{is_folder}
use Rattle.pn_lock.specs.Kept.{is_in}
use Rattle.pn_lock_shape.specs.declared.drafts.Aim.{Aim}
use Rattle.pn_lock_shape.specs.declared.drafts.Draft.{Draft}
use Rattle.pn_lock_shape.specs.declared.drafts.DraftDependency.{DraftDependency}
use Rattle.pn_lock_shape.specs.declared.drafts.DraftImporter.{DraftImporter}
use Rattle.pn_lock_shape.specs.declared.drafts.DraftLink.{DraftLink}
use Rattle.pn_lock_shape.specs.declared.drafts.DraftSnapshot.{DraftSnapshot}
use Rattle.pn_lock_shape.specs.declared.catalogs.Catalog.{Catalog}
use Rattle.pn_lock_shape.specs.declared.packages.PeerMeta.{PeerMeta}
use Rattle.pn_lock_shape.specs.Keys.{are_once}
use Rattle.pn_lock_shape.specs.Shapes.{Outcome, ◌>>=◌, wrong, when, text_in, members_in, items_in, truth_in, required, optional, and_then, in_order, map_in}
use Rattle.pn_lock_shape.specs.Targets.{aim_at, target_in}

abbrev pub override_in : List ℕ → Data → Outcome Override
override_in selector d = text_in d >>= λ value. Ok (record { selector = selector; value = value })

-- ---- catalogs

abbrev pub catalog_in : List ℕ → List ℕ → Data → Outcome LockCatalog
catalog_in catalog name d = when (is_name name) name >>= λ n.
    members_in d >>= λ ms.
    required (codes "specifier") text_in ms >>= λ specifier.
    required (codes "version") text_in ms >>= λ version.
    Ok (record { catalog = catalog; name = n; specifier = specifier; version = version })

-- a catalog with its entries
abbrev pub group_in : List ℕ → Data → Outcome Catalog
group_in catalog d = map_in (λ (e : LockCatalog). e.name) (catalog_in catalog) d >>= λ es. Ok (record { name = catalog; entries = es })

-- the entries of some catalogs
abbrev pub all_entries : List Catalog → List LockCatalog
all_entries [] = []
all_entries (c ∷ cs) = c.entries ++ all_entries cs

abbrev pub catalogs_in : Data → Outcome (List LockCatalog)
catalogs_in d = map_in (λ (c : Catalog). c.name) group_in d >>= λ cs. Ok (all_entries cs)

-- ---- importers

abbrev pub aliases_in : List DraftDependency → List (List ℕ)
aliases_in ds = map (λ (d : DraftDependency). d.alias) ds

abbrev pub links_in : List DraftLink → List (List ℕ)
links_in ls = map (λ (l : DraftLink). l.alias) ls

-- the target of a text under an alias
abbrev pub goal_in : List ℕ → List ℕ → Data → Outcome Aim
goal_in base alias d = text_in d >>= λ text. target_in (aim_at base alias text)

-- an alias that isn't among those of earlier maps
abbrev pub alias_in : List (List ℕ) → List ℕ → Outcome (List ℕ)
alias_in seen alias = when (is_name alias && not (is_in seen alias)) alias

-- a dependency of a project, where the aliases before its map are those
abbrev pub dependency_in : List ℕ → List (List ℕ) → List ℕ → Data → Outcome DraftDependency
dependency_in base seen alias d = alias_in seen alias >>= λ name.
    members_in d >>= λ ms.
    required (codes "specifier") text_in ms >>= λ specifier.
    required (codes "version") (goal_in base alias) ms >>= λ to.
    Ok (record { alias = name; specifier = specifier; aim = to })

abbrev pub dependencies_in : List ℕ → List (List ℕ) → Data → Outcome (List DraftDependency)
dependencies_in base seen d = map_in (λ (x : DraftDependency). x.alias) (dependency_in base seen) d

-- the three maps of a project
abbrev pub importer_fields : List ℕ → Members → Outcome DraftImporter
importer_fields folder ms =
    optional (codes "dependencies") (dependencies_in folder []) [] ms >>= λ ds.
    optional (codes "devDependencies") (dependencies_in folder (aliases_in ds)) [] ms >>= λ dev.
    optional (codes "optionalDependencies") (dependencies_in folder (aliases_in ds ++ aliases_in dev)) [] ms >>= λ opts.
    Ok (record { folder = folder; dependencies = ds; dev = dev; optional = opts })

abbrev pub importer_in : List ℕ → Data → Outcome DraftImporter
importer_in folder d = when (is_folder folder) folder >>= λ base. members_in d >>= λ ms. importer_fields base ms

-- ---- packages

abbrev pub are_bytes : List ℕ → Bool
are_bytes bytes = list_all (λ b. nat_lt b 256) bytes

-- decoded bytes, where they are 64 and have this text as their integrity
abbrev pub checked : List ℕ → Result (List ℕ) DecodeError → Option (List ℕ)
checked text (Ok d) = if bytes_eq (integrity_text d) text && (length d == 64 && are_bytes d) then Some d else None
checked text (Err e) = None

-- the digest that has a text as its integrity
abbrev pub digest_of : List ℕ → Option (List ℕ)
digest_of text = checked text (decode_of standard (drop 7 text))

abbrev pub integrity_from : Option (List ℕ) → Outcome (List ℕ)
integrity_from (Some d) = Ok d
integrity_from None = wrong

abbrev pub integrity_in : Data → Outcome (List ℕ)
integrity_in d = text_in d >>= λ text. integrity_from (digest_of text)

abbrev pub resolution_in : Data → Outcome (List ℕ)
resolution_in d = members_in d >>= λ ms. required (codes "integrity") integrity_in ms

abbrev pub peer_in : List ℕ → Data → Outcome LockPeer
peer_in name d = when (is_name name) name >>= λ n. text_in d >>= λ range. Ok (record { name = n; range = range })

-- a name, and whether that peer is optional
abbrev pub meta_in : List ℕ → Data → Outcome PeerMeta
meta_in name d = when (is_name name) name >>= λ n. members_in d >>= λ ms. optional (codes "optional") truth_in false ms >>= λ is. Ok (record { name = n; optional = is })

-- the names of those that are optional
abbrev pub optional_names : List PeerMeta → List (List ℕ)
optional_names [] = []
optional_names (m ∷ ms) = if m.optional then m.name ∷ optional_names ms else optional_names ms

abbrev pub package_in : List ℕ → Data → Outcome LockPackage
package_in id d = when (is_id id) id >>= λ key.
    members_in d >>= λ ms.
    required (codes "resolution") resolution_in ms >>= λ integrity.
    optional (codes "peerDependencies") (map_in (λ (p : LockPeer). p.name) peer_in) [] ms >>= λ peers.
    optional (codes "peerDependenciesMeta") (map_in (λ (m : PeerMeta). m.name) meta_in) [] ms >>= λ metas.
    Ok (record { id = key; integrity = integrity; peers = peers; optional_peers = optional_names metas })

-- ---- snapshots

-- a name that is neither the own one nor in an earlier map
abbrev pub link_name : List ℕ → List (List ℕ) → List ℕ → Outcome (List ℕ)
link_name own seen alias = when (is_name alias && (not (bytes_eq alias own) && not (is_in seen alias))) alias

abbrev pub link_in : List ℕ → List (List ℕ) → List ℕ → Data → Outcome DraftLink
link_in own seen alias d = link_name own seen alias >>= λ name. goal_in (codes ".") alias d >>= λ to. Ok (record { alias = name; aim = to })

abbrev pub links_from : List ℕ → List (List ℕ) → Data → Outcome (List DraftLink)
links_from own seen d = map_in (λ (x : DraftLink). x.alias) (link_in own seen) d

abbrev pub name_in : Data → Outcome (List ℕ)
name_in d = text_in d >>= λ name. when (is_name name) name

abbrev pub names_in : Items → Outcome (List (List ℕ))
names_in no_items = Ok []
names_in (item d ds) = name_in d >>= λ name. and_then name (names_in ds)

-- names in a list, none of them twice
abbrev pub transitive_in : Data → Outcome (List (List ℕ))
transitive_in d = items_in d >>= λ ds. names_in ds >>= λ names. when (are_once names) (in_order (λ (k : List ℕ). k) names)

-- the fields of a snapshot whose package has this name
abbrev pub snapshot_fields : List ℕ → List ℕ → Members → Outcome DraftSnapshot
snapshot_fields path own ms =
    optional (codes "dependencies") (links_from own []) [] ms >>= λ ds.
    optional (codes "optionalDependencies") (links_from own (links_in ds)) [] ms >>= λ opts.
    optional (codes "transitivePeerDependencies") transitive_in [] ms >>= λ names.
    Ok (record { path = path; dependencies = ds; optional = opts; transitive = names })

abbrev pub snapshot_in : List ℕ → Data → Outcome DraftSnapshot
snapshot_in path d = when (is_dep_path path) path >>= λ key. members_in d >>= λ ms. snapshot_fields key (id_name (id_part key)) ms

-- ---- the whole

abbrev pub false_only : Bool → Outcome Bool
false_only true = wrong
false_only false = Ok false

-- plain `false`
abbrev pub false_in : Data → Outcome Bool
false_in d = truth_in d >>= false_only

abbrev pub settings_in : Data → Outcome Bool
settings_in d = members_in d >>= λ ms.
    optional (codes "autoInstallPeers") truth_in true ms >>= λ auto.
    optional (codes "excludeLinksFromLockfile") false_in false ms >>= λ no_links. Ok auto

abbrev pub draft_in : Data → Outcome Draft
draft_in d = members_in d >>= λ ms.
    optional (codes "settings") settings_in true ms >>= λ auto.
    optional (codes "catalogs") catalogs_in [] ms >>= λ catalogs.
    optional (codes "overrides") (map_in (λ (o : Override). o.selector) override_in) [] ms >>= λ overrides.
    required (codes "importers") (map_in (λ (i : DraftImporter). i.folder) importer_in) ms >>= λ importers.
    optional (codes "packages") (map_in (λ (p : LockPackage). p.id) package_in) [] ms >>= λ packages.
    optional (codes "snapshots") (map_in (λ (s : DraftSnapshot). s.path) snapshot_in) [] ms >>= λ snapshots.
    Ok (record { auto = auto; catalogs = catalogs; overrides = overrides; importers = importers; packages = packages; snapshots = snapshots })
