-- Importers, packages and snapshots read back.
use Rattle.std.proofs.Common.{◌≡◌, ℕ, Bool, true, false, List, [], ◌∷◌, ◌++◌, map, option_map, refl, sym, ap, ◌∙◌, subst}
use Rattle.std.specs.Prelude.{◌&&◌, not, codes, Option, Some, Ok}
use Rattle.std.specs.List.{AllByRecursion}
use Rattle.std.specs.Str.{bytes_eq}
use Rattle.pn_digest.specs.Digests.{integrity_text}
use Rattle.pn_text.specs.Name.{is_name}
use Rattle.pn_yaml.specs.Data.{Data, scalar, no_members, member}
use Rattle.pn_yaml.specs.Data.{map as map_data}
use Rattle.pn_text.specs.Ids.{id_name}
use Rattle.pn_deppath.specs.Paths.{id_part}
use Rattle.pn_lock_shape.specs.declared.drafts.DraftDependency.{DraftDependency}
use Rattle.pn_lock_shape.specs.declared.drafts.DraftLink.{DraftLink}
use Rattle.pn_lock.specs.declared.lists.LockDependency.{LockDependency}
use Rattle.pn_lock.specs.declared.lists.LockImporter.{LockImporter}
use Rattle.pn_lock.specs.declared.lists.LockLink.{LockLink}
use Rattle.pn_lock.specs.declared.lists.LockPackage.{LockPackage}
use Rattle.pn_lock.specs.declared.lists.LockPeer.{LockPeer}
use Rattle.pn_lock.specs.declared.lists.LockSnapshot.{LockSnapshot}
use Rattle.pn_lock_shape.specs.Bare.{bare, bare_items, bare_members}
use Rattle.pn_lock_shape.specs.Reading.{aliases_in, links_in}
use Rattle.pn_lock_read.proofs.DraftOf.{draft_dependency, draft_importer, draft_link, draft_snapshot}
use Rattle.pn_lock.specs.Kept.{IsLock, IsDependency, IsImporter, IsPackage, IsLink, IsSnapshot, NoneOf, Rises, is_in}
use Rattle.pn_lock.specs.Locks.{Locked, aliases_of, links_of}
use Rattle.pn_lock_print.specs.LockData.{dependency_data, dependencies_data, importer_data, package_data, links_data, snapshot_data, text, text_items, names_data, truth, goal_text}
use Rattle.pn_lock_shape.specs.Reading.{dependency_in, dependencies_in, importer_fields, importer_in, goal_in, optional_names, snapshot_fields, integrity_from, resolution_in, peer_in, meta_in, package_in, link_in, links_from, names_in, transitive_in, snapshot_in}
use Rattle.pn_lock_print.specs.Members.{put, filled}
use Rattle.pn_lock_shape.specs.Shapes.{◌>>=◌, at, when, get, required, optional, optional_in, and_then, in_order, map_in}
use Rattle.pn_lock.proofs.KeptLemmas.{map_same, all_from, all_both, all_unmap, all_any}
use Rattle.pn_lock.specs.Folders.{is_folder}
use Rattle.pn_lock_shape.specs.declared.packages.PeerMeta.{PeerMeta}
use Rattle.pn_lock_shape.specs.Keys.{are_once}
use Rattle.pn_lock_shape.proofs.DigestLemmas.{digest_back}
use Rattle.pn_lock_shape.proofs.OnceLemmas.{once_true, rises_once}
use Rattle.pn_lock_read.proofs.RowLemmas.{get_other, get_own, bare_put, bare_filled, map_back, optional_back, map_map, in_order_same}
use Rattle.pn_lock_read.proofs.TargetLemmas.{target_back}

-- a record's three optional maps are found under their keys
bare_three : (a b c : List ℕ) (x y z : Option Data) → bare_members (put a x (put b y (put c z no_members))) ≡ put a (option_map bare x) (put b (option_map bare y) (put c (option_map bare z) no_members))
bare_three a b c x y z =
    bare_put a x (put b y (put c z no_members))
    ∙ ap (put a (option_map bare x)) (bare_put b y (put c z no_members) ∙ ap (put b (option_map bare y)) (bare_put c z no_members))

get_first : (a b c : List ℕ) (x y z : Option Data) → bytes_eq b a ≡ false → bytes_eq c a ≡ false → get a (put a x (put b y (put c z no_members))) ≡ x
get_first a b c x y z p q = get_own a x (put b y (put c z no_members)) (get_other b a y (put c z no_members) p ∙ get_other c a z no_members q)

get_second : (a b c : List ℕ) (x y z : Option Data) → bytes_eq a b ≡ false → bytes_eq c b ≡ false → get b (put a x (put b y (put c z no_members))) ≡ y
get_second a b c x y z p q = get_other a b x (put b y (put c z no_members)) p ∙ get_own b y (put c z no_members) (get_other c b z no_members q)

get_third : (a b c : List ℕ) (x y z : Option Data) → bytes_eq a c ≡ false → bytes_eq b c ≡ false → get c (put a x (put b y (put c z no_members))) ≡ z
get_third a b c x y z p q = get_other a c x (put b y (put c z no_members)) p ∙ get_other b c y (put c z no_members) q ∙ get_own c z no_members refl

allowed : (a b : Bool) → a ≡ true → b ≡ false → (a && not b) ≡ true
allowed true false p q = refl
allowed true true p q = absurd (cc q)
allowed false b p q = absurd (cc p)

-- ---- importers

dependency_back : (l : Locked) → IsLock l → (base : List ℕ) (seen : List (List ℕ)) (d : LockDependency) → is_folder base ≡ true → IsDependency l d → is_in seen d.alias ≡ false
    → dependency_in base seen d.alias (bare (dependency_data l base d)) ≡ Ok (draft_dependency l base d)
dependency_back l k base seen d f h apart =
    ap (λ b. when b d.alias >>= λ name.
    required (codes "version") (goal_in base d.alias) (member (codes "version") (bare (text (goal_text l base d.alias d.to))) no_members) >>= λ to.
    Ok (record { alias = name; specifier = d.specifier; aim = to })) (allowed (is_name d.alias) (is_in seen d.alias) h.name apart)
    ∙ ap (λ r. at (codes "version") r >>= λ to. Ok (record { alias = d.alias; specifier = d.specifier; aim = to })) (target_back l k base d.alias d.to f h.range)

dependencies_back : (l : Locked) → IsLock l → (key base : List ℕ) (seen : List (List ℕ)) (ds : List LockDependency) → is_folder base ≡ true → AllByRecursion (IsDependency l) ds → NoneOf seen (aliases_of ds) → Rises (aliases_of ds)
    → optional_in key (dependencies_in base seen) [] (option_map bare (dependencies_data l base ds)) ≡ Ok (map (draft_dependency l base) ds)
dependencies_back l k key base seen ds f all apart rise =
    ap (optional_in key (dependencies_in base seen) []) (bare_filled (λ (d : LockDependency). d.alias) (dependency_data l base) ds)
    ∙ optional_back key (dependencies_in base seen) (λ (d : LockDependency). d.alias) (λ d. bare (dependency_data l base d)) (draft_dependency l base) ds
    (map_back (dependency_in base seen) (λ (d : LockDependency). d.alias) (λ d. bare (dependency_data l base d)) (draft_dependency l base) (λ (x : DraftDependency). x.alias) ds
    (all_from ds (λ d h. dependency_back l k base seen d f h.0 h.1) (all_both (IsDependency l) (λ d. is_in seen d.alias ≡ false) ds all (all_unmap (λ a. is_in seen a ≡ false) (λ (d : LockDependency). d.alias) ds apart)))
    (subst Rises (sym (map_map (λ (x : DraftDependency). x.alias) (draft_dependency l base) (λ (d : LockDependency). d.alias) ds (λ d. refl))) rise))

aliases_same : (l : Locked) (base : List ℕ) (ds : List LockDependency) → aliases_in (map (draft_dependency l base) ds) ≡ aliases_of ds
aliases_same l base ds = map_map (λ (x : DraftDependency). x.alias) (draft_dependency l base) (λ (d : LockDependency). d.alias) ds (λ d. refl)

pub importer_back : (l : Locked) → IsLock l → (i : LockImporter) → IsImporter l i → importer_in i.folder (bare (importer_data l i)) ≡ Ok (draft_importer l i)
importer_back l k i h =
    let a = codes "dependencies" in
    let b = codes "devDependencies" in
    let c = codes "optionalDependencies" in
    let x = option_map bare (dependencies_data l i.folder i.dependencies) in
    let y = option_map bare (dependencies_data l i.folder i.dev) in
    let z = option_map bare (dependencies_data l i.folder i.optional) in
    let ms = put a x (put b y (put c z no_members)) in
    let ds = map (draft_dependency l i.folder) i.dependencies in
    let dev = map (draft_dependency l i.folder) i.dev in
    let opts = map (draft_dependency l i.folder) i.optional in
    let one = aliases_same l i.folder i.dependencies in
    let two = aliases_same l i.folder i.dev in
    let first : optional a (dependencies_in i.folder []) [] ms ≡ Ok ds =
    ap (optional_in a (dependencies_in i.folder []) []) (get_first a b c x y z refl refl)
    ∙ dependencies_back l k a i.folder [] i.dependencies h.folder h.dependencies (all_any (λ a. is_in [] a ≡ false) (λ a. refl) (aliases_of i.dependencies)) h.dependencies_rise in
    let second : optional b (dependencies_in i.folder (aliases_in ds)) [] ms ≡ Ok dev =
    ap (optional_in b (dependencies_in i.folder (aliases_in ds)) []) (get_second a b c x y z refl refl)
    ∙ dependencies_back l k b i.folder (aliases_in ds) i.dev h.folder h.dev (subst (λ s. NoneOf s (aliases_of i.dev)) (sym one) h.dev_apart) h.dev_rise in
    let third : optional c (dependencies_in i.folder (aliases_in ds ++ aliases_in dev)) [] ms ≡ Ok opts =
    ap (optional_in c (dependencies_in i.folder (aliases_in ds ++ aliases_in dev)) []) (get_third a b c x y z refl refl)
    ∙ dependencies_back l k c i.folder (aliases_in ds ++ aliases_in dev) i.optional h.folder h.optional
    (subst (λ s. NoneOf s (aliases_of i.optional)) (sym (ap (λ s. s ++ aliases_in dev) one ∙ ap (λ s. aliases_of i.dependencies ++ s) two)) h.optional_apart) h.optional_rise in
    ap (λ m. importer_in i.folder (map_data m)) (bare_three a b c (dependencies_data l i.folder i.dependencies) (dependencies_data l i.folder i.dev) (dependencies_data l i.folder i.optional))
    ∙ ap (λ g. when g i.folder >>= λ base. importer_fields base ms) h.folder
    ∙ ap (λ r. r >>= λ ds. optional b (dependencies_in i.folder (aliases_in ds)) [] ms >>= λ dev.
    optional c (dependencies_in i.folder (aliases_in ds ++ aliases_in dev)) [] ms >>= λ opts.
    Ok (record { folder = i.folder; dependencies = ds; dev = dev; optional = opts })) first
    ∙ ap (λ r. r >>= λ dev. optional c (dependencies_in i.folder (aliases_in ds ++ aliases_in dev)) [] ms >>= λ opts.
    Ok (record { folder = i.folder; dependencies = ds; dev = dev; optional = opts })) second
    ∙ ap (λ r. r >>= λ opts. Ok (record { folder = i.folder; dependencies = ds; dev = dev; optional = opts })) third

-- ---- packages

abbrev optional_peer : List ℕ → PeerMeta
optional_peer k = record { name = k; optional = true }

metas_back : (ks : List (List ℕ)) → optional_names (map optional_peer ks) ≡ ks
metas_back [] = refl
metas_back (k ∷ ks) = ap (λ r. k ∷ r) (metas_back ks)

pub package_back : (p : LockPackage) → IsPackage p → package_in p.id (bare (package_data p)) ≡ Ok p
package_back p h =
    let a = codes "resolution" in
    let b = codes "peerDependencies" in
    let c = codes "peerDependenciesMeta" in
    let name : LockPeer → List ℕ = λ q. q.name in
    let peer : LockPeer → Data = λ q. bare (text q.range) in
    let meta : List ℕ → Data = λ k. map_data (member (codes "optional") (scalar (codes "true") true) no_members) in
    let peers = filled name (λ q. text q.range) p.peers in
    let metas = filled (λ (k : List ℕ). k) (λ (k : List ℕ). map_data (member (codes "optional") (truth true) no_members)) p.optional_peers in
    let x = map_data (member (codes "integrity") (bare (text (integrity_text p.integrity))) no_members) in
    let y = option_map bare peers in
    let z = option_map bare metas in
    let ms = put a (Some x) (put b y (put c z no_members)) in
    let named : PeerMeta → List ℕ = λ m. m.name in
    let marks = map optional_peer p.optional_peers in
    let first : required a resolution_in ms ≡ Ok p.integrity = ap (λ o. at a (at (codes "integrity") (integrity_from o))) (digest_back p.integrity h.integrity) in
    let second : optional b (map_in name peer_in) [] ms ≡ Ok p.peers =
    ap (optional_in b (map_in name peer_in) []) (get_second a b c (Some x) y z refl refl ∙ bare_filled name (λ q. text q.range) p.peers)
    ∙ optional_back b (map_in name peer_in) name peer (λ q. q) p.peers
    (map_back peer_in name peer (λ q. q) name p.peers (all_from p.peers (λ q e. ap (λ g. when g q.name >>= λ n. Ok (record { name = n; range = q.range })) e) h.peers)
    (subst (λ qs. Rises (map name qs)) (sym (map_same p.peers)) h.peers_rise))
    ∙ ap Ok (map_same p.peers) in
    let third : optional c (map_in named meta_in) [] ms ≡ Ok marks =
    ap (optional_in c (map_in named meta_in) []) (get_third a b c (Some x) y z refl refl ∙ bare_filled (λ (k : List ℕ). k) (λ (k : List ℕ). map_data (member (codes "optional") (truth true) no_members)) p.optional_peers)
    ∙ optional_back c (map_in named meta_in) (λ (k : List ℕ). k) meta optional_peer p.optional_peers
    (map_back meta_in (λ (k : List ℕ). k) meta optional_peer named p.optional_peers (all_from p.optional_peers (λ k e. ap (λ g. when g k >>= λ n. Ok (record { name = n; optional = true })) e) h.optional)
    (subst Rises (sym (map_map named optional_peer (λ (k : List ℕ). k) p.optional_peers (λ k. refl) ∙ map_same p.optional_peers)) h.optional_rise)) in
    ap (λ m. package_in p.id (map_data (member a x m))) (bare_put b peers (put c metas no_members) ∙ ap (put b y) (bare_put c metas no_members))
    ∙ ap (λ g. when g p.id >>= λ key. required a resolution_in ms >>= λ integrity. optional b (map_in name peer_in) [] ms >>= λ peers. optional c (map_in named meta_in) [] ms >>= λ metas.
    Ok (record { id = key; integrity = integrity; peers = peers; optional_peers = optional_names metas })) h.id
    ∙ ap (λ r. r >>= λ integrity. optional b (map_in name peer_in) [] ms >>= λ peers. optional c (map_in named meta_in) [] ms >>= λ metas.
    Ok (record { id = p.id; integrity = integrity; peers = peers; optional_peers = optional_names metas })) first
    ∙ ap (λ r. r >>= λ peers. optional c (map_in named meta_in) [] ms >>= λ metas.
    Ok (record { id = p.id; integrity = p.integrity; peers = peers; optional_peers = optional_names metas })) second
    ∙ ap (λ r. r >>= λ metas. Ok (record { id = p.id; integrity = p.integrity; peers = p.peers; optional_peers = optional_names metas })) third
    ∙ ap (λ ks. Ok (record { id = p.id; integrity = p.integrity; peers = p.peers; optional_peers = ks })) (metas_back p.optional_peers)

-- ---- snapshots

allowed_link : (a b c : Bool) → a ≡ true → b ≡ false → c ≡ false → (a && (not b && not c)) ≡ true
allowed_link true false false p q r = refl
allowed_link true false true p q r = absurd (cc r)
allowed_link true true c p q r = absurd (cc q)
allowed_link false b c p q r = absurd (cc p)

link_back : (l : Locked) → IsLock l → (own : List ℕ) (seen : List (List ℕ)) (k : LockLink) → IsLink l own k → is_in seen k.alias ≡ false
    → link_in own seen k.alias (bare (text (goal_text l (codes ".") k.alias k.to))) ≡ Ok (draft_link l k)
link_back l kept own seen k h apart =
    ap (λ g. when g k.alias >>= λ name. goal_in (codes ".") k.alias (text (goal_text l (codes ".") k.alias k.to)) >>= λ to. Ok (record { alias = name; aim = to }))
    (allowed_link (is_name k.alias) (bytes_eq k.alias own) (is_in seen k.alias) h.name h.other apart)
    ∙ ap (λ r. r >>= λ to. Ok (record { alias = k.alias; aim = to })) (target_back l kept (codes ".") k.alias k.to refl h.range)

links_back : (l : Locked) → IsLock l → (key own : List ℕ) (seen : List (List ℕ)) (ks : List LockLink) → AllByRecursion (IsLink l own) ks → NoneOf seen (links_of ks) → Rises (links_of ks)
    → optional_in key (links_from own seen) [] (option_map bare (links_data l ks)) ≡ Ok (map (draft_link l) ks)
links_back l kept key own seen ks all apart rise =
    let alias : LockLink → List ℕ = λ k. k.alias in
    let write : LockLink → Data = λ k. text (goal_text l (codes ".") k.alias k.to) in
    ap (optional_in key (links_from own seen) []) (bare_filled alias write ks)
    ∙ optional_back key (links_from own seen) alias (λ k. bare (write k)) (draft_link l) ks
    (map_back (link_in own seen) alias (λ k. bare (write k)) (draft_link l) (λ (x : DraftLink). x.alias) ks
    (all_from ks (λ k h. link_back l kept own seen k h.0 h.1) (all_both (IsLink l own) (λ k. is_in seen k.alias ≡ false) ks all (all_unmap (λ a. is_in seen a ≡ false) alias ks apart)))
    (subst Rises (sym (map_map (λ (x : DraftLink). x.alias) (draft_link l) alias ks (λ k. refl))) rise))

links_same : (l : Locked) (ks : List LockLink) → links_in (map (draft_link l) ks) ≡ links_of ks
links_same l ks = map_map (λ (x : DraftLink). x.alias) (draft_link l) (λ (k : LockLink). k.alias) ks (λ k. refl)

names_back : (ks : List (List ℕ)) → AllByRecursion (λ k. is_name k ≡ true) ks → names_in (bare_items (text_items ks)) ≡ Ok ks
names_back [] n = refl
names_back (k ∷ ks) n = ap (λ g. when g k >>= λ name. and_then name (names_in (bare_items (text_items ks)))) n.0 ∙ ap (and_then k) (names_back ks n.1)

transitive_back : (key : List ℕ) (ks : List (List ℕ)) → AllByRecursion (λ k. is_name k ≡ true) ks → Rises ks → optional_in key transitive_in [] (option_map bare (names_data ks)) ≡ Ok ks
transitive_back key [] n r = refl
transitive_back key (k ∷ ks) n r =
    ap (λ x. at key (x >>= λ names. when (are_once names) (in_order (λ (y : List ℕ). y) names))) (names_back (k ∷ ks) n)
    ∙ ap (λ b. at key (when b (in_order (λ (y : List ℕ). y) (k ∷ ks)))) (once_true (k ∷ ks) (rises_once (k ∷ ks) r))
    ∙ ap (λ names. at key (Ok names)) (in_order_same (λ (y : List ℕ). y) (k ∷ ks) (subst Rises (sym (map_same (k ∷ ks))) r))

pub snapshot_back : (l : Locked) → IsLock l → (s : LockSnapshot) → IsSnapshot l s → snapshot_in s.path (bare (snapshot_data l s)) ≡ Ok (draft_snapshot l s)
snapshot_back l k s h =
    let a = codes "dependencies" in
    let b = codes "optionalDependencies" in
    let c = codes "transitivePeerDependencies" in
    let own = id_name (id_part s.path) in
    let x = option_map bare (links_data l s.dependencies) in
    let y = option_map bare (links_data l s.optional) in
    let z = option_map bare (names_data s.transitive) in
    let ms = put a x (put b y (put c z no_members)) in
    let ds = map (draft_link l) s.dependencies in
    let opts = map (draft_link l) s.optional in
    let first : optional a (links_from own []) [] ms ≡ Ok ds =
    ap (optional_in a (links_from own []) []) (get_first a b c x y z refl refl)
    ∙ links_back l k a own [] s.dependencies h.dependencies (all_any (λ a. is_in [] a ≡ false) (λ a. refl) (links_of s.dependencies)) h.dependencies_rise in
    let second : optional b (links_from own (links_in ds)) [] ms ≡ Ok opts =
    ap (optional_in b (links_from own (links_in ds)) []) (get_second a b c x y z refl refl)
    ∙ links_back l k b own (links_in ds) s.optional h.optional (subst (λ those. NoneOf those (links_of s.optional)) (sym (links_same l s.dependencies)) h.optional_apart) h.optional_rise in
    let third : optional c transitive_in [] ms ≡ Ok s.transitive = ap (optional_in c transitive_in []) (get_third a b c x y z refl refl) ∙ transitive_back c s.transitive h.transitive h.transitive_rise in
    ap (λ m. snapshot_in s.path (map_data m)) (bare_three a b c (links_data l s.dependencies) (links_data l s.optional) (names_data s.transitive))
    ∙ ap (λ g. when g s.path >>= λ key. snapshot_fields key (id_name (id_part key)) ms) h.path
    ∙ ap (λ r. r >>= λ ds. optional b (links_from own (links_in ds)) [] ms >>= λ opts. optional c transitive_in [] ms >>= λ names.
    Ok (record { path = s.path; dependencies = ds; optional = opts; transitive = names })) first
    ∙ ap (λ r. r >>= λ opts. optional c transitive_in [] ms >>= λ names. Ok (record { path = s.path; dependencies = ds; optional = opts; transitive = names })) second
    ∙ ap (λ r. r >>= λ names. Ok (record { path = s.path; dependencies = ds; optional = opts; transitive = names })) third
