-- What is read as a draft keeps the invariant of drafts.
use Rattle.std.proofs.Common.{◌≡◌, ℕ, Bool, true, false, cond, List, [], ◌∷◌, ◌++◌, map, refl, sym, subst, Some, None, Ok, Err}
use Rattle.std.specs.Prelude.{◌&&◌, not, IfOk, Option, Result, bytes_eq, codes}
use Rattle.std.specs.List.{AllByRecursion}
use Rattle.std.specs.List.Sorted.{IsStrictlySortedBy}
use Rattle.std.specs.Cmp.Lexicographic.{slice_cmp}
use Rattle.std.specs.Ordering.{nat_cmp}
use Rattle.std.specs.declared.cmp.Ordering.TheVariants.{Less}
use Rattle.pn_text.specs.Ids.{id_name, is_id}
use Rattle.pn_text.specs.Name.{is_name}
use Rattle.pn_text.proofs.Bools.{and_left, and_right, not_true}
use Rattle.pn_yaml.specs.Data.{Data, Members, are_apart, members_apart}
use Rattle.pn_deppath.specs.Paths.{id_part, is_dep_path}
use Rattle.pn_digest.specs.Digests.{IsDigest}
use Rattle.pn_lock.specs.declared.lists.LockCatalog.{LockCatalog}
use Rattle.pn_lock.specs.declared.lists.LockPackage.{LockPackage}
use Rattle.pn_lock.specs.declared.lists.LockPeer.{LockPeer}
use Rattle.pn_lock.specs.declared.lists.Override.{Override}
use Rattle.pn_lock.specs.Folders.{is_folder}
use Rattle.pn_lock.specs.Kept.{IsPackage, NoneOf, Rises, is_in}
use Rattle.pn_lock.proofs.KeptLemmas.{all_from, all_map}
use Rattle.pn_lock_shape.specs.declared.drafts.Draft.{Draft}
use Rattle.pn_lock_shape.specs.declared.drafts.DraftDependency.{DraftDependency}
use Rattle.pn_lock_shape.specs.declared.drafts.DraftImporter.{DraftImporter}
use Rattle.pn_lock_shape.specs.declared.drafts.DraftLink.{DraftLink}
use Rattle.pn_lock_shape.specs.declared.drafts.DraftSnapshot.{DraftSnapshot}
use Rattle.pn_lock_shape.specs.declared.fault.ShapeFault.{ShapeFault}
use Rattle.pn_lock_shape.specs.declared.packages.PeerMeta.{PeerMeta}
use Rattle.pn_lock_shape.specs.Answers.{Reads}
use Rattle.pn_lock_shape.specs.Kept.{AreNames, IsDraft, IsDraftImporter, IsDraftSnapshot, Others}
use Rattle.pn_lock_shape.specs.OwnKeys.{ok_same, own_dependency, own_importer, own_link, own_meta, own_override, own_package, own_peer, own_snapshot, then_some, when_same, when_true}
use Rattle.pn_lock_shape.specs.Reading.{aliases_in, catalogs_in, dependencies_in, dependency_in, digest_of, draft_in, goal_in, importer_fields, importer_in, integrity_from, integrity_in, link_in, links_from, links_in, meta_in, optional_names, override_in, package_in, peer_in, resolution_in, settings_in, snapshot_fields, snapshot_in, transitive_in}
use Rattle.pn_lock_shape.specs.Shapes.{Outcome, ◌>>=◌, map_in, members_in, optional, required, text_in, truth_in}
use Rattle.pn_lock_shape.proofs.DigestLemmas.{digest_found}
use Rattle.pn_lock_shape.proofs.GroupLemmas.{IsCatalogs, catalogs_have, no_catalogs}
use Rattle.pn_lock_shape.proofs.HaveLemmas.{Have, map_have, members_have, optional_have, required_have}
use Rattle.pn_lock_shape.proofs.NameLemmas.{transitive_have}
use Rattle.pn_lock_shape.proofs.PlaceLemmas.{rises_none}

-- ---- importers

abbrev IsNew : List (List ℕ) → List ℕ → Type 0
IsNew seen k = (is_name k ≡ true) × (is_in seen k ≡ false)

dependency_have : (base : List ℕ) (seen : List (List ℕ)) (k : List ℕ) (d : Data) (x : DraftDependency) → dependency_in base seen k d ≡ Ok x → IsNew seen x.alias
dependency_have base seen k d x h =
    let t = when_true (is_name k && not (is_in seen k)) k
    (λ name. members_in d >>= λ ms. required (codes "specifier") text_in ms >>= λ s. required (codes "version") (goal_in base k) ms >>= λ to. Ok (record { alias = name; specifier = s; aim = to })) x h in
    subst (IsNew seen) (sym (own_dependency base seen k d x h)) (and_left (is_name k) (not (is_in seen k)) t, not_true (is_in seen k) (and_right (is_name k) (not (is_in seen k)) t))

-- names, none of them in an earlier map, in byte order
abbrev Fresh : List (List ℕ) → List (List ℕ) → Type 0
Fresh seen ks = AreNames ks × NoneOf seen ks × Rises ks

fresh_none : (seen : List (List ℕ)) → Fresh seen []
fresh_none seen = (tt, tt, rises_none)

dependencies_have : (base : List ℕ) (seen : List (List ℕ)) (d : Data) (xs : List DraftDependency) → are_apart d ≡ true → dependencies_in base seen d ≡ Ok xs → Fresh seen (aliases_in xs)
dependencies_have base seen d xs a h =
    let alias : DraftDependency → List ℕ = λ x. x.alias in
    let m = map_have alias (dependency_in base seen) (λ x. IsNew seen x.alias) (own_dependency base seen) (λ k d x a h. dependency_have base seen k d x h) d xs a h in (
      all_map (λ (k : List ℕ). is_name k ≡ true) alias xs (all_from xs (λ x p. p.0) m.0),
      all_map (λ (k : List ℕ). is_in seen k ≡ false) alias xs (all_from xs (λ x p. p.1) m.0),
      m.1,
    )

map_field : (base : List ℕ) (key : List ℕ) (seen : List (List ℕ)) (ms : Members) (xs : List DraftDependency) → members_apart [] ms ≡ true → optional key (dependencies_in base seen) [] ms ≡ Ok xs → Fresh seen (aliases_in xs)
map_field base key seen ms xs a h = optional_have (λ (ys : List DraftDependency). Fresh seen (aliases_in ys)) key (dependencies_in base seen) [] ms (fresh_none seen) (dependencies_have base seen) a xs h

importer_have : (k : List ℕ) (d : Data) (x : DraftImporter) → are_apart d ≡ true → importer_in k d ≡ Ok x → IsDraftImporter x
importer_have k d x a h =
    let a1 = codes "dependencies" in
    let b1 = codes "devDependencies" in
    let c1 = codes "optionalDependencies" in
    let made : List DraftDependency → List DraftDependency → List DraftDependency → DraftImporter = λ ds dev opts. record { folder = k; dependencies = ds; dev = dev; optional = opts } in
    let third : Members → List DraftDependency → List DraftDependency → Outcome DraftImporter = λ ms ds dev. optional c1 (dependencies_in k (aliases_in ds ++ aliases_in dev)) [] ms >>= λ opts. Ok (made ds dev opts) in
    let second : Members → List DraftDependency → Outcome DraftImporter = λ ms ds. optional b1 (dependencies_in k (aliases_in ds)) [] ms >>= λ dev. third ms ds dev in
    let first : Members → Outcome DraftImporter = λ ms. optional a1 (dependencies_in k []) [] ms >>= λ ds. second ms ds in
    let whole : List ℕ → Outcome DraftImporter = λ base. members_in d >>= λ ms. importer_fields base ms in
    let m = then_some (members_in d) first x (when_same (is_folder k) k whole x h) in
    let apart = members_have d m.0 m.1 a in
    let ds = then_some (optional a1 (dependencies_in k []) [] m.0) (second m.0) x m.2 in
    let dev = then_some (optional b1 (dependencies_in k (aliases_in ds.0)) [] m.0) (third m.0 ds.0) x ds.2 in
    let opts = then_some (optional c1 (dependencies_in k (aliases_in ds.0 ++ aliases_in dev.0)) [] m.0) (λ os. Ok (made ds.0 dev.0 os)) x dev.2 in
    let p = map_field k a1 [] m.0 ds.0 apart ds.1 in
    let q = map_field k b1 (aliases_in ds.0) m.0 dev.0 apart dev.1 in
    let r = map_field k c1 (aliases_in ds.0 ++ aliases_in dev.0) m.0 opts.0 apart opts.1 in
    subst IsDraftImporter (ok_same (made ds.0 dev.0 opts.0) x (Ok (made ds.0 dev.0 opts.0)) refl opts.2) (record {
      folder = when_true (is_folder k) k whole x h;
      dependencies = p.0;
      dev = q.0;
      optional = r.0;
      dependencies_rise = p.2;
      dev_rise = q.2;
      optional_rise = r.2;
      dev_apart = q.1;
      optional_apart = r.1;
    })

-- ---- packages

integrity_have : (d : Data) (x : List ℕ) → integrity_in d ≡ Ok x → IsDigest x
integrity_have d x h =
    let t = then_some (text_in d) (λ text. integrity_from (digest_of text)) x h in
    go t.0 (digest_of t.0) refl t.2 where
      go : (text : List ℕ) (o : Option (List ℕ)) → digest_of text ≡ o → integrity_from o ≡ Ok x → IsDigest x
      go text (Some y) e h = subst IsDigest (ok_same y x (Ok y) refl h) (digest_found text y e).1
      go text None e h = absurd (cc h)

resolution_have : (d : Data) (x : List ℕ) → are_apart d ≡ true → resolution_in d ≡ Ok x → IsDigest x
resolution_have d x a h =
    let m = then_some (members_in d) (λ ms. required (codes "integrity") integrity_in ms) x h in
    required_have IsDigest (codes "integrity") integrity_in m.0 (λ d x a h. integrity_have d x h) (members_have d m.0 m.1 a) x m.2

peer_have : (k : List ℕ) (d : Data) (x : LockPeer) → peer_in k d ≡ Ok x → is_name x.name ≡ true
peer_have k d x h =
    subst (λ n. is_name n ≡ true) (sym (own_peer k d x h)) (when_true (is_name k) k (λ n. text_in d >>= λ range. Ok (record { name = n; range = range })) x h)

meta_have : (k : List ℕ) (d : Data) (x : PeerMeta) → meta_in k d ≡ Ok x → is_name x.name ≡ true
meta_have k d x h =
    subst (λ n. is_name n ≡ true) (sym (own_meta k d x h))
    (when_true (is_name k) k (λ n. members_in d >>= λ ms. optional (codes "optional") truth_in false ms >>= λ is. Ok (record { name = n; optional = is })) x h)

all_optional : (P : List ℕ → Type 0) (ms : List PeerMeta) → AllByRecursion P (map (λ (m : PeerMeta). m.name) ms) → AllByRecursion P (optional_names ms)
all_optional P [] h = tt
all_optional P (m ∷ ms) h = elim m.optional as (λ o. AllByRecursion P (cond o (m.name ∷ optional_names ms) (optional_names ms))) [
  | true ↦ (h.0, all_optional P ms h.1)
  | false ↦ all_optional P ms h.1
]

rises_optional : (ms : List PeerMeta) → Rises (map (λ (m : PeerMeta). m.name) ms) → Rises (optional_names ms)
unfolding IsStrictlySortedBy
rises_optional [] h = tt
rises_optional (m ∷ ms) h = elim m.optional as (λ o. Rises (cond o (m.name ∷ optional_names ms) (optional_names ms))) [
  | true ↦ (all_optional (λ y. slice_cmp nat_cmp m.name y ≡ Less) ms h.0, rises_optional ms h.1)
  | false ↦ rises_optional ms h.1
]

package_have : (k : List ℕ) (d : Data) (x : LockPackage) → are_apart d ≡ true → package_in k d ≡ Ok x → IsPackage x
package_have k d x a h =
    let b = codes "peerDependencies" in
    let c = codes "peerDependenciesMeta" in
    let named : LockPeer → List ℕ = λ p. p.name in
    let meta : PeerMeta → List ℕ = λ m. m.name in
    let made : List ℕ → List LockPeer → List PeerMeta → LockPackage = λ i ps ms. record { id = k; integrity = i; peers = ps; optional_peers = optional_names ms } in
    let third : Members → List ℕ → List LockPeer → Outcome LockPackage = λ ms i ps. optional c (map_in meta meta_in) [] ms >>= λ metas. Ok (made i ps metas) in
    let second : Members → List ℕ → Outcome LockPackage = λ ms i. optional b (map_in named peer_in) [] ms >>= λ ps. third ms i ps in
    let first : Members → Outcome LockPackage = λ ms. required (codes "resolution") resolution_in ms >>= λ i. second ms i in
    let whole : List ℕ → Outcome LockPackage = λ key. members_in d >>= λ ms. required (codes "resolution") resolution_in ms >>= λ i. optional b (map_in named peer_in) [] ms >>= λ ps.
    optional c (map_in meta meta_in) [] ms >>= λ metas. Ok (record { id = key; integrity = i; peers = ps; optional_peers = optional_names metas }) in
    let m = then_some (members_in d) first x (when_same (is_id k) k whole x h) in
    let apart = members_have d m.0 m.1 a in
    let i = then_some (required (codes "resolution") resolution_in m.0) (second m.0) x m.2 in
    let ps = then_some (optional b (map_in named peer_in) [] m.0) (third m.0 i.0) x i.2 in
    let ms = then_some (optional c (map_in meta meta_in) [] m.0) (λ metas. Ok (made i.0 ps.0 metas)) x ps.2 in
    let p = optional_have (Have named (λ q. is_name q.name ≡ true)) b (map_in named peer_in) [] m.0 (tt, rises_none)
    (map_have named peer_in (λ q. is_name q.name ≡ true) own_peer (λ k d x a h. peer_have k d x h)) apart ps.0 ps.1 in
    let q = optional_have (Have meta (λ n. is_name n.name ≡ true)) c (map_in meta meta_in) [] m.0 (tt, rises_none)
    (map_have meta meta_in (λ n. is_name n.name ≡ true) own_meta (λ k d x a h. meta_have k d x h)) apart ms.0 ms.1 in
    subst IsPackage (ok_same (made i.0 ps.0 ms.0) x (Ok (made i.0 ps.0 ms.0)) refl ms.2) (record {
      id = when_true (is_id k) k whole x h;
      integrity = required_have IsDigest (codes "resolution") resolution_in m.0 resolution_have apart i.0 i.1;
      peers = p.0;
      optional = all_optional (λ (n : List ℕ). is_name n ≡ true) ms.0 (all_map (λ (n : List ℕ). is_name n ≡ true) meta ms.0 q.0);
      peers_rise = p.1;
      optional_rise = rises_optional ms.0 q.1;
    })

-- ---- snapshots

abbrev IsOther : List ℕ → List (List ℕ) → List ℕ → Type 0
IsOther own seen k = (is_name k ≡ true) × (bytes_eq k own ≡ false) × (is_in seen k ≡ false)

link_have : (own : List ℕ) (seen : List (List ℕ)) (k : List ℕ) (d : Data) (x : DraftLink) → link_in own seen k d ≡ Ok x → IsOther own seen x.alias
link_have own seen k d x h =
    let t = when_true (is_name k && (not (bytes_eq k own) && not (is_in seen k))) k (λ name. goal_in (codes ".") k d >>= λ to. Ok (record { alias = name; aim = to })) x h in
    let u = and_right (is_name k) (not (bytes_eq k own) && not (is_in seen k)) t in
    subst (IsOther own seen) (sym (own_link own seen k d x h)) (
      and_left (is_name k) (not (bytes_eq k own) && not (is_in seen k)) t,
      not_true (bytes_eq k own) (and_left (not (bytes_eq k own)) (not (is_in seen k)) u),
      not_true (is_in seen k) (and_right (not (bytes_eq k own)) (not (is_in seen k)) u),
    )

abbrev FreshOthers : List ℕ → List (List ℕ) → List (List ℕ) → Type 0
FreshOthers own seen ks = AreNames ks × Others own ks × NoneOf seen ks × Rises ks

links_have : (own : List ℕ) (seen : List (List ℕ)) (d : Data) (xs : List DraftLink) → are_apart d ≡ true → links_from own seen d ≡ Ok xs → FreshOthers own seen (links_in xs)
links_have own seen d xs a h =
    let alias : DraftLink → List ℕ = λ x. x.alias in
    let m = map_have alias (link_in own seen) (λ x. IsOther own seen x.alias) (own_link own seen) (λ k d x a h. link_have own seen k d x h) d xs a h in (
      all_map (λ (k : List ℕ). is_name k ≡ true) alias xs (all_from xs (λ x p. p.0) m.0),
      all_map (λ (k : List ℕ). bytes_eq k own ≡ false) alias xs (all_from xs (λ x p. p.1) m.0),
      all_map (λ (k : List ℕ). is_in seen k ≡ false) alias xs (all_from xs (λ x p. p.2) m.0),
      m.1,
    )

links_field : (own key : List ℕ) (seen : List (List ℕ)) (ms : Members) (xs : List DraftLink) → members_apart [] ms ≡ true → optional key (links_from own seen) [] ms ≡ Ok xs → FreshOthers own seen (links_in xs)
links_field own key seen ms xs a h = optional_have (λ (ys : List DraftLink). FreshOthers own seen (links_in ys)) key (links_from own seen) [] ms (tt, tt, tt, rises_none) (links_have own seen) a xs h

snapshot_have : (k : List ℕ) (d : Data) (x : DraftSnapshot) → are_apart d ≡ true → snapshot_in k d ≡ Ok x → IsDraftSnapshot x
snapshot_have k d x a h =
    let own = id_name (id_part k) in
    let a1 = codes "dependencies" in
    let b1 = codes "optionalDependencies" in
    let c1 = codes "transitivePeerDependencies" in
    let made : List DraftLink → List DraftLink → List (List ℕ) → DraftSnapshot = λ ds opts names. record { path = k; dependencies = ds; optional = opts; transitive = names } in
    let third : Members → List DraftLink → List DraftLink → Outcome DraftSnapshot = λ ms ds opts. optional c1 transitive_in [] ms >>= λ names. Ok (made ds opts names) in
    let second : Members → List DraftLink → Outcome DraftSnapshot = λ ms ds. optional b1 (links_from own (links_in ds)) [] ms >>= λ opts. third ms ds opts in
    let first : Members → Outcome DraftSnapshot = λ ms. optional a1 (links_from own []) [] ms >>= λ ds. second ms ds in
    let whole : List ℕ → Outcome DraftSnapshot = λ key. members_in d >>= λ ms. snapshot_fields key (id_name (id_part key)) ms in
    let m = then_some (members_in d) first x (when_same (is_dep_path k) k whole x h) in
    let apart = members_have d m.0 m.1 a in
    let ds = then_some (optional a1 (links_from own []) [] m.0) (second m.0) x m.2 in
    let opts = then_some (optional b1 (links_from own (links_in ds.0)) [] m.0) (third m.0 ds.0) x ds.2 in
    let names = then_some (optional c1 transitive_in [] m.0) (λ ns. Ok (made ds.0 opts.0 ns)) x opts.2 in
    let p = links_field own a1 [] m.0 ds.0 apart ds.1 in
    let q = links_field own b1 (links_in ds.0) m.0 opts.0 apart opts.1 in
    let r = optional_have (λ (ns : List (List ℕ)). AreNames ns × Rises ns) c1 transitive_in [] m.0 (tt, rises_none) (λ d x a h. transitive_have d x h) apart names.0 names.1 in
    subst IsDraftSnapshot (ok_same (made ds.0 opts.0 names.0) x (Ok (made ds.0 opts.0 names.0)) refl names.2) (record {
      path = when_true (is_dep_path k) k whole x h;
      dependencies = p.0;
      optional = q.0;
      dependencies_other = p.1;
      optional_other = q.1;
      transitive = r.0;
      dependencies_rise = p.3;
      optional_rise = q.3;
      transitive_rise = r.1;
      optional_apart = q.2;
    })

-- ---- the whole

pub draft_kept : (d : Data) (x : Draft) → are_apart d ≡ true → draft_in d ≡ Ok x → IsDraft x
draft_kept d x a h =
    let selector : Override → List ℕ = λ o. o.selector in
    let folder : DraftImporter → List ℕ = λ i. i.folder in
    let id : LockPackage → List ℕ = λ p. p.id in
    let path : DraftSnapshot → List ℕ = λ s. s.path in
    let made : Bool → List LockCatalog → List Override → List DraftImporter → List LockPackage → List DraftSnapshot → Draft = λ b cs os is ps ss.
    record { auto = b; catalogs = cs; overrides = os; importers = is; packages = ps; snapshots = ss } in
    let f6 : Members → Bool → List LockCatalog → List Override → List DraftImporter → List LockPackage → Outcome Draft = λ ms b cs os is ps. optional (codes "snapshots") (map_in path snapshot_in) [] ms >>= λ ss. Ok (made b cs os is ps ss) in
    let f5 : Members → Bool → List LockCatalog → List Override → List DraftImporter → Outcome Draft = λ ms b cs os is. optional (codes "packages") (map_in id package_in) [] ms >>= λ ps. f6 ms b cs os is ps in
    let f4 : Members → Bool → List LockCatalog → List Override → Outcome Draft = λ ms b cs os. required (codes "importers") (map_in folder importer_in) ms >>= λ is. f5 ms b cs os is in
    let f3 : Members → Bool → List LockCatalog → Outcome Draft = λ ms b cs. optional (codes "overrides") (map_in selector override_in) [] ms >>= λ os. f4 ms b cs os in
    let f2 : Members → Bool → Outcome Draft = λ ms b. optional (codes "catalogs") catalogs_in [] ms >>= λ cs. f3 ms b cs in
    let f1 : Members → Outcome Draft = λ ms. optional (codes "settings") settings_in true ms >>= λ b. f2 ms b in
    let m = then_some (members_in d) f1 x h in
    let apart = members_have d m.0 m.1 a in
    let b = then_some (optional (codes "settings") settings_in true m.0) (f2 m.0) x m.2 in
    let cs = then_some (optional (codes "catalogs") catalogs_in [] m.0) (f3 m.0 b.0) x b.2 in
    let os = then_some (optional (codes "overrides") (map_in selector override_in) [] m.0) (f4 m.0 b.0 cs.0) x cs.2 in
    let is = then_some (required (codes "importers") (map_in folder importer_in) m.0) (f5 m.0 b.0 cs.0 os.0) x os.2 in
    let ps = then_some (optional (codes "packages") (map_in id package_in) [] m.0) (f6 m.0 b.0 cs.0 os.0 is.0) x is.2 in
    let ss = then_some (optional (codes "snapshots") (map_in path snapshot_in) [] m.0) (λ ss. Ok (made b.0 cs.0 os.0 is.0 ps.0 ss)) x ps.2 in
    let hc = optional_have IsCatalogs (codes "catalogs") catalogs_in [] m.0 no_catalogs catalogs_have apart cs.0 cs.1 in
    let ho = optional_have (Have selector (λ o. Unit {0})) (codes "overrides") (map_in selector override_in) [] m.0 (tt, rises_none)
    (map_have selector override_in (λ o. Unit {0}) own_override (λ k d x a h. tt)) apart os.0 os.1 in
    let hi = required_have (Have folder IsDraftImporter) (codes "importers") (map_in folder importer_in) m.0 (map_have folder importer_in IsDraftImporter own_importer importer_have) apart is.0 is.1 in
    let hp = optional_have (Have id IsPackage) (codes "packages") (map_in id package_in) [] m.0 (tt, rises_none) (map_have id package_in IsPackage own_package package_have) apart ps.0 ps.1 in
    let hs = optional_have (Have path IsDraftSnapshot) (codes "snapshots") (map_in path snapshot_in) [] m.0 (tt, rises_none) (map_have path snapshot_in IsDraftSnapshot own_snapshot snapshot_have) apart ss.0 ss.1 in
    subst IsDraft (ok_same (made b.0 cs.0 os.0 is.0 ps.0 ss.0) x (Ok (made b.0 cs.0 os.0 is.0 ps.0 ss.0)) refl ss.2) (record {
      importers = hi.0;
      packages = hp.0;
      snapshots = hs.0;
      catalogs = hc.names;
      catalogs_rise = hc.rise;
      entries_rise = hc.entries;
      overrides_rise = ho.1;
      importers_rise = hi.1;
      packages_rise = hp.1;
      snapshots_rise = hs.1;
    })

pub kept_of : (d : Data) (r : Result Draft ShapeFault) → are_apart d ≡ true → Reads r (draft_in d) → IfOk r IsDraft
kept_of d (Ok x) a h = draft_kept d x a h
kept_of d (Err e) a h = tt
