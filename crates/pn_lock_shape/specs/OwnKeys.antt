-- What is read of an entry has the entry's key.
use Rattle.std.proofs.Common.{◌≡◌, ℕ, Bool, true, false, List, [], ◌++◌, refl, sym, ap, ◌∙◌, subst}
use Rattle.std.specs.Prelude.{◌&&◌, not, Ok, Err, bytes_eq, codes}
use Rattle.pn_text.specs.Ids.{id_name, is_id}
use Rattle.pn_text.specs.Name.{is_name}
use Rattle.pn_yaml.specs.Data.{Data}
use Rattle.pn_deppath.specs.Paths.{id_part, is_dep_path}
use Rattle.pn_lock.specs.declared.lists.LockCatalog.{LockCatalog}
use Rattle.pn_lock.specs.declared.lists.LockPackage.{LockPackage}
use Rattle.pn_lock.specs.declared.lists.LockPeer.{LockPeer}
use Rattle.pn_lock.specs.declared.lists.Override.{Override}
use Rattle.pn_lock.specs.Folders.{is_folder}
use Rattle.pn_lock.specs.Kept.{is_in}
use Rattle.pn_lock_shape.specs.declared.catalogs.Catalog.{Catalog}
use Rattle.pn_lock_shape.specs.declared.drafts.DraftDependency.{DraftDependency}
use Rattle.pn_lock_shape.specs.declared.drafts.DraftImporter.{DraftImporter}
use Rattle.pn_lock_shape.specs.declared.drafts.DraftLink.{DraftLink}
use Rattle.pn_lock_shape.specs.declared.drafts.DraftSnapshot.{DraftSnapshot}
use Rattle.pn_lock_shape.specs.declared.packages.PeerMeta.{PeerMeta}
use Rattle.pn_lock_shape.specs.Reading.{aliases_in, catalog_in, dependencies_in, dependency_in, goal_in, group_in, importer_in, link_in, links_from, links_in, meta_in, optional_names, override_in, package_in, peer_in, resolution_in, snapshot_in, transitive_in}
use Rattle.pn_lock_shape.specs.Shapes.{Outcome, ◌>>=◌, members_in, optional, required, map_in, text_in, truth_in, when}

abbrev IsRead : {A : Type 0} → Outcome A → Type 0
IsRead (Ok x) = Unit {0}
IsRead (Err e) = ⊥

abbrev read_or : {A : Type 0} → A → Outcome A → A
read_or a (Ok x) = x
read_or a (Err e) = a

-- what was tested is the same
pub when_same : {A B : Type 0} (g : Bool) (k : A) (f : A → Outcome B) (x : B) → (when g k >>= f) ≡ Ok x → f k ≡ Ok x
when_same true k f x h = h
when_same false k f x h = absurd (subst IsRead (sym h) tt)

pub when_true : {A B : Type 0} (g : Bool) (k : A) (f : A → Outcome B) (x : B) → (when g k >>= f) ≡ Ok x → g ≡ true
when_true true k f x h = refl
when_true false k f x h = absurd (subst IsRead (sym h) tt)

-- the first of two steps was taken
pub then_some : {A B : Type 0} (r : Outcome A) (f : A → Outcome B) (x : B) → (r >>= f) ≡ Ok x → (a : A) × (r ≡ Ok a) × (f a ≡ Ok x)
then_some (Ok a) f x h = (a, refl, h)
then_some (Err e) f x h = absurd (subst IsRead (sym h) tt)

pub ok_same : {A : Type 0} (a x : A) (r : Outcome A) → r ≡ Ok a → r ≡ Ok x → a ≡ x
ok_same a x r h g = ap (read_or a) (sym h) ∙ ap (read_or a) g

ok_key : {A : Type 0} (key : A → List ℕ) (a x : A) (r : Outcome A) → r ≡ Ok a → r ≡ Ok x → key x ≡ key a
ok_key key a x r h g = ap key (sym (ok_same a x r h g))

-- a field that doesn't change the key
own_then : {A B : Type 0} (key : B → List ℕ) (k : List ℕ) (r : Outcome A) (f : A → Outcome B) → ((a : A) (x : B) → f a ≡ Ok x → key x ≡ k) → (x : B) → (r >>= f) ≡ Ok x → key x ≡ k
own_then key k (Ok a) f g x h = g a x h
own_then key k (Err e) f g x h = absurd (subst IsRead (sym h) tt)

own_when : {B : Type 0} (key : B → List ℕ) (k : List ℕ) (b : Bool) (f : List ℕ → Outcome B) → ((x : B) → f k ≡ Ok x → key x ≡ k) → (x : B) → (when b k >>= f) ≡ Ok x → key x ≡ k
own_when key k true f g x h = g x h
own_when key k false f g x h = absurd (subst IsRead (sym h) tt)

pub own_override : (k : List ℕ) (d : Data) (x : Override) → override_in k d ≡ Ok x → x.selector ≡ k
own_override k d x h = own_then (λ (o : Override). o.selector) k (text_in d) _ (λ value x g. ok_key (λ (o : Override). o.selector) (record { selector = k; value = value }) x _ refl g) x h

pub own_catalog : (catalog k : List ℕ) (d : Data) (x : LockCatalog) → catalog_in catalog k d ≡ Ok x → x.name ≡ k
own_catalog catalog k d x h =
    let key : LockCatalog → List ℕ = λ e. e.name in
    own_when key k (is_name k) _ (λ x h. own_then key k (members_in d) _ (λ ms x h. own_then key k (required (codes "specifier") text_in ms) _ (λ s x h. own_then key k (required (codes "version") text_in ms) _ (λ v x h.
    ok_key key (record { catalog = catalog; name = k; specifier = s; version = v }) x _ refl h) x h) x h) x h) x h

pub own_group : (k : List ℕ) (d : Data) (x : Catalog) → group_in k d ≡ Ok x → x.name ≡ k
own_group k d x h =
    own_then (λ (c : Catalog). c.name) k (map_in (λ (e : LockCatalog). e.name) (catalog_in k) d) _ (λ es x h. ok_key (λ (c : Catalog). c.name) (record { name = k; entries = es }) x _ refl h) x h

pub own_dependency : (base : List ℕ) (seen : List (List ℕ)) (k : List ℕ) (d : Data) (x : DraftDependency) → dependency_in base seen k d ≡ Ok x → x.alias ≡ k
own_dependency base seen k d x h =
    let key : DraftDependency → List ℕ = λ e. e.alias in
    own_when key k (is_name k && not (is_in seen k))
    (λ name. members_in d >>= λ ms. required (codes "specifier") text_in ms >>= λ s. required (codes "version") (goal_in base k) ms >>= λ to. Ok (record { alias = name; specifier = s; aim = to }))
    (λ x h. own_then key k (members_in d) _ (λ ms x h. own_then key k (required (codes "specifier") text_in ms) _ (λ s x h. own_then key k (required (codes "version") (goal_in base k) ms) _ (λ to x h.
    ok_key key (record { alias = k; specifier = s; aim = to }) x _ refl h) x h) x h) x h) x h

pub own_importer : (k : List ℕ) (d : Data) (x : DraftImporter) → importer_in k d ≡ Ok x → x.folder ≡ k
own_importer k d x h =
    let key : DraftImporter → List ℕ = λ i. i.folder in
    own_when key k (is_folder k) _ (λ x h. own_then key k (members_in d) _ (λ ms x h. own_then key k (optional (codes "dependencies") (dependencies_in k []) [] ms) _ (λ ds x h.
    own_then key k (optional (codes "devDependencies") (dependencies_in k (aliases_in ds)) [] ms) _ (λ dev x h. own_then key k (optional (codes "optionalDependencies") (dependencies_in k (aliases_in ds ++ aliases_in dev)) [] ms) _ (λ opts x h.
    ok_key key (record { folder = k; dependencies = ds; dev = dev; optional = opts }) x _ refl h) x h) x h) x h) x h) x h

pub own_peer : (k : List ℕ) (d : Data) (x : LockPeer) → peer_in k d ≡ Ok x → x.name ≡ k
own_peer k d x h =
    let key : LockPeer → List ℕ = λ p. p.name in
    own_when key k (is_name k) _ (λ x h. own_then key k (text_in d) _ (λ range x h. ok_key key (record { name = k; range = range }) x _ refl h) x h) x h

pub own_meta : (k : List ℕ) (d : Data) (x : PeerMeta) → meta_in k d ≡ Ok x → x.name ≡ k
own_meta k d x h =
    let key : PeerMeta → List ℕ = λ m. m.name in
    own_when key k (is_name k) _ (λ x h. own_then key k (members_in d) _ (λ ms x h. own_then key k (optional (codes "optional") truth_in false ms) _ (λ is x h. ok_key key (record { name = k; optional = is }) x _ refl h) x h) x h) x h

pub own_package : (k : List ℕ) (d : Data) (x : LockPackage) → package_in k d ≡ Ok x → x.id ≡ k
own_package k d x h =
    let key : LockPackage → List ℕ = λ p. p.id in
    own_when key k (is_id k) _ (λ x h. own_then key k (members_in d) _ (λ ms x h. own_then key k (required (codes "resolution") resolution_in ms) _ (λ integrity x h.
    own_then key k (optional (codes "peerDependencies") (map_in (λ (p : LockPeer). p.name) peer_in) [] ms) _ (λ peers x h. own_then key k (optional (codes "peerDependenciesMeta") (map_in (λ (m : PeerMeta). m.name) meta_in) [] ms) _ (λ metas x h.
    ok_key key (record { id = k; integrity = integrity; peers = peers; optional_peers = optional_names metas }) x _ refl h) x h) x h) x h) x h) x h

pub own_link : (own : List ℕ) (seen : List (List ℕ)) (k : List ℕ) (d : Data) (x : DraftLink) → link_in own seen k d ≡ Ok x → x.alias ≡ k
own_link own seen k d x h =
    let key : DraftLink → List ℕ = λ l. l.alias in
    own_when key k (is_name k && (not (bytes_eq k own) && not (is_in seen k))) (λ name. goal_in (codes ".") k d >>= λ to. Ok (record { alias = name; aim = to }))
    (λ x h. own_then key k (goal_in (codes ".") k d) _ (λ to x h. ok_key key (record { alias = k; aim = to }) x _ refl h) x h) x h

pub own_snapshot : (k : List ℕ) (d : Data) (x : DraftSnapshot) → snapshot_in k d ≡ Ok x → x.path ≡ k
own_snapshot k d x h =
    let key : DraftSnapshot → List ℕ = λ s. s.path in
    own_when key k (is_dep_path k) _ (λ x h. own_then key k (members_in d) _ (λ ms x h. own_then key k (optional (codes "dependencies") (links_from (id_name (id_part k)) []) [] ms) _ (λ ds x h.
    own_then key k (optional (codes "optionalDependencies") (links_from (id_name (id_part k)) (links_in ds)) [] ms) _ (λ opts x h. own_then key k (optional (codes "transitivePeerDependencies") transitive_in [] ms) _ (λ names x h.
    ok_key key (record { path = k; dependencies = ds; optional = opts; transitive = names }) x _ refl h) x h) x h) x h) x h) x h
