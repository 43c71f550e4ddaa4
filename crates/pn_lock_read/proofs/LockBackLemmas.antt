-- Reading what is printed.
use Rattle.std.proofs.Common.{◌≡◌, ℕ, Bool, true, false, List, [], map, option_map, refl, sym, ap, ◌∙◌, subst}
use Rattle.std.specs.Prelude.{Option, Some, Ok, codes}
use Rattle.pn_yaml.specs.Data.{Data, Members, no_members, member}
use Rattle.pn_yaml.specs.Data.{map as map_data}
use Rattle.pn_yaml_print.specs.Printing.{marked}
use Rattle.pn_lock_shape.specs.declared.drafts.Draft.{Draft}
use Rattle.pn_lock_shape.specs.declared.drafts.DraftImporter.{DraftImporter}
use Rattle.pn_lock_shape.specs.declared.drafts.DraftSnapshot.{DraftSnapshot}
use Rattle.pn_lock.specs.declared.lists.LockCatalog.{LockCatalog}
use Rattle.pn_lock.specs.declared.lists.LockImporter.{LockImporter}
use Rattle.pn_lock.specs.declared.lists.LockPackage.{LockPackage}
use Rattle.pn_lock.specs.declared.lists.LockSnapshot.{LockSnapshot}
use Rattle.pn_lock.specs.declared.lists.Override.{Override}
use Rattle.pn_lock_shape.specs.Bare.{bare, bare_members}
use Rattle.pn_lock_read.proofs.DraftOf.{draft_of, draft_importer, draft_snapshot}
use Rattle.pn_lock.specs.Kept.{IsLock, Rises}
use Rattle.pn_lock.specs.Locks.{Locked, Group, groups_of}
use Rattle.pn_lock_print.specs.LockData.{text, truth, group_data, settings_data, lock_data, importer_data, package_data, snapshot_data}
use Rattle.pn_lock_shape.specs.Reading.{catalogs_in, settings_in, override_in, importer_in, package_in, snapshot_in, draft_in}
use Rattle.pn_lock_read.specs.LockTexts.{lock_in, lock_of, from_draft}
use Rattle.pn_lock_print.specs.Members.{put, entries, filled}
use Rattle.pn_lock_shape.specs.Shapes.{Outcome, ◌>>=◌, at, get, required_in, optional_in, map_in}
use Rattle.pn_lock_read.proofs.BackLemmas.{importer_back, package_back, snapshot_back}
use Rattle.pn_lock_read.proofs.CatalogLemmas.{catalogs_back}
use Rattle.pn_lock.proofs.KeptLemmas.{map_same, all_from, all_any}
use Rattle.pn_lock_read.proofs.RowLemmas.{get_other, get_own, bare_put, bare_entries, bare_filled, map_back, optional_back, map_map}
use Rattle.pn_lock_read.proofs.SettleLemmas.{settled_back}
use Rattle.pn_lock_read.proofs.QuoteLemmas.{bare_marked}

settings_back : (b : Bool) → settings_in (bare (map_data (member (codes "autoInstallPeers") (truth b) (member (codes "excludeLinksFromLockfile") (truth false) no_members)))) ≡ Ok b
settings_back true = refl
settings_back false = refl

-- the members of a lockfile, where some maps may be absent
abbrev rows : Data → Data → Option Data → Option Data → Data → Option Data → Option Data → Members
rows v s w x i y z = member (codes "lockfileVersion") v (member (codes "settings") s (put (codes "catalogs") w (put (codes "overrides") x (member (codes "importers") i (put (codes "packages") y (put (codes "snapshots") z no_members))))))

bare_rows : (v s : Data) (w x : Option Data) (i : Data) (y z : Option Data) → bare_members (rows v s w x i y z) ≡ rows (bare v) (bare s) (option_map bare w) (option_map bare x) (bare i) (option_map bare y) (option_map bare z)
bare_rows v s w x i y z =
    ap (λ m. member (codes "lockfileVersion") (bare v) (member (codes "settings") (bare s) m))
    (bare_put (codes "catalogs") w (put (codes "overrides") x (member (codes "importers") i (put (codes "packages") y (put (codes "snapshots") z no_members))))
    ∙ ap (put (codes "catalogs") (option_map bare w)) (bare_put (codes "overrides") x (member (codes "importers") i (put (codes "packages") y (put (codes "snapshots") z no_members)))
    ∙ ap (λ m. put (codes "overrides") (option_map bare x) (member (codes "importers") (bare i) m))
    (bare_put (codes "packages") y (put (codes "snapshots") z no_members) ∙ ap (put (codes "packages") (option_map bare y)) (bare_put (codes "snapshots") z no_members))))

abbrev behind : Option Data → Data → Option Data → Option Data → Members
behind x i y z = put (codes "overrides") x (member (codes "importers") i (put (codes "packages") y (put (codes "snapshots") z no_members)))

get_catalogs : (v s : Data) (w x : Option Data) (i : Data) (y z : Option Data) → get (codes "catalogs") (rows v s w x i y z) ≡ w
get_catalogs v s w x i y z =
    get_own (codes "catalogs") w (behind x i y z)
    (get_other (codes "overrides") (codes "catalogs") x (member (codes "importers") i (put (codes "packages") y (put (codes "snapshots") z no_members))) refl
    ∙ get_other (codes "packages") (codes "catalogs") y (put (codes "snapshots") z no_members) refl ∙ get_other (codes "snapshots") (codes "catalogs") z no_members refl)

get_overrides : (v s : Data) (w x : Option Data) (i : Data) (y z : Option Data) → get (codes "overrides") (rows v s w x i y z) ≡ x
get_overrides v s w x i y z =
    get_other (codes "catalogs") (codes "overrides") w (behind x i y z) refl
    ∙ get_own (codes "overrides") x (member (codes "importers") i (put (codes "packages") y (put (codes "snapshots") z no_members)))
    (get_other (codes "packages") (codes "overrides") y (put (codes "snapshots") z no_members) refl ∙ get_other (codes "snapshots") (codes "overrides") z no_members refl)

get_importers : (v s : Data) (w x : Option Data) (i : Data) (y z : Option Data) → get (codes "importers") (rows v s w x i y z) ≡ Some i
get_importers v s w x i y z =
    get_other (codes "catalogs") (codes "importers") w (behind x i y z) refl
    ∙ get_other (codes "overrides") (codes "importers") x (member (codes "importers") i (put (codes "packages") y (put (codes "snapshots") z no_members))) refl

get_packages : (v s : Data) (w x : Option Data) (i : Data) (y z : Option Data) → get (codes "packages") (rows v s w x i y z) ≡ y
get_packages v s w x i y z =
    get_other (codes "catalogs") (codes "packages") w (behind x i y z) refl
    ∙ get_other (codes "overrides") (codes "packages") x (member (codes "importers") i (put (codes "packages") y (put (codes "snapshots") z no_members))) refl
    ∙ get_own (codes "packages") y (put (codes "snapshots") z no_members) (get_other (codes "snapshots") (codes "packages") z no_members refl)

get_snapshots : (v s : Data) (w x : Option Data) (i : Data) (y z : Option Data) → get (codes "snapshots") (rows v s w x i y z) ≡ z
get_snapshots v s w x i y z =
    get_other (codes "catalogs") (codes "snapshots") w (behind x i y z) refl
    ∙ get_other (codes "overrides") (codes "snapshots") x (member (codes "importers") i (put (codes "packages") y (put (codes "snapshots") z no_members))) refl
    ∙ get_other (codes "packages") (codes "snapshots") y (put (codes "snapshots") z no_members) refl ∙ get_own (codes "snapshots") z no_members refl

-- the lists of a lockfile under their keys
overrides_back : (os : List Override) → Rises (map (λ (o : Override). o.selector) os)
    → optional_in (codes "overrides") (map_in (λ (o : Override). o.selector) override_in) [] (option_map bare (filled (λ (o : Override). o.selector) (λ (o : Override). text o.value) os)) ≡ Ok os
overrides_back os rise =
    let key : Override → List ℕ = λ o. o.selector in
    let write : Override → Data = λ o. text o.value in
    ap (optional_in (codes "overrides") (map_in key override_in) []) (bare_filled key write os)
    ∙ optional_back (codes "overrides") (map_in key override_in) key (λ o. bare (write o)) (λ o. o) os
    (map_back override_in key (λ o. bare (write o)) (λ o. o) key os (all_any (λ o. override_in (key o) (bare (write o)) ≡ Ok o) (λ o. refl) os) (subst (λ xs. Rises (map key xs)) (sym (map_same os)) rise))
    ∙ ap Ok (map_same os)

importers_back : (l : Locked) → IsLock l
    → map_in (λ (i : DraftImporter). i.folder) importer_in (bare (map_data (entries (λ (i : LockImporter). i.folder) (importer_data l) l.importers))) ≡ Ok (map (draft_importer l) l.importers)
importers_back l k =
    ap (λ m. map_in (λ (i : DraftImporter). i.folder) importer_in (map_data m)) (bare_entries (λ (i : LockImporter). i.folder) (importer_data l) l.importers)
    ∙ map_back importer_in (λ (i : LockImporter). i.folder) (λ i. bare (importer_data l i)) (draft_importer l) (λ (i : DraftImporter). i.folder) l.importers
    (all_from l.importers (λ i h. importer_back l k i h) k.importers)
    (subst Rises (sym (map_map (λ (i : DraftImporter). i.folder) (draft_importer l) (λ (i : LockImporter). i.folder) l.importers (λ i. refl))) k.importers_rise)

packages_back : (l : Locked) → IsLock l
    → optional_in (codes "packages") (map_in (λ (p : LockPackage). p.id) package_in) [] (option_map bare (filled (λ (p : LockPackage). p.id) package_data l.packages)) ≡ Ok l.packages
packages_back l k =
    let key : LockPackage → List ℕ = λ p. p.id in
    ap (optional_in (codes "packages") (map_in key package_in) []) (bare_filled key package_data l.packages)
    ∙ optional_back (codes "packages") (map_in key package_in) key (λ p. bare (package_data p)) (λ p. p) l.packages
    (map_back package_in key (λ p. bare (package_data p)) (λ p. p) key l.packages (all_from l.packages (λ p h. package_back p h) k.packages) (subst (λ xs. Rises (map key xs)) (sym (map_same l.packages)) k.packages_rise))
    ∙ ap Ok (map_same l.packages)

snapshots_back : (l : Locked) → IsLock l
    → optional_in (codes "snapshots") (map_in (λ (s : DraftSnapshot). s.path) snapshot_in) [] (option_map bare (filled (λ (s : LockSnapshot). s.path) (snapshot_data l) l.snapshots)) ≡ Ok (map (draft_snapshot l) l.snapshots)
snapshots_back l k =
    let key : LockSnapshot → List ℕ = λ s. s.path in
    let own : DraftSnapshot → List ℕ = λ s. s.path in
    ap (optional_in (codes "snapshots") (map_in own snapshot_in) []) (bare_filled key (snapshot_data l) l.snapshots)
    ∙ optional_back (codes "snapshots") (map_in own snapshot_in) key (λ s. bare (snapshot_data l s)) (draft_snapshot l) l.snapshots
    (map_back snapshot_in key (λ s. bare (snapshot_data l s)) (draft_snapshot l) own l.snapshots (all_from l.snapshots (λ s h. snapshot_back l k s h) k.snapshots)
    (subst Rises (sym (map_map own (draft_snapshot l) key l.snapshots (λ s. refl))) k.snapshots_rise))

-- how the members of a lockfile are read, once each of the lists is found
abbrev Drafted : Outcome Bool → Outcome (List LockCatalog) → Outcome (List Override) → Outcome (List DraftImporter) → Outcome (List LockPackage) → Outcome (List DraftSnapshot) → Outcome Draft
Drafted a c o i p s = a >>= λ auto. c >>= λ catalogs. o >>= λ overrides. i >>= λ importers. p >>= λ packages. s >>= λ snapshots.
    Ok (record { auto = auto; catalogs = catalogs; overrides = overrides; importers = importers; packages = packages; snapshots = snapshots })

drafted : (a : Bool) (cs : List LockCatalog) (os : List Override) (is : List DraftImporter) (ps : List LockPackage) (ss : List DraftSnapshot)
    (ra : Outcome Bool) (rc : Outcome (List LockCatalog)) (ro : Outcome (List Override)) (ri : Outcome (List DraftImporter)) (rp : Outcome (List LockPackage)) (rs : Outcome (List DraftSnapshot))
    → ra ≡ Ok a → rc ≡ Ok cs → ro ≡ Ok os → ri ≡ Ok is → rp ≡ Ok ps → rs ≡ Ok ss
    → Drafted ra rc ro ri rp rs ≡ Ok (record { auto = a; catalogs = cs; overrides = os; importers = is; packages = ps; snapshots = ss })
drafted a cs os is ps ss ra rc ro ri rp rs ea ec eo ei ep es =
    ap (λ r. Drafted r rc ro ri rp rs) ea ∙ ap (λ r. Drafted (Ok a) r ro ri rp rs) ec ∙ ap (λ r. Drafted (Ok a) (Ok cs) r ri rp rs) eo ∙ ap (λ r. Drafted (Ok a) (Ok cs) (Ok os) r rp rs) ei
    ∙ ap (λ r. Drafted (Ok a) (Ok cs) (Ok os) (Ok is) r rs) ep ∙ ap (λ r. Drafted (Ok a) (Ok cs) (Ok os) (Ok is) (Ok ps) r) es

draft_back : (l : Locked) → IsLock l → draft_in (bare (lock_data l)) ≡ Ok (draft_of l)
draft_back l k =
    let v = text (codes "9.0") in
    let s = settings_data l.auto in
    let w = filled (λ (g : Group). g.0) group_data (groups_of l.catalogs) in
    let x = filled (λ (o : Override). o.selector) (λ (o : Override). text o.value) l.overrides in
    let i = map_data (entries (λ (j : LockImporter). j.folder) (importer_data l) l.importers) in
    let y = filled (λ (p : LockPackage). p.id) package_data l.packages in
    let z = filled (λ (n : LockSnapshot). n.path) (snapshot_data l) l.snapshots in
    ap (λ m. draft_in (map_data m)) (bare_rows v s w x i y z)
    ∙ drafted l.auto l.catalogs l.overrides (map (draft_importer l) l.importers) l.packages (map (draft_snapshot l) l.snapshots) _ _ _ _ _ _
    (ap (at (codes "settings")) (settings_back l.auto))
    (ap (optional_in (codes "catalogs") catalogs_in []) (get_catalogs (bare v) (bare s) (option_map bare w) (option_map bare x) (bare i) (option_map bare y) (option_map bare z)) ∙ catalogs_back (codes "catalogs") l.catalogs k.catalogs k.catalogs_rise k.entries_rise)
    (ap (optional_in (codes "overrides") (map_in (λ (o : Override). o.selector) override_in) []) (get_overrides (bare v) (bare s) (option_map bare w) (option_map bare x) (bare i) (option_map bare y) (option_map bare z)) ∙ overrides_back l.overrides k.overrides_rise)
    (ap (required_in (codes "importers") (map_in (λ (j : DraftImporter). j.folder) importer_in)) (get_importers (bare v) (bare s) (option_map bare w) (option_map bare x) (bare i) (option_map bare y) (option_map bare z)) ∙ ap (at (codes "importers")) (importers_back l k))
    (ap (optional_in (codes "packages") (map_in (λ (p : LockPackage). p.id) package_in) []) (get_packages (bare v) (bare s) (option_map bare w) (option_map bare x) (bare i) (option_map bare y) (option_map bare z)) ∙ packages_back l k)
    (ap (optional_in (codes "snapshots") (map_in (λ (n : DraftSnapshot). n.path) snapshot_in) []) (get_snapshots (bare v) (bare s) (option_map bare w) (option_map bare x) (bare i) (option_map bare y) (option_map bare z)) ∙ snapshots_back l k)

pub lock_back : (l : Locked) → IsLock l → lock_of (marked (lock_data l)) ≡ Ok l
lock_back l k =
    ap lock_in (bare_marked (lock_data l))
    ∙ ap from_draft (draft_back l k)
    ∙ settled_back l k
