-- Catalogs read back.
use Rattle.std.proofs.Common.{◌≡◌, ℕ, true, false, cond, List, [], ◌∷◌, ◌++◌, map, option_map, refl, sym, ap, ◌∙◌, subst}
use Rattle.std.specs.Prelude.{Ok}
use Rattle.std.specs.List.{AllByRecursion}
use Rattle.std.specs.Str.{bytes_eq}
use Rattle.std.proofs.lemmas.Slice.Eq.{bytes_eq-Decides}
use Rattle.pn_text.specs.Name.{is_name}
use Rattle.pn_yaml.specs.Data.{Data}
use Rattle.pn_yaml.specs.Data.{map as map_data}
use Rattle.pn_lock.specs.declared.lists.LockCatalog.{LockCatalog}
use Rattle.pn_lock_shape.specs.Bare.{bare}
use Rattle.pn_lock.specs.Kept.{Rises}
use Rattle.pn_lock.specs.Locks.{Group, onto_groups, groups_of}
use Rattle.pn_lock_print.specs.LockData.{catalog_data, group_data}
use Rattle.pn_lock_shape.specs.declared.catalogs.Catalog.{Catalog}
use Rattle.pn_lock_shape.specs.Reading.{all_entries, catalog_in, group_in, catalogs_in}
use Rattle.pn_lock_print.specs.Members.{entries, filled}
use Rattle.pn_lock_shape.specs.Shapes.{◌>>=◌, at, when, map_in, optional_in}
use Rattle.pn_lock.proofs.KeptLemmas.{map_same, all_from, all_both}
use Rattle.pn_lock_read.proofs.RowLemmas.{bare_entries, bare_filled, map_back, map_map}

abbrev made : Group → Catalog
made g = record { name = g.0; entries = g.1 }

abbrev joined : List Group → List LockCatalog
joined gs = all_entries (map made gs)

abbrev Fits : Group → Type 0
Fits g = AllByRecursion (λ (e : LockCatalog). (e.catalog ≡ g.0) × (is_name e.name ≡ true)) g.1

fits_onto : (e : LockCatalog) (gs : List Group) → is_name e.name ≡ true → AllByRecursion Fits gs → AllByRecursion Fits (onto_groups e gs)
fits_onto e [] n h = (((refl, n), tt), tt)
fits_onto e (g ∷ gs) n h = (elim (bytes_eq g.0 e.catalog) as (λ o. bytes_eq g.0 e.catalog ≡ o → AllByRecursion Fits (cond o ((g.0, e ∷ g.1) ∷ gs) ((e.catalog, e ∷ []) ∷ g ∷ gs))) [
  | true ↦ λ is. (((sym ((bytes_eq-Decides g.0 e.catalog).0 is), n), h.0), h.1)
  | false ↦ λ is. (((refl, n), tt), h)
]) refl

fits_all : (es : List LockCatalog) → AllByRecursion (λ (e : LockCatalog). is_name e.name ≡ true) es → AllByRecursion Fits (groups_of es)
fits_all [] h = tt
fits_all (e ∷ es) h = fits_onto e (groups_of es) h.0 (fits_all es h.1)

joined_onto : (e : LockCatalog) (gs : List Group) → joined (onto_groups e gs) ≡ e ∷ joined gs
joined_onto e [] = refl
joined_onto e (g ∷ gs) = elim (bytes_eq g.0 e.catalog) as (λ o. joined (cond o ((g.0, e ∷ g.1) ∷ gs) ((e.catalog, e ∷ []) ∷ g ∷ gs)) ≡ e ∷ (g.1 ++ joined gs)) [ true ↦ refl | false ↦ refl ]

joined_back : (es : List LockCatalog) → joined (groups_of es) ≡ es
joined_back [] = refl
joined_back (e ∷ es) = joined_onto e (groups_of es) ∙ ap (λ r. e ∷ r) (joined_back es)

entry_back : (catalog : List ℕ) (e : LockCatalog) → (e.catalog ≡ catalog) × (is_name e.name ≡ true) → catalog_in catalog e.name (bare (catalog_data e)) ≡ Ok e
entry_back catalog e h =
    ap (λ g. when g e.name >>= λ n. Ok (record { catalog = catalog; name = n; specifier = e.specifier; version = e.version })) h.1
    ∙ ap (λ c. Ok (record { catalog = c; name = e.name; specifier = e.specifier; version = e.version })) (sym h.0)

group_back : (g : Group) → Fits g × Rises (map (λ (e : LockCatalog). e.name) g.1) → group_in g.0 (bare (group_data g)) ≡ Ok (made g)
group_back g h =
    let name : LockCatalog → List ℕ = λ e. e.name in
    let whole : List LockCatalog → Catalog = λ es. record { name = g.0; entries = es } in
    ap (λ m. map_in name (catalog_in g.0) (map_data m) >>= λ es. Ok (whole es)) (bare_entries name catalog_data g.1)
    ∙ ap (λ r. r >>= λ es. Ok (whole es)) (map_back (catalog_in g.0) name (λ e. bare (catalog_data e)) (λ e. e) name g.1 (all_from g.1 (λ e f. entry_back g.0 e f) h.0) (subst (λ xs. Rises (map name xs)) (sym (map_same g.1)) h.1) ∙ ap Ok (map_same g.1))

optional_joined : (k : List ℕ) (write : Group → Data) (gs : List Group) → catalogs_in (map_data (entries (λ (g : Group). g.0) write gs)) ≡ Ok (joined gs)
    → optional_in k catalogs_in [] (filled (λ (g : Group). g.0) write gs) ≡ Ok (joined gs)
optional_joined k write [] h = refl
optional_joined k write (g ∷ gs) h = ap (at k) h

pub catalogs_back : (k : List ℕ) (es : List LockCatalog) → AllByRecursion (λ (e : LockCatalog). is_name e.name ≡ true) es → Rises (map (λ (g : Group). g.0) (groups_of es))
    → AllByRecursion (λ (g : Group). Rises (map (λ (e : LockCatalog). e.name) g.1)) (groups_of es)
    → optional_in k catalogs_in [] (option_map bare (filled (λ (g : Group). g.0) group_data (groups_of es))) ≡ Ok es
catalogs_back k es n rise inner =
    let key : Group → List ℕ = λ g. g.0 in
    let own : Catalog → List ℕ = λ c. c.name in
    let gs = groups_of es in
    ap (optional_in k catalogs_in []) (bare_filled key group_data gs)
    ∙ optional_joined k (λ g. bare (group_data g)) gs
    (ap (λ r. r >>= λ cs. Ok (all_entries cs)) (map_back group_in key (λ g. bare (group_data g)) made own gs
    (all_from gs (λ g h. group_back g h) (all_both Fits (λ (g : Group). Rises (map (λ (e : LockCatalog). e.name) g.1)) gs (fits_all es n) inner))
    (subst Rises (sym (map_map own made key gs (λ g. refl))) rise)))
    ∙ ap Ok (joined_back es)
