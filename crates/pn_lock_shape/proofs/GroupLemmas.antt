-- Catalogs that are read.
use Rattle.std.proofs.Common.{◌≡◌, ℕ, Bool, true, false, cond, List, [], ◌∷◌, ◌++◌, map, refl, ap, sym, ◌∙◌, subst, Ok}
use Rattle.std.specs.Prelude.{bytes_eq, codes}
use Rattle.std.specs.List.{AllByRecursion}
use Rattle.std.specs.List.Sorted.{IsStrictlySortedBy}
use Rattle.std.specs.Cmp.Lexicographic.{slice_cmp}
use Rattle.std.specs.Ordering.{nat_cmp}
use Rattle.std.specs.declared.cmp.Ordering.TheVariants.{Less}
use Rattle.pn_text.specs.Name.{is_name}
use Rattle.pn_yaml.specs.Data.{Data, Members, are_apart}
use Rattle.pn_lock.specs.declared.lists.LockCatalog.{LockCatalog}
use Rattle.pn_lock.specs.Kept.{Rises}
use Rattle.pn_lock.specs.Locks.{Group, groups_of, onto_groups}
use Rattle.pn_lock.proofs.KeptLemmas.{all_from, itself, less_other}
use Rattle.pn_lock_shape.specs.declared.catalogs.Catalog.{Catalog}
use Rattle.pn_lock_shape.specs.OwnKeys.{ok_same, own_catalog, own_group, then_some, when_same, when_true}
use Rattle.pn_lock_shape.specs.Reading.{all_entries, catalog_in, catalogs_in, group_in}
use Rattle.pn_lock_shape.specs.Shapes.{Outcome, ◌>>=◌, map_in, members_in, required, text_in}
use Rattle.pn_lock_shape.proofs.ApartLemmas.{other_way}
use Rattle.pn_lock_shape.proofs.HaveLemmas.{map_have}
use Rattle.pn_lock_shape.proofs.PlaceLemmas.{rises_none}

pub group_read : (name base copy : List ℕ) (d : Data) (es : List LockCatalog) → base ≡ name → copy ≡ name → map_in (λ (e : LockCatalog). e.name) (catalog_in base) d ≡ Ok es
    → group_in name d ≡ Ok (record { name = copy; entries = es })
group_read name base copy d es b c h =
    ap (λ n. map_in (λ (e : LockCatalog). e.name) (catalog_in n) d >>= λ zs. Ok (record { name = name; entries = zs })) (sym b)
    ∙ ap (λ r. r >>= λ zs. Ok (record { name = name; entries = zs })) h ∙ ap (λ n. Ok (record { name = n; entries = es })) (sym c)

-- ---- the groups of the entries of some catalogs

abbrev Of : List ℕ → List LockCatalog → Type 0
Of catalog es = AllByRecursion (λ (e : LockCatalog). e.catalog ≡ catalog) es

abbrev name_of : Catalog → List ℕ
name_of c = c.name

-- a group, where it has entries
abbrev with_entries : List ℕ → List LockCatalog → List Group → List Group
with_entries name [] gs = gs
with_entries name (e ∷ es) gs = (name, e ∷ es) ∷ gs

abbrev filled : List Catalog → List Group
filled [] = []
filled (c ∷ cs) = with_entries c.name c.entries (filled cs)

-- no group has this name
abbrev Lacks : List ℕ → List Group → Type 0
Lacks name gs = AllByRecursion (λ (g : Group). bytes_eq g.0 name ≡ false) gs

lacks_with : (name other : List ℕ) (es : List LockCatalog) (gs : List Group) → bytes_eq other name ≡ false → Lacks name gs → Lacks name (with_entries other es gs)
lacks_with name other [] gs n h = h
lacks_with name other (e ∷ es) gs n h = (n, h)

lacks_filled : (name : List ℕ) (cs : List Catalog) → AllByRecursion (λ y. slice_cmp nat_cmp name y ≡ Less) (map name_of cs) → Lacks name (filled cs)
lacks_filled name [] h = tt
lacks_filled name (c ∷ cs) h = lacks_with name c.name c.entries (filled cs) (other_way name c.name (less_other name c.name h.0)) (lacks_filled name cs h.1)

onto_new : (e : LockCatalog) (gs : List Group) → Lacks e.catalog gs → onto_groups e gs ≡ (e.catalog, e ∷ []) ∷ gs
onto_new e [] h = refl
onto_new e (g ∷ gs) h = ap (λ (o : Bool). cond o ((g.0, e ∷ g.1) ∷ gs) ((e.catalog, e ∷ []) ∷ g ∷ gs)) h.0

onto_same : (e : LockCatalog) (es : List LockCatalog) (gs : List Group) → onto_groups e ((e.catalog, es) ∷ gs) ≡ (e.catalog, e ∷ es) ∷ gs
onto_same e es gs = ap (λ (o : Bool). cond o ((e.catalog, e ∷ es) ∷ gs) ((e.catalog, e ∷ []) ∷ (e.catalog, es) ∷ gs)) (itself e.catalog)

groups_cat : (name : List ℕ) (es rest : List LockCatalog) (gs : List Group) → groups_of rest ≡ gs → Lacks name gs → Of name es → groups_of (es ++ rest) ≡ with_entries name es gs
groups_cat name [] rest gs h l o = h
groups_cat name (e ∷ []) rest gs h l o =
    ap (onto_groups e) h ∙ onto_new e gs (subst (λ n. Lacks n gs) (sym o.0) l) ∙ ap (λ n. (n, e ∷ []) ∷ gs) o.0
groups_cat name (e ∷ f ∷ es) rest gs h l o =
    ap (onto_groups e) (groups_cat name (f ∷ es) rest gs h l o.1) ∙ ap (λ n. onto_groups e ((n, f ∷ es) ∷ gs)) (sym o.0) ∙ onto_same e (f ∷ es) gs ∙ ap (λ n. (n, e ∷ f ∷ es) ∷ gs) o.0

groups_all : (cs : List Catalog) → Rises (map name_of cs) → AllByRecursion (λ c. Of c.name c.entries) cs → groups_of (all_entries cs) ≡ filled cs
unfolding IsStrictlySortedBy
groups_all [] r o = refl
groups_all (c ∷ cs) r o = groups_cat c.name c.entries (all_entries cs) (filled cs) (groups_all cs r.1 o.1) (lacks_filled c.name cs r.0) o.0

all_filled : (P : List ℕ → Type 0) (cs : List Catalog) → AllByRecursion P (map name_of cs) → AllByRecursion P (map (λ (g : Group). g.0) (filled cs))
all_filled P [] h = tt
all_filled P (c ∷ cs) h = onto c.entries (filled cs) h.0 (all_filled P cs h.1) where
  onto : (es : List LockCatalog) (gs : List Group) → P c.name → AllByRecursion P (map (λ (g : Group). g.0) gs) → AllByRecursion P (map (λ (g : Group). g.0) (with_entries c.name es gs))
  onto [] gs p h = h
  onto (e ∷ es) gs p h = (p, h)

filled_rise : (cs : List Catalog) → Rises (map name_of cs) → Rises (map (λ (g : Group). g.0) (filled cs))
unfolding IsStrictlySortedBy
filled_rise [] r = tt
filled_rise (c ∷ cs) r = onto c.entries (filled cs) (all_filled (λ y. slice_cmp nat_cmp c.name y ≡ Less) cs r.0) (filled_rise cs r.1) where
  onto : (es : List LockCatalog) (gs : List Group) → AllByRecursion (λ y. slice_cmp nat_cmp c.name y ≡ Less) (map (λ (g : Group). g.0) gs) → Rises (map (λ (g : Group). g.0) gs)
      → Rises (map (λ (g : Group). g.0) (with_entries c.name es gs))
  onto [] gs l r = r
  onto (e ∷ es) gs l r = (l, r)

abbrev EntriesRise : List LockCatalog → Type 0
EntriesRise es = Rises (map (λ (e : LockCatalog). e.name) es)

filled_entries : (cs : List Catalog) → AllByRecursion (λ c. EntriesRise c.entries) cs → AllByRecursion (λ (g : Group). EntriesRise g.1) (filled cs)
filled_entries [] h = tt
filled_entries (c ∷ cs) h = onto c.entries (filled cs) h.0 (filled_entries cs h.1) where
  onto : (es : List LockCatalog) (gs : List Group) → EntriesRise es → AllByRecursion (λ (g : Group). EntriesRise g.1) gs → AllByRecursion (λ (g : Group). EntriesRise g.1) (with_entries c.name es gs)
  onto [] gs p h = h
  onto (e ∷ es) gs p h = (p, h)

all_append : (P : LockCatalog → Type 0) (xs ys : List LockCatalog) → AllByRecursion P xs → AllByRecursion P ys → AllByRecursion P (xs ++ ys)
all_append P [] ys h g = g
all_append P (x ∷ xs) ys h g = (h.0, all_append P xs ys h.1 g)

all_joined : (P : LockCatalog → Type 0) (cs : List Catalog) → AllByRecursion (λ c. AllByRecursion P c.entries) cs → AllByRecursion P (all_entries cs)
all_joined P [] h = tt
all_joined P (c ∷ cs) h = all_append P c.entries (all_entries cs) h.0 (all_joined P cs h.1)

-- ---- what is read

abbrev IsNamed : LockCatalog → Type 0
IsNamed e = is_name e.name ≡ true

pub record IsCatalogs (es : List LockCatalog) : Type 0 where
  pub names : AllByRecursion (λ (e : LockCatalog). is_name e.name ≡ true) es
  pub rise : Rises (map (λ (g : Group). g.0) (groups_of es))
  pub entries : AllByRecursion (λ (g : Group). Rises (map (λ (e : LockCatalog). e.name) g.1)) (groups_of es)

pub no_catalogs : IsCatalogs []
no_catalogs = record { names = tt; rise = rises_none; entries = tt }

abbrev IsEntry : List ℕ → LockCatalog → Type 0
IsEntry catalog e = (is_name e.name ≡ true) × (e.catalog ≡ catalog)

entry_have : (catalog k : List ℕ) (d : Data) (x : LockCatalog) → catalog_in catalog k d ≡ Ok x → IsEntry catalog x
entry_have catalog k d x h =
    let s = codes "specifier" in
    let v = codes "version" in
    let made : List ℕ → List ℕ → LockCatalog = λ specifier version. record { catalog = catalog; name = k; specifier = specifier; version = version } in
    let second : Members → List ℕ → Outcome LockCatalog = λ ms specifier. required v text_in ms >>= λ version. Ok (made specifier version) in
    let first : Members → Outcome LockCatalog = λ ms. required s text_in ms >>= λ specifier. second ms specifier in
    let whole : List ℕ → Outcome LockCatalog = λ n. members_in d >>= λ ms. required s text_in ms >>= λ specifier. required v text_in ms >>= λ version. Ok (record { catalog = catalog; name = n; specifier = specifier; version = version }) in
    let m = then_some (members_in d) first x (when_same (is_name k) k whole x h) in
    let a = then_some (required s text_in m.0) (second m.0) x m.2 in
    let b = then_some (required v text_in m.0) (λ version. Ok (made a.0 version)) x a.2 in
    subst (IsEntry catalog) (ok_same (made a.0 b.0) x (Ok (made a.0 b.0)) refl b.2) (when_true (is_name k) k whole x h, refl)

abbrev IsCatalog : Catalog → Type 0
IsCatalog c = AllByRecursion (IsEntry c.name) c.entries × EntriesRise c.entries

group_have : (k : List ℕ) (d : Data) (x : Catalog) → are_apart d ≡ true → group_in k d ≡ Ok x → IsCatalog x
group_have k d x a h =
    let name : LockCatalog → List ℕ = λ e. e.name in
    let made : List LockCatalog → Catalog = λ es. record { name = k; entries = es } in
    let m = then_some (map_in name (catalog_in k) d) (λ es. Ok (made es)) x h in
    subst IsCatalog (ok_same (made m.0) x (Ok (made m.0)) refl m.2) (map_have name (catalog_in k) (IsEntry k) (own_catalog k) (λ j d x a h. entry_have k j d x h) d m.0 a m.1)

pub catalogs_have : (d : Data) (es : List LockCatalog) → are_apart d ≡ true → catalogs_in d ≡ Ok es → IsCatalogs es
catalogs_have d es a h =
    let m = then_some (map_in name_of group_in d) (λ cs. Ok (all_entries cs)) es h in
    let have = map_have name_of group_in IsCatalog own_group group_have d m.0 a m.1 in
    let groups = groups_all m.0 have.1 (all_from m.0 (λ c p. all_from c.entries (λ e q. q.1) p.0) have.0) in
    subst IsCatalogs (ok_same (all_entries m.0) es (Ok (all_entries m.0)) refl m.2) (record {
      names = all_joined IsNamed m.0 (all_from m.0 (λ c p. all_from c.entries (λ e q. q.0) p.0) have.0);
      rise = subst (λ gs. Rises (map (λ (g : Group). g.0) gs)) (sym groups) (filled_rise m.0 have.1);
      entries = subst (λ gs. AllByRecursion (λ (g : Group). Rises (map (λ (e : LockCatalog). e.name) g.1)) gs) (sym groups) (filled_entries m.0 (all_from m.0 (λ c p. p.1) have.0));
    })
