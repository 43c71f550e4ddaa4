-- What the catalogs of a lock keep.
use Rattle.std.proofs.Common.{◌≡◌, ℕ, true, false, cond, List, [], ◌∷◌, ◌++◌, map, Some, None, nat_cmp, Ordering, inl, inr, refl, sym, ◌∙◌, subst}
use Rattle.std.specs.Prelude.{◌⊎◌, bytes_eq}
use Rattle.std.specs.Cmp.Lexicographic.{slice_cmp}
use Rattle.std.specs.List.{AllByRecursion}
use Rattle.std.specs.List.Sorted.{IsStrictlySortedBy}
use Rattle.std.specs.Ordering.{ordering_then}
use Rattle.std.specs.declared.cmp.Ordering.TheVariants.{Less, Equal, Greater}
use Rattle.std.proofs.lemmas.Map.Lookups.{exact_bytes}
use Rattle.std.proofs.lemmas.Slice.Eq.{bytes_eq-Decides}
use Rattle.pn_text.proofs.Orders.{not_before_self}
use Rattle.pn_spec.specs.Entries.{entry_cmp}
use Rattle.pn_spec.specs.declared.entry.CatalogEntry.{CatalogEntry}
use Rattle.pn_lock.specs.declared.lists.LockCatalog.{LockCatalog}
use Rattle.pn_lock.specs.Kept.{Rises}
use Rattle.pn_lock.specs.Locks.{Group, groups_of, onto_groups}
use Rattle.pn_lock.proofs.KeptLemmas.{all_map}
use Rattle.pn_lock_make.specs.Entries.{entries_of, entry_of, used_at}
use Rattle.pn_lock_make.specs.declared.catalogs.Use.{Use}
use Rattle.pn_lock_make.proofs.OrderLemmas.{before_all}

abbrev cmp : List ℕ → List ℕ → Ordering
cmp = slice_cmp nat_cmp

-- byte order of catalogs, and in a catalog of names
abbrev pub locked_cmp : LockCatalog → LockCatalog → Ordering
locked_cmp e f = ordering_then (slice_cmp nat_cmp e.catalog f.catalog) (slice_cmp nat_cmp e.name f.name)

-- ---- entries

pub entries_all : (P : CatalogEntry → Type 0) (Q : LockCatalog → Type 0) (uses : List Use) (es : List CatalogEntry)
    → ((e : CatalogEntry) (v : List ℕ) → P e → Q (record { catalog = e.catalog; name = e.name; specifier = e.text; version = v })) → AllByRecursion P es → AllByRecursion Q (entries_of uses es)
entries_all P Q uses [] f h = tt
entries_all P Q uses (e ∷ es) f h = elim (used_at e.catalog e.name uses) as (λ o. AllByRecursion Q (entry_of e o ++ entries_of uses es)) [
  | None ↦ entries_all P Q uses es f h.1
  | Some v ↦ (f e v h.0, entries_all P Q uses es f h.1)
]

pub entries_rise : (uses : List Use) (es : List CatalogEntry) → IsStrictlySortedBy entry_cmp es → IsStrictlySortedBy locked_cmp (entries_of uses es)
unfolding IsStrictlySortedBy
entries_rise uses [] h = tt
entries_rise uses (e ∷ es) h = elim (used_at e.catalog e.name uses) as (λ o. IsStrictlySortedBy locked_cmp (entry_of e o ++ entries_of uses es)) [
  | None ↦ entries_rise uses es h.1
  | Some v ↦ (
    entries_all (λ (f : CatalogEntry). entry_cmp e f ≡ Less) (λ (f : LockCatalog). locked_cmp (record { catalog = e.catalog; name = e.name; specifier = e.text; version = v }) f ≡ Less) uses es (λ f w k. k) h.0,
    entries_rise uses es h.1,
  )
]

-- ---- groups

abbrev NamesAfter : LockCatalog → List LockCatalog → Type 0
NamesAfter e fs = AllByRecursion (λ (f : LockCatalog). slice_cmp nat_cmp e.name f.name ≡ Less) fs

-- a group of a later catalog, or of an entry's own with later names
abbrev IsAfter : LockCatalog → Group → Type 0
IsAfter e g = (slice_cmp nat_cmp e.catalog g.0 ≡ Less) ⊎ ((e.catalog ≡ g.0) × NamesAfter e g.1)

parts : (o p : Ordering) → ordering_then o p ≡ Less → (o ≡ Less) ⊎ ((o ≡ Equal) × (p ≡ Less))
parts Less p h = inl refl
parts Equal p h = inr (refl, h)
parts Greater p h = absurd (cc h)

single : (e f : LockCatalog) → locked_cmp e f ≡ Less → IsAfter e (f.catalog, f ∷ [])
single e f h = elim (parts (cmp e.catalog f.catalog) (cmp e.name f.name) h) [
  | inl less ↦ inl less
  | inr same ↦ inr (exact_bytes e.catalog f.catalog same.0, (same.1, tt))
]

one_more : (e f : LockCatalog) (g : Group) → locked_cmp e f ≡ Less → g.0 ≡ f.catalog → IsAfter e g → IsAfter e (g.0, f ∷ g.1)
one_more e f g h is k = elim k [
  | inl less ↦ inl less
  | inr own ↦ elim (parts (cmp e.catalog f.catalog) (cmp e.name f.name) h) [
    | inl less ↦ absurd (not_before_self f.catalog (subst (λ (c : List ℕ). cmp c f.catalog ≡ Less) (own.0 ∙ is) less))
    | inr same ↦ inr (own.0, (same.1, own.1))
  ]
]

after_onto : (e f : LockCatalog) (gs : List Group) → locked_cmp e f ≡ Less → AllByRecursion (IsAfter e) gs → AllByRecursion (IsAfter e) (onto_groups f gs)
after_onto e f [] h k = (single e f h, tt)
after_onto e f (g ∷ gs) h k = elim (bytes_eq g.0 f.catalog) as (λ o. bytes_eq g.0 f.catalog ≡ o → AllByRecursion (IsAfter e) (cond o ((g.0, f ∷ g.1) ∷ gs) ((f.catalog, f ∷ []) ∷ g ∷ gs))) [
  | true ↦ λ is. (one_more e f g h ((bytes_eq-Decides g.0 f.catalog).0 is) k.0, k.1)
  | false ↦ λ is. (single e f h, k)
] refl

all_after : (e : LockCatalog) (es : List LockCatalog) → AllByRecursion (λ (f : LockCatalog). locked_cmp e f ≡ Less) es → AllByRecursion (IsAfter e) (groups_of es)
all_after e [] h = tt
all_after e (f ∷ es) h = after_onto e f (groups_of es) h.0 (all_after e es h.1)

-- groups rise, and in each the names
pub record AreRisingGroups (gs : List Group) : Type 0 where
  pub catalogs : Rises (map (λ (g : Group). g.0) gs)
  pub entries : AllByRecursion (λ (g : Group). Rises (map (λ (e : LockCatalog). e.name) g.1)) gs

first_name : (e : LockCatalog) (g : Group) → g.0 ≡ e.catalog → IsAfter e g → Rises (map (λ (f : LockCatalog). f.name) g.1) → Rises (e.name ∷ map (λ (f : LockCatalog). f.name) g.1)
unfolding IsStrictlySortedBy
first_name e g is k up = (
  elim k [
    | inl less ↦ absurd (not_before_self g.0 (subst (λ (c : List ℕ). cmp c g.0 ≡ Less) (sym is) less))
    | inr own ↦ all_map (λ (n : List ℕ). slice_cmp nat_cmp e.name n ≡ Less) (λ (f : LockCatalog). f.name) g.1 own.1
  ],
  up,
)

first_group : (e : LockCatalog) (g : Group) (gs : List Group) → bytes_eq g.0 e.catalog ≡ false → IsAfter e g → Rises (map (λ (g : Group). g.0) (g ∷ gs)) → Rises (e.catalog ∷ map (λ (g : Group). g.0) (g ∷ gs))
unfolding IsStrictlySortedBy
first_group e g gs is k up =
    let less : cmp e.catalog g.0 ≡ Less = elim k [
      | inl less ↦ less
      | inr own ↦ let same : bytes_eq g.0 e.catalog ≡ true = (bytes_eq-Decides g.0 e.catalog).1 (sym own.0) in let no : true ≡ false = sym same ∙ is in absurd (cc no)
    ] in
    ((less, before_all e.catalog g.0 (map (λ (g : Group). g.0) gs) less up.0), up)

one_name : (e : LockCatalog) → Rises (e.name ∷ [])
unfolding IsStrictlySortedBy
one_name e = (tt, tt)

one_catalog : (e : LockCatalog) → Rises (e.catalog ∷ [])
unfolding IsStrictlySortedBy
one_catalog e = (tt, tt)

onto_rise : (e : LockCatalog) (gs : List Group) → AllByRecursion (IsAfter e) gs → AreRisingGroups gs → AreRisingGroups (onto_groups e gs)
onto_rise e [] k r = record { catalogs = one_catalog e; entries = (one_name e, tt) }
onto_rise e (g ∷ gs) k r = elim (bytes_eq g.0 e.catalog) as (λ o. bytes_eq g.0 e.catalog ≡ o → AreRisingGroups (cond o ((g.0, e ∷ g.1) ∷ gs) ((e.catalog, e ∷ []) ∷ g ∷ gs))) [
  | true ↦ λ is. record { catalogs = r.catalogs; entries = (first_name e g ((bytes_eq-Decides g.0 e.catalog).0 is) k.0 r.entries.0, r.entries.1) }
  | false ↦ λ is. record { catalogs = first_group e g gs is k.0 r.catalogs; entries = (one_name e, r.entries) }
] refl

pub groups_rise : (es : List LockCatalog) → IsStrictlySortedBy locked_cmp es → AreRisingGroups (groups_of es)
unfolding IsStrictlySortedBy
groups_rise [] h = record { catalogs = tt; entries = tt }
groups_rise (e ∷ es) h = onto_rise e (groups_of es) (all_after e es h.0) (groups_rise es h.1)
