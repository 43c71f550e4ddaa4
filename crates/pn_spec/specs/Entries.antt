-- Catalogs: what they keep, and what an entry is.
use Rattle.std.specs.Prelude.{◌≡◌, ◌⊎◌, ℕ, ◌&&◌, Bool, true, false, if◌then◌else◌, List, [], ◌∷◌, Option, Some, None}
use Rattle.std.specs.Cmp.Lexicographic.{slice_cmp}
use Rattle.std.specs.List.{All}
use Rattle.std.specs.List.Sorted.{IsStrictlySortedBy}
use Rattle.std.specs.Ordering.{nat_cmp, ordering_then}
use Rattle.std.specs.Str.{bytes_eq}
use Rattle.std.specs.declared.cmp.Ordering.{Ordering}
use Rattle.std.specs.declared.cmp.Ordering.TheVariants.{Less, Equal, Greater}
use Rattle.pn_spec.specs.declared.entry.CatalogEntry.{CatalogEntry}
use Rattle.pn_spec.specs.declared.spec.Spec.{Spec}
use Rattle.pn_spec.specs.declared.spec.Spec.TheVariants as spec
use Rattle.pn_spec.specs.Forms.{IsSpec}
use Rattle.pn_spec.specs.Refusals.{FitsNoForm}
use Rattle.pn_spec.specs.SpecTexts.{trimmed}

-- an entry is an alias, a range or a tag
abbrev pub is_entry : Spec → Bool
is_entry (spec.Workspace w) = false
is_entry (spec.Catalog c) = false
is_entry (spec.Alias n w) = true
is_entry (spec.Range r) = true
is_entry (spec.Tag x) = true

-- no form fits a text, or one fits that no entry has
abbrev pub IsNoEntry : List ℕ → Type 0
IsNoEntry text = FitsNoForm (trimmed text) ⊎ ((s : Spec) × IsSpec text s × (is_entry s ≡ false))

-- byte order of catalogs, and in a catalog of names
abbrev pub entry_cmp : CatalogEntry → CatalogEntry → Ordering
entry_cmp a b = ordering_then (slice_cmp nat_cmp a.catalog b.catalog) (slice_cmp nat_cmp a.name b.name)

-- an entry's specifier is what its text says
pub record IsRead (e : CatalogEntry) : Type 0 where
  pub read : IsSpec e.text e.spec
  pub form : is_entry e.spec ≡ true

-- what catalogs keep
pub record AreCatalogs (es : List CatalogEntry) : Type 0 where
  pub rising : IsStrictlySortedBy entry_cmp es
  pub read : All IsRead es

abbrev pub is_at : List ℕ → List ℕ → CatalogEntry → Bool
is_at catalog name e = bytes_eq e.catalog catalog && bytes_eq e.name name

-- the specifier that a catalog has under a name
abbrev pub spec_at : List ℕ → List ℕ → List CatalogEntry → Option Spec
spec_at catalog name [] = None
spec_at catalog name (e ∷ es) = if is_at catalog name e then Some e.spec else spec_at catalog name es

abbrev pub by_order : Ordering → List CatalogEntry → List CatalogEntry → List CatalogEntry → List CatalogEntry
by_order Less behind same before = behind
by_order Equal behind same before = same
by_order Greater behind same before = before

-- an entry put in at its place, in place of one with its catalog and name
abbrev pub put_in : CatalogEntry → List CatalogEntry → List CatalogEntry
put_in e [] = e ∷ []
put_in e (x ∷ xs) = by_order (entry_cmp x e) (x ∷ put_in e xs) (e ∷ xs) (e ∷ x ∷ xs)

-- the entry with this text was put in
pub record IsPut (catalog name text : List ℕ) (old new : List CatalogEntry) : Type 0 where
  pub entry : CatalogEntry
  pub catalog_is : entry.catalog ≡ catalog
  pub name_is : entry.name ≡ name
  pub text_is : entry.text ≡ text
  pub read : IsRead entry
  pub new_is : new ≡ put_in entry old

-- Behind a put, its catalog and name find what was put, and all others what they found.
abbrev pub PutLaw : Type 0
PutLaw = (e : CatalogEntry) (es : List CatalogEntry) (catalog name : List ℕ)
    → spec_at catalog name (put_in e es) ≡ (if is_at catalog name e then Some e.spec else spec_at catalog name es)
