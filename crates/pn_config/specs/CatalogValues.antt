-- What the values of `catalog` and `catalogs` say.
use Rattle.std.specs.Prelude.{◌≡◌, ◌⊎◌, ℕ, List, [], ◌∷◌, ◌++◌, Bool, true, false, ◌||◌, codes}
use Rattle.std.specs.Str.{bytes_eq}
use Rattle.pn_text.specs.Name.{is_name}
use Rattle.pn_spec.specs.declared.entry.CatalogEntry.{CatalogEntry}
use Rattle.pn_spec.specs.Entries.{IsRead, IsNoEntry, put_in}
use Rattle.pn_yaml.specs.Data.{Data, scalar, list, map, Members, no_members, member}

-- a catalog has this specifier under this package name
pub record Entered (catalog name text : List ℕ) (e : CatalogEntry) : Type 0 where
  pub named : is_name name ≡ true
  pub catalog_is : e.catalog ≡ catalog
  pub name_is : e.name ≡ name
  pub text_is : e.text ≡ text
  pub read : IsRead e

-- the entry that a member of a catalog says
abbrev pub IsEntryOf : List ℕ → List ℕ → Data → CatalogEntry → Type 0
IsEntryOf catalog k (scalar text plain) e = Entered catalog k text e
IsEntryOf catalog k (list ds) e = ⊥
IsEntryOf catalog k (map ms) e = ⊥

-- the entries of a catalog in the order of the file
abbrev pub AreEntries : List ℕ → Members → List CatalogEntry → Type 0
AreEntries catalog no_members es = es ≡ []
AreEntries catalog (member k d ms) es = (e : CatalogEntry) × (rest : List CatalogEntry) × IsEntryOf catalog k d e × AreEntries catalog ms rest × (es ≡ e ∷ rest)

abbrev pub IsCatalogOf : List ℕ → Data → List CatalogEntry → Type 0
IsCatalogOf catalog (scalar text plain) es = ⊥
IsCatalogOf catalog (list ds) es = ⊥
IsCatalogOf catalog (map ms) es = AreEntries catalog ms es

-- those of several catalogs, each under its name
abbrev pub AreCatalogs : Members → List CatalogEntry → Type 0
AreCatalogs no_members es = es ≡ []
AreCatalogs (member c d ms) es = (front : List CatalogEntry) × (rest : List CatalogEntry) × IsCatalogOf c d front × AreCatalogs ms rest × (es ≡ front ++ rest)

abbrev pub AreCatalogsOf : Data → List CatalogEntry → Type 0
AreCatalogsOf (scalar text plain) es = ⊥
AreCatalogsOf (list ds) es = ⊥
AreCatalogsOf (map ms) es = AreCatalogs ms es

-- a member that is no entry: it has no package name, no text, or a text that is no alias, range or tag
abbrev pub IsBadEntry : List ℕ → Data → Type 0
IsBadEntry k (scalar text plain) = (is_name k ≡ false) ⊎ IsNoEntry text
IsBadEntry k (list ds) = Unit {0}
IsBadEntry k (map ms) = Unit {0}

abbrev pub HasBadEntry : Members → Type 0
HasBadEntry no_members = ⊥
HasBadEntry (member k d ms) = IsBadEntry k d ⊎ HasBadEntry ms

abbrev pub IsNoCatalog : Data → Type 0
IsNoCatalog (scalar text plain) = Unit {0}
IsNoCatalog (list ds) = Unit {0}
IsNoCatalog (map ms) = HasBadEntry ms

abbrev pub HasBadCatalog : Members → Type 0
HasBadCatalog no_members = ⊥
HasBadCatalog (member c d ms) = IsNoCatalog d ⊎ HasBadCatalog ms

abbrev pub AreNoCatalogs : Data → Type 0
AreNoCatalogs (scalar text plain) = Unit {0}
AreNoCatalogs (list ds) = Unit {0}
AreNoCatalogs (map ms) = HasBadCatalog ms

-- entries put into catalogs, one after the other
abbrev pub puts : List CatalogEntry → List CatalogEntry → List CatalogEntry
puts [] into = into
puts (e ∷ es) into = puts es (put_in e into)

-- whether a key is among members
abbrev pub has_key : List ℕ → Members → Bool
has_key k no_members = false
has_key k (member l d ms) = bytes_eq l k || has_key k ms

-- whether a value of `catalogs` has the catalog `default`
abbrev pub names_default : Data → Bool
names_default (scalar text plain) = false
names_default (list ds) = false
names_default (map ms) = has_key (codes "default") ms
