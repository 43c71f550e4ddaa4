-- The texts that a file has in its catalogs.
use Rattle.std.specs.Prelude.{◌≡◌, ℕ, List, Option, Some, None, MatchOption, if◌then◌else◌, codes}
use Rattle.std.specs.Option.{option_or}
use Rattle.std.specs.Str.{bytes_eq}
use Rattle.pn_spec.specs.declared.entry.CatalogEntry.{CatalogEntry}
use Rattle.pn_spec.specs.declared.spec.Spec.{Spec}
use Rattle.pn_spec.specs.Entries.{spec_at}
use Rattle.pn_spec.specs.Forms.{IsSpec}
use Rattle.pn_yaml.specs.Data.{Data, scalar, list, map, Members, no_members, member}
use Rattle.pn_config.specs.declared.key.Key.{Key}
use Rattle.pn_config.specs.declared.key.Key.TheVariants as key
use Rattle.pn_config.specs.Keys.{key_of}
use Rattle.pn_config.specs.Values.{text_of}

-- the last text under a name; a map has at most one
abbrev pub name_text : List ℕ → Members → Option (List ℕ)
name_text name no_members = None
name_text name (member k d ms) = option_or (name_text name ms) (if bytes_eq k name then text_of d else None)

abbrev pub map_text : List ℕ → Data → Option (List ℕ)
map_text name (scalar text plain) = None
map_text name (list ds) = None
map_text name (map ms) = name_text name ms

-- the same in one of several catalogs
abbrev pub each_text : List ℕ → List ℕ → Members → Option (List ℕ)
each_text catalog name no_members = None
each_text catalog name (member c d ms) = option_or (each_text catalog name ms) (if bytes_eq c catalog then map_text name d else None)

abbrev pub maps_text : List ℕ → List ℕ → Data → Option (List ℕ)
maps_text catalog name (scalar text plain) = None
maps_text catalog name (list ds) = None
maps_text catalog name (map ms) = each_text catalog name ms

-- `catalog` has the texts of the catalog `default`, and `catalogs` those of each that it names
abbrev pub key_text : Key → List ℕ → List ℕ → Data → Option (List ℕ)
key_text key.Catalog catalog name d = if bytes_eq (codes "default") catalog then map_text name d else None
key_text key.Catalogs catalog name d = maps_text catalog name d
key_text _ catalog name d = None

abbrev pub entry_text : List ℕ → List ℕ → Members → Option (List ℕ)
entry_text catalog name no_members = None
entry_text catalog name (member k d ms) = option_or (entry_text catalog name ms) (key_text (key_of k) catalog name d)

-- A catalog has under a name the specifier that the file's text there says, and none where the file has no such text.
abbrev pub HasTexts : Members → List CatalogEntry → Type 0
HasTexts ms entries = (catalog name : List ℕ)
    → MatchOption (entry_text catalog name ms) (spec_at catalog name entries ≡ None) (λ text. (x : Spec) × IsSpec text x × (spec_at catalog name entries ≡ Some x))
