-- What a specifier asks for under an alias.
use Rattle.std.specs.Prelude.{ℕ, suc, Bool, true, false, List, [], ◌∷◌, Option, Some, None, if◌then◌else◌, slice_get}
use Rattle.std.specs.Str.{bytes_eq}
use Rattle.semver.specs.Parse.{Parts}
use Rattle.pn_ranges.specs.Limits.{satisfies}
use Rattle.pn_spec.specs.declared.entry.CatalogEntry.{CatalogEntry}
use Rattle.pn_spec.specs.declared.spec.Spec.{Spec}
use Rattle.pn_spec.specs.declared.spec.Spec.TheVariants as spec
use Rattle.pn_spec.specs.declared.want.Want.{Want}
use Rattle.pn_spec.specs.declared.want.Want.TheVariants as want
use Rattle.pn_spec.specs.declared.workspace.WsWant.{WsWant}
use Rattle.pn_spec.specs.declared.workspace.WsWant.TheVariants as ws
use Rattle.pn_spec.specs.Entries.{spec_at}
use Rattle.pn_plain.specs.Given.{Named}

-- a version of the package with a name, a project with a name, an entry that a catalog lacks, or what isn't built
pub data Reading : Type 0 where
  of_package : List ℕ → Want → Reading
  of_project : List ℕ → WsWant → Reading
  no_entry : Reading
  not_built : Reading

abbrev pub or_alias : Option (List ℕ) → List ℕ → List ℕ
or_alias None alias = alias
or_alias (Some name) alias = name

-- An entry of a catalog is an alias, a range or a tag.
abbrev pub entry_reading : List ℕ → Option Spec → Reading
entry_reading alias None = no_entry
entry_reading alias (Some (spec.Range r)) = of_package alias (want.Range r)
entry_reading alias (Some (spec.Tag x)) = of_package alias (want.Tag x)
entry_reading alias (Some (spec.Alias n w)) = of_package n w
entry_reading alias (Some (spec.Workspace w)) = no_entry
entry_reading alias (Some (spec.Catalog c)) = no_entry

-- Ranges, tags and projects without a name are those of the alias. A catalog has its entry under the alias.
abbrev pub reading : List CatalogEntry → List ℕ → Spec → Reading
reading catalogs alias (spec.Range r) = of_package alias (want.Range r)
reading catalogs alias (spec.Tag x) = of_package alias (want.Tag x)
reading catalogs alias (spec.Alias n w) = of_package n w
reading catalogs alias (spec.Workspace w) = of_project (or_alias w.name alias) w.want
reading catalogs alias (spec.Catalog c) = entry_reading alias (spec_at c alias catalogs)

-- the same where projects and catalogs aren't built
abbrev pub built : Bool → Reading → Reading
built true r = r
built false (of_package n w) = of_package n w
built false (of_project n w) = not_built
built false no_entry = not_built
built false not_built = not_built

abbrev pub bears : List ℕ → Option (List ℕ) → Bool
bears name None = false
bears name (Some own) = bytes_eq own name

abbrev pub is_named : List ℕ → Named → Bool
is_named name p = bears name p.name

-- the places of the projects with a name, from this place on
abbrev pub bearing : List ℕ → ℕ → List Named → List ℕ
bearing name k [] = []
bearing name k (p ∷ ps) = if is_named name p then k ∷ bearing name (suc k) ps else bearing name (suc k) ps

-- whether a project's version is one that is wanted; `*`, `^` and `~` take any version, or none
abbrev pub suits : WsWant → Option Parts → Bool
suits ws.Any v = true
suits ws.Caret v = true
suits ws.Tilde v = true
suits (ws.Range r) None = false
suits (ws.Range r) (Some v) = satisfies v r

abbrev pub suits_at : WsWant → Option Named → Bool
suits_at w None = false
suits_at w (Some p) = suits w p.version

-- the one project that bears a name, where its version is wanted; none; or the first two that bear it
pub data Bearer : Type 0 where
  one : ℕ → Bearer
  nobody : Bearer
  two : ℕ → ℕ → Bearer

abbrev pub bearer : List Named → WsWant → List ℕ → Bearer
bearer projects w [] = nobody
bearer projects w (k ∷ []) = if suits_at w (slice_get projects k) then one k else nobody
bearer projects w (k ∷ j ∷ ks) = two k j
