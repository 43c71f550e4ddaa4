-- The grammar of specifiers: which text is which specifier.
use Rattle.std.specs.Prelude.{◌≡◌, ◌≢◌, ◌⊎◌, ℕ, true, List, ◌∷◌, ◌++◌, Option, Some, None, codes}
use Rattle.pn_ranges.specs.Grammar.{Spells}
use Rattle.pn_text.specs.Name.{is_name}
use Rattle.pn_spec.specs.declared.spec.Spec.{Spec}
use Rattle.pn_spec.specs.declared.spec.Spec.TheVariants as spec
use Rattle.pn_spec.specs.declared.want.Want.{Want}
use Rattle.pn_spec.specs.declared.want.Want.TheVariants as want
use Rattle.pn_spec.specs.declared.workspace.WsSpec.{WsSpec}
use Rattle.pn_spec.specs.declared.workspace.WsWant.{WsWant}
use Rattle.pn_spec.specs.declared.workspace.WsWant.TheVariants as ws
use Rattle.pn_spec.specs.Ranges.{IsNoRange}
use Rattle.pn_spec.specs.Tags.{is_catalog, is_tag, or_default}
use Rattle.pn_spec.specs.SpecTexts.{trimmed}

-- a tag is no range
pub record IsTag (t x : List ℕ) : Type 0 where
  pub named : x ≡ t
  pub bytes : is_tag t ≡ true
  pub no_range : IsNoRange t

-- a range or a tag
abbrev pub IsWant : List ℕ → Want → Type 0
IsWant t (want.Range r) = Spells t r
IsWant t (want.Tag x) = IsTag t x

-- what is wanted of a project
abbrev pub IsWsWant : List ℕ → WsWant → Type 0
IsWsWant t ws.Any = t ≡ codes "*"
IsWsWant t ws.Caret = t ≡ codes "^"
IsWsWant t ws.Tilde = t ≡ codes "~"
IsWsWant t (ws.Range r) = (t ≢ codes "*") × Spells t r

-- what is wanted, behind a package name and `@` where a name stands
abbrev pub IsNamed : (List ℕ → Type 0) → List ℕ → Option (List ℕ) → Type 0
IsNamed Wanted t None = Wanted t
IsNamed Wanted t (Some n) = (rest : List ℕ) × (t ≡ n ++ 64 ∷ rest) × (is_name n ≡ true) × Wanted rest

-- behind `workspace:`
abbrev pub IsWorkspace : List ℕ → WsSpec → Type 0
IsWorkspace t w = IsNamed (λ rest. IsWsWant rest w.want) t w.name

-- behind `catalog:`
abbrev pub IsCatalog : List ℕ → List ℕ → Type 0
IsCatalog t c = (is_catalog t ≡ true) × (c ≡ or_default t)

-- behind `npm:`: a package name, of which `*` is wanted, or a package name, `@` and what is wanted
abbrev pub IsAlias : List ℕ → List ℕ → Want → Type 0
IsAlias t n w = ((t ≡ n) × (is_name n ≡ true) × IsWant (codes "*") w) ⊎ IsNamed (λ rest. IsWant rest w) t (Some n)

abbrev pub IsForm : List ℕ → Spec → Type 0
IsForm t (spec.Workspace w) = (rest : List ℕ) × (t ≡ codes "workspace:" ++ rest) × IsWorkspace rest w
IsForm t (spec.Catalog c) = (rest : List ℕ) × (t ≡ codes "catalog:" ++ rest) × IsCatalog rest c
IsForm t (spec.Alias n w) = (rest : List ℕ) × (t ≡ codes "npm:" ++ rest) × IsAlias rest n w
IsForm t (spec.Range r) = Spells t r
IsForm t (spec.Tag x) = IsTag t x

-- spaces at both ends count for nothing
abbrev pub IsSpec : List ℕ → Spec → Type 0
IsSpec text s = IsForm (trimmed text) s
