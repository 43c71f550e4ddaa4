-- Why a text is refused as a specifier: no form fits.
use Rattle.std.specs.Prelude.{◌≡◌, ◌≢◌, ℕ, true, false, List, ◌∷◌, ◌++◌, codes}
use Rattle.pn_text.specs.Name.{is_name}
use Rattle.pn_spec.specs.declared.fault.SpecFault.{SpecFault}
use Rattle.pn_spec.specs.declared.fault.SpecFault.TheVariants.{Unsupported, Memory}
use Rattle.pn_spec.specs.Ranges.{IsNoRange}
use Rattle.pn_spec.specs.Tags.{is_catalog, is_tag}
use Rattle.pn_spec.specs.SpecTexts.{trimmed}

-- neither a range nor a tag
pub record FitsNoWant (t : List ℕ) : Type 0 where
  pub no_range : IsNoRange t
  pub no_tag : is_tag t ≡ false

-- nothing that is wanted of a project
pub record FitsNoWsWant (t : List ℕ) : Type 0 where
  pub no_any : t ≢ codes "*"
  pub no_caret : t ≢ codes "^"
  pub no_tilde : t ≢ codes "~"
  pub no_range : IsNoRange t

-- neither a want, nor a package name, `@` and a want
pub record FitsNoWorkspace (t : List ℕ) : Type 0 where
  pub bare : FitsNoWsWant t
  pub named : (n rest : List ℕ) → t ≡ n ++ 64 ∷ rest → is_name n ≡ true → FitsNoWsWant rest

-- neither a package name, nor one, `@` and a want
pub record FitsNoAlias (t : List ℕ) : Type 0 where
  pub bare : is_name t ≡ false
  pub named : (n rest : List ℕ) → t ≡ n ++ 64 ∷ rest → is_name n ≡ true → FitsNoWant rest

pub record FitsNoForm (t : List ℕ) : Type 0 where
  pub workspace : (rest : List ℕ) → t ≡ codes "workspace:" ++ rest → FitsNoWorkspace rest
  pub catalog : (rest : List ℕ) → t ≡ codes "catalog:" ++ rest → is_catalog rest ≡ false
  pub alias : (rest : List ℕ) → t ≡ codes "npm:" ++ rest → FitsNoAlias rest
  pub bare : FitsNoWant t

-- a refusal other than that for want of memory has this cause
abbrev pub Refuses : Type 0 → SpecFault → Type 0
Refuses Cause Unsupported = Cause
Refuses Cause Memory = Unit {0}

abbrev pub SpecRefused : List ℕ → SpecFault → Type 0
SpecRefused text e = Refuses (FitsNoForm (trimmed text)) e
