-- Laws of specifiers in the subject's own words.
use Rattle.std.specs.Prelude.{◌≡◌, ◌↔◌, ℕ, List, ◌++◌}
use Rattle.pn_ranges.specs.Grammar.{AreSpaces}
use Rattle.pn_spec.specs.declared.spec.Spec.{Spec}
use Rattle.pn_spec.specs.declared.spec.Spec.TheVariants as spec
use Rattle.pn_spec.specs.declared.want.Want.{Want}
use Rattle.pn_spec.specs.declared.workspace.WsSpec.{WsSpec}
use Rattle.pn_spec.specs.Forms.{IsAlias, IsForm, IsSpec, IsWorkspace}

pub data Form : Type 0 where
  workspace : Form
  catalog : Form
  alias : Form
  bare : Form

-- the form that a specifier is written in; ranges and tags have no prefix
abbrev pub form_of : Spec → Form
form_of (spec.Workspace w) = workspace
form_of (spec.Catalog c) = catalog
form_of (spec.Alias n w) = alias
form_of (spec.Range r) = bare
form_of (spec.Tag x) = bare

-- No text is of two forms.
abbrev pub FormLaw : Type 0
FormLaw = (t : List ℕ) (x y : Spec) → IsForm t x → IsForm t y → form_of x ≡ form_of y

-- A text names one project, or none.
abbrev pub ProjectLaw : Type 0
ProjectLaw = (t : List ℕ) (w v : WsSpec) → IsWorkspace t w → IsWorkspace t v → w.name ≡ v.name

-- A text names one package.
abbrev pub NameLaw : Type 0
NameLaw = (t n m : List ℕ) (w v : Want) → IsAlias t n w → IsAlias t m v → n ≡ m

-- Spaces at both ends count for nothing.
abbrev pub SpaceLaw : Type 0
SpaceLaw = (s t r : List ℕ) (x : Spec) → AreSpaces s → AreSpaces r → IsSpec (s ++ (t ++ r)) x ↔ IsSpec t x
