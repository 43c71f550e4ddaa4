-- A text has one reading as a specifier, and none where it is refused.
use Rattle.std.specs.Prelude.{◌≡◌, ℕ, true, List}
use Rattle.pn_spec.specs.declared.spec.Spec.{Spec}
use Rattle.pn_spec.specs.Entries.{IsNoEntry, is_entry}
use Rattle.pn_spec.specs.Forms.{IsSpec}
use Rattle.pn_spec.specs.Refusals.{FitsNoForm}
use Rattle.pn_spec.specs.SpecTexts.{trimmed}

-- a text is at most one specifier; where no form fits it is none, and where it is refused as an entry of a catalog it is
-- none that an entry has
pub record ReadingLaw : Type 0 where
  pub one : (text : List ℕ) (x y : Spec) → IsSpec text x → IsSpec text y → x ≡ y
  pub none : (text : List ℕ) (x : Spec) → FitsNoForm (trimmed text) → IsSpec text x → ⊥
  pub entry : (text : List ℕ) (x : Spec) → IsNoEntry text → IsSpec text x → is_entry x ≡ true → ⊥
