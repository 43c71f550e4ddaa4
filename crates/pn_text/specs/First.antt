-- The first item of a list that fails.
use Rattle.std.specs.Prelude.{◌≡◌, List, ◌∷◌, ◌++◌}
use Rattle.std.specs.List.{AllByRecursion}

-- One item fails in this way, and all items before it pass.
pub record FirstFails {A F : Type 0} (Passes : A → Type 0) (Fails : A → F → Type 0) (items : List A) (fault : F) : Type 0 where
  pub before : List A
  pub at : A
  pub after : List A
  pub cut : items ≡ before ++ at ∷ after
  pub passed : AllByRecursion Passes before
  pub failed : Fails at fault
