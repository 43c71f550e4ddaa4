-- What is read.
use Rattle.std.specs.Prelude.{◌≡◌, ◌≤◌, ℕ, List, true, Ok}
use Rattle.pn_yaml.specs.Data.{Data, depth, are_apart}
use Rattle.pn_yaml.specs.Blocks.{text_says}

-- what is read has no key twice in a map, and is nested at most 64 deep
pub record ReadLaw : Type 0 where
  pub apart : (text : List ℕ) (d : Data) → text_says text ≡ Ok d → are_apart d ≡ true
  pub flat : (text : List ℕ) (d : Data) → text_says text ≡ Ok d → depth d ≤ 64
