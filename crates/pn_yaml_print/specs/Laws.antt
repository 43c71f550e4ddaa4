-- What is printed is read back.
use Rattle.std.specs.Prelude.{◌≡◌, ◌≤◌, ℕ, List, true, Ok}
use Rattle.pn_yaml.specs.Data.{Data, depth, is_map, are_apart}
use Rattle.pn_yaml.specs.Blocks.{text_says}
use Rattle.pn_yaml_print.specs.Printing.{printed, marked}

-- what may be printed: a map in which no map has a key twice, nested at most 64 deep
pub record IsPrintable (d : Data) : Type 0 where
  pub map : is_map d ≡ true
  pub apart : are_apart d ≡ true
  pub flat : depth d ≤ 64

-- the text of data says the same data, each scalar plain where it was printed plain
abbrev pub PrintLaw : Type 0
PrintLaw = (d : Data) → IsPrintable d → text_says (printed d) ≡ Ok (marked d)
