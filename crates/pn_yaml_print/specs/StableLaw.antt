-- Printing is stable.
use Rattle.std.specs.Prelude.{◌≡◌, Ok}
use Rattle.pn_yaml.specs.Data.{Data}
use Rattle.pn_yaml.specs.Blocks.{says}
use Rattle.pn_yaml_print.specs.Printing.{printed, marked}
use Rattle.pn_yaml_print.specs.Laws.{IsPrintable}

-- data as it is read back is printed as the same bytes
pub record StableLaw : Type 0 where
  pub same : (d : Data) → printed (marked d) ≡ printed d
  pub again : (d e : Data) → IsPrintable d → says (printed d) ≡ Ok e → printed e ≡ printed d
