-- A printed text is read back.
use Rattle.std.proofs.Common.{◌≡◌, ℕ, true, List, Ok, ap, ◌∙◌}
use Rattle.std.specs.Str.{is_utf8}
use Rattle.std.proofs.lemmas.Bool.{cond-true}
use Rattle.pn_yaml.specs.Blocks.{says, text_says}
use Rattle.pn_yaml.specs.Data.{Data}
use Rattle.pn_yaml_print.specs.Laws.{IsPrintable}
use Rattle.pn_yaml_print.specs.Printing.{marked, printed}
use Rattle.pn_yaml_print.proofs.ValueLaw.{print-law}

pub read_back : (d : Data) (text : List ℕ) → IsPrintable d → text ≡ printed d → is_utf8 text ≡ true → says text ≡ Ok (marked d)
read_back d text p e u = cond-true (is_utf8 text) (text_says text) _ u ∙ (ap text_says e ∙ print-law d p)
