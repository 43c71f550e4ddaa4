-- Where the members of a block map stand, as the code says it, and lists there.
use Rattle.std.specs.Prelude.{ℕ, false, List}
use Rattle.pn_yaml.specs.Data.{list, Items}
use Rattle.pn_yaml_print.specs.Printing as printing
use Rattle.pn_yaml_print.specs.declared.level.Level.{Level}
use Rattle.pn_yaml_print.specs.declared.level.Level.TheVariants.{Root, Spread, Dense}

abbrev pub level_of : Level → printing.Level
level_of Root = printing.root
level_of Spread = printing.spread
level_of Dense = printing.dense

-- what stands behind a key's colon, of a list: it's the same everywhere
abbrev pub list_lines : ℕ → Items → List ℕ
list_lines indent ds = printing.value_lines printing.dense false indent (list ds)
