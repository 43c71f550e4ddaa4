-- `bin`: one command under the package's own name, or an object of commands.
use Rattle.std.specs.Prelude.{ℕ, List, [], ◌∷◌, Option, Some, None, codes, is_some, if◌then◌else◌}
use Rattle.serde_json.specs.Data.{Data}
use Rattle.pn_text.specs.Path.{Path, tail_of}
use Rattle.pn_manifest.specs.Pairs.{Pair}
use Rattle.pn_manifest.specs.TextMaps.{map_field, wrong_texts}
use Rattle.pn_manifest.specs.Values.{Spot, text_field}

abbrev pub wrong_bin : Option Data → Option Spot
wrong_bin f = if is_some (text_field f) then None else wrong_texts (codes "bin") f

abbrev pub head_part : Path → List ℕ
head_part [] = []
head_part (x ∷ p) = x

-- what is behind the last slash of a text
abbrev pub last_part : List ℕ → List ℕ
last_part text = head_part (tail_of text)

-- the command whose path is the text of `bin`; none in a package without a name
abbrev pub own_bin : Option (List ℕ) → List ℕ → List Pair
own_bin None path = []
own_bin (Some name) path = (last_part name, path) ∷ []

abbrev pub bins_or : Option (List ℕ) → Option (List ℕ) → List Pair → List Pair
bins_or name None pairs = pairs
bins_or name (Some path) pairs = own_bin name path

-- the commands of a package of this name
abbrev pub bin_field : Option (List ℕ) → Option Data → List Pair
bin_field name f = bins_or name (text_field f) (map_field f)
