-- `pnpm.overrides`.
use Rattle.std.specs.Prelude.{[], Option, Some, None, codes, is_some, option_and_then, if◌then◌else◌}
use Rattle.serde_json.specs.Data.{Data}
use Rattle.serde_json.specs.Find.{as_object}
use Rattle.pn_manifest.specs.TextMaps.{wrong_texts}
use Rattle.pn_manifest.specs.Values.{Spot, field}

-- `overrides` in the value of `pnpm`
abbrev pub overrides_in : Option Data → Option Data
overrides_in f = option_and_then (field (codes "overrides")) f

-- `pnpm` is nothing or an object, and its `overrides` are nothing or an object of texts
abbrev pub wrong_overrides : Option Data → Option Spot
wrong_overrides None = None
wrong_overrides (Some d) = if is_some (as_object d) then wrong_texts (codes "pnpm.overrides") (field (codes "overrides") d) else Some (codes "pnpm.overrides", [])
