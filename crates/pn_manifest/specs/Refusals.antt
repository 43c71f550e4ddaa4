-- Why bytes are refused as a manifest.
use Rattle.std.specs.Prelude.{◌≡◌, ℕ, List, Option, Some}
use Rattle.serde_json.specs.Data.{Data}
use Rattle.pn_manifest.specs.Fields.{Spot, first_wrong}
use Rattle.pn_manifest.specs.Text.{IsObjectText}
use Rattle.pn_manifest.specs.declared.fault.ManifestFault.{ManifestFault}
use Rattle.pn_manifest.specs.declared.fault.ManifestFault.TheVariants.{Wrong, Memory}
use Rattle.pn_manifest.specs.declared.fault.ManifestWhy.{ManifestWhy}
use Rattle.pn_manifest.specs.declared.fault.ManifestWhy.TheVariants.{Missing, NotJson, BadField}

-- this field and key are wrong, or there was no memory
abbrev pub IsWrong : Option Spot → ManifestFault → Type 0
IsWrong spot (Wrong Missing) = ⊥
IsWrong spot (Wrong NotJson) = ⊥
IsWrong spot (Wrong (BadField f k)) = spot ≡ Some (f, k)
IsWrong spot Memory = Unit {0}

-- the bytes are no object's text, or there was no memory
abbrev pub IsNoObject : List ℕ → ManifestFault → Type 0
IsNoObject bytes (Wrong Missing) = ⊥
IsNoObject bytes (Wrong NotJson) = (d : Data) → IsObjectText bytes d → ⊥
IsNoObject bytes (Wrong (BadField f k)) = ⊥
IsNoObject bytes Memory = Unit {0}

-- what is wrong with the bytes of a manifest
abbrev pub WrongBytes : List ℕ → ManifestWhy → Type 0
WrongBytes bytes Missing = ⊥
WrongBytes bytes NotJson = (d : Data) → IsObjectText bytes d → ⊥
WrongBytes bytes (BadField f k) = (d : Data) × IsObjectText bytes d × (first_wrong d ≡ Some (f, k))

abbrev pub ManifestRefused : List ℕ → ManifestFault → Type 0
ManifestRefused bytes (Wrong why) = WrongBytes bytes why
ManifestRefused bytes Memory = Unit {0}
