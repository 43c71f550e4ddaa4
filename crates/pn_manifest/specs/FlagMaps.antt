-- `peerDependenciesMeta` and `dependenciesMeta`: under package names objects with a flag.
use Rattle.std.specs.Prelude.{ℕ, ◌&&◌, List, [], ◌∷◌, Bool, false, Option, Some, None, is_some, unwrap_or, if◌then◌else◌}
use Rattle.serde_json.specs.Data.{Data, Members, no_members, member}
use Rattle.serde_json.specs.Find.{get, as_bool, as_object}
use Rattle.pn_text.specs.Name.{is_name}
use Rattle.pn_manifest.specs.Values.{Spot, members_in, wrong_object}

-- an absent flag is false
abbrev pub flag_in : Option Data → Option Bool
flag_in None = Some false
flag_in (Some d) = as_bool d

-- an object's flag
abbrev pub flag_of : List ℕ → Data → Option Bool
flag_of flag d = if is_some (as_object d) then flag_in (get flag d) else None

-- a package name, and an object with a flag that is true or false, or absent
abbrev pub is_flagged : List ℕ → List ℕ → Data → Bool
is_flagged flag k d = is_name k && is_some (flag_of flag d)

-- whether an object's flag is true
abbrev pub has_flag : List ℕ → Data → Bool
has_flag flag d = unwrap_or (flag_of flag d) false

abbrev pub wrong_flags : List ℕ → List ℕ → Option Data → Option Spot
wrong_flags key flag f = wrong_object key (is_flagged flag) f

-- the names whose flag is true
abbrev pub flagged : List ℕ → Members → List (List ℕ)
flagged flag no_members = []
flagged flag (member k d ms) = if has_flag flag d then k ∷ flagged flag ms else flagged flag ms

abbrev pub flag_field : List ℕ → Option Data → List (List ℕ)
flag_field flag f = flagged flag (members_in f)
