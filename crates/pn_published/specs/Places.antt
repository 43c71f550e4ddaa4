-- Places in a list of versions.
use Rattle.std.specs.Prelude.{ℕ, suc, Bool, List, [], ◌∷◌, Option, Some, None, length, option_map, if◌then◌else◌}
use Rattle.semver.specs.Parse.{Parts}

abbrev pub or_else : Option ℕ → Option ℕ → Option ℕ
or_else (Some a) o = Some a
or_else None o = o

-- the place of the last version that passes a test
abbrev pub last_place : (Parts → Bool) → List Parts → Option ℕ
last_place test [] = None
last_place test (v ∷ vs) = or_else (option_map suc (last_place test vs)) (if test v then Some 0 else None)

-- the place of the greatest version
abbrev pub last_of : List Parts → Option ℕ
last_of [] = None
last_of (v ∷ vs) = Some (length vs)
