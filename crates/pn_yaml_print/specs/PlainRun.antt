-- How a text's form is tested in one pass.
use Rattle.std.specs.Prelude.{ℕ, nat_le, ◌==◌, ◌&&◌, ◌||◌, Bool, false, not, List, [], ◌∷◌, codes, if◌then◌else◌}
use Rattle.pn_yaml.specs.Bytes.{space}
use Rattle.pn_yaml_print.specs.PrintedScalars.{is_one_of, is_shown}

-- a byte behind another one that keeps a text from being plain
abbrev pub breaks_plain : Bool → ℕ → ℕ → Bool
breaks_plain flow before b =
    not (is_shown b) || ((before == 58) && (b == space)) || ((before == space) && (b == 35)) || (flow && is_one_of (codes ",[]{}") b)

-- nothing in the bytes behind that byte does, and the last one may end a plain text
abbrev pub stays_plain : Bool → ℕ → List ℕ → Bool
stays_plain flow before [] = not ((before == space) || (before == 58))
stays_plain flow before (b ∷ rest) = if breaks_plain flow before b then false else stays_plain flow b rest

-- the text begins with a digit, a sign or a dot
abbrev pub begins_number : List ℕ → Bool
begins_number [] = false
begins_number (b ∷ rest) = (nat_le 48 b && nat_le b 57) || is_one_of (codes "+-.") b
