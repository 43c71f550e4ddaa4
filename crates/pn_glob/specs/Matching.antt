-- What patterns without braces match, and what a list of them matches.
use Rattle.std.specs.Prelude.{ℕ, ◌==◌, ◌&&◌, ◌||◌, not, Bool, true, false, List, [], ◌∷◌}
use Rattle.std.specs.List.{list_any}
use Rattle.std.specs.Str.{bytes_eq}
use Rattle.pn_glob.specs.declared.kind.Kind.{Kind}
use Rattle.pn_glob.specs.declared.kind.Kind.TheVariants.{Paths, Names}
use Rattle.pn_glob.specs.Bytes.{is_hidden, is_star, parts}
use Rattle.pn_glob.specs.Gaps.{Rules, matches}

-- Each byte stands for itself; within the parts of paths `?` stands for any byte.
abbrev pub stands_for : Kind → ℕ → ℕ → Bool
stands_for Names c b = c == b
stands_for Paths c b = (c == 63) || (c == b)

-- `*` stands for any bytes.
abbrev pub byte_rules : Kind → Rules ℕ ℕ
byte_rules kind = record { is_gap = is_star; may_skip = λ b. true; fits = stands_for kind }

-- Wildcards match no part that begins with `.`, unless the pattern's part begins so itself.
abbrev pub part_fits : List ℕ → List ℕ → Bool
part_fits x y = (is_hidden x || not (is_hidden y)) && matches (byte_rules Paths) x y

-- `**` as a whole part stands for any number of parts of which none begins with `.`.
abbrev pub part_rules : Rules (List ℕ) (List ℕ)
part_rules = record { is_gap = λ x. bytes_eq x (42 ∷ 42 ∷ []); may_skip = λ y. not (is_hidden y); fits = part_fits }

-- whether a pattern without braces matches a text
abbrev pub fits : Kind → List ℕ → List ℕ → Bool
fits Names pattern text = matches (byte_rules Names) pattern text
fits Paths pattern text = matches part_rules (parts pattern) (parts text)

-- the patterns of a list, without braces
pub record Patterns : Type 0 where
  pub kind : Kind
  pub positive : List (List ℕ)
  pub negative : List (List ℕ)

abbrev pub is_nil : List (List ℕ) → Bool
is_nil [] = true
is_nil (p ∷ ps) = false

-- there is no pattern
abbrev pub is_bare : Patterns → Bool
is_bare l = is_nil l.positive && is_nil l.negative

-- some positive pattern matches, and no negative one does
abbrev pub list_matches : Patterns → List ℕ → Bool
list_matches l text = list_any (λ p. fits l.kind p text) l.positive && not (list_any (λ p. fits l.kind p text) l.negative)
