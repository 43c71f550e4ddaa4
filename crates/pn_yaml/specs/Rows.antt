-- The lines of a text.
use Rattle.std.specs.Prelude.{ℕ, suc, ◌==◌, ◌&&◌, ◌||◌, Bool, false, List, [], ◌∷◌, Result, Ok, if◌then◌else◌}
use Rattle.pn_yaml.specs.declared.fault.Why.TheVariants as why
use Rattle.pn_yaml.specs.declared.fault.YamlFault.{YamlFault}
use Rattle.pn_yaml.specs.Bytes.{starts, is_empty, indentation, unindented, is_bare}
use Rattle.pn_yaml.specs.Outcome.{wrong}

-- a line without its end, and its number, counted from 1
pub record Row : Type 0 where
  pub line : ℕ
  pub bytes : List ℕ

-- a text without the byte order mark that it begins with
abbrev pub unmarked : List ℕ → List ℕ
unmarked (a ∷ b ∷ c ∷ rest) = if (a == 239) && (b == 187) && (c == 191) then rest else a ∷ b ∷ c ∷ rest
unmarked text = text

-- a text without the carriage returns before line feeds
abbrev pub unreturned : List ℕ → List ℕ
unreturned [] = []
unreturned (b ∷ rest) = if (b == 13) && starts 10 rest then unreturned rest else b ∷ unreturned rest

-- a byte before the first line
abbrev pub onto_line : ℕ → List (List ℕ) → List (List ℕ)
onto_line b [] = (b ∷ []) ∷ []
onto_line b (line ∷ lines) = (b ∷ line) ∷ lines

-- what stands before each line feed and behind the last one, if something does
abbrev pub lines_of : List ℕ → List (List ℕ)
lines_of [] = []
lines_of (b ∷ rest) = if b == 10 then [] ∷ lines_of rest else onto_line b (lines_of rest)

abbrev pub numbered : ℕ → List (List ℕ) → List Row
numbered n [] = []
numbered n (line ∷ lines) = record { line = n; bytes = line } ∷ numbered (suc n) lines

-- the lines of a text
abbrev pub rows_of : List ℕ → List Row
rows_of text = numbered 1 (lines_of (unreturned (unmarked text)))

abbrev pub row_indentation : Row → ℕ
row_indentation row = indentation row.bytes

-- a line without its indentation
abbrev pub content : Row → List ℕ
content row = unindented row.bytes

-- a line of spaces alone, or a comment
abbrev pub is_passed_over : Row → Bool
is_passed_over row = is_empty (content row) || starts 35 (content row)

-- a line with these three bytes and nothing but a comment behind them
abbrev pub is_three : ℕ → List ℕ → Bool
is_three c (a ∷ b ∷ d ∷ rest) = (a == c) && (b == c) && (d == c) && is_bare rest
is_three c text = false

-- `---` or `...`
abbrev pub is_marker : Row → Bool
is_marker row = is_three 45 row.bytes || is_three 46 row.bytes

abbrev pub passed : List Row → List Row
passed [] = []
passed (row ∷ rows) = if is_passed_over row then passed rows else row ∷ rows

abbrev pub met : List Row → Result (List Row) YamlFault
met [] = Ok []
met (row ∷ rows) = if starts 9 (content row) then wrong row.line why.Tab else if is_marker row then wrong row.line why.LeftOut
    else Ok (row ∷ rows)

-- the lines from the next one on that says something
abbrev pub ahead : List Row → Result (List Row) YamlFault
ahead rows = met (passed rows)

-- the same at the start, where `---` may stand
abbrev pub unopened : List Row → List Row
unopened [] = []
unopened (row ∷ rows) = if is_three 45 row.bytes then rows else row ∷ rows

abbrev pub first_ahead : List Row → Result (List Row) YamlFault
first_ahead rows = ahead (unopened (passed rows))
