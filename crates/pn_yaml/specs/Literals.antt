-- The parts of reading a scalar of several lines.
use Rattle.std.specs.Prelude.{ℕ, ◌==◌, Bool, true, false, List, [], ◌∷◌, ◌++◌, Result, Ok, Err, if◌then◌else◌}
use Rattle.pn_yaml.specs.declared.fault.Why.TheVariants as why
use Rattle.pn_yaml.specs.declared.fault.YamlFault.{YamlFault}
use Rattle.pn_yaml.specs.declared.fault.YamlFault.TheVariants as fault
use Rattle.pn_yaml.specs.declared.literal.Style.{Style as Marks}
use Rattle.pn_yaml.specs.Bytes.{is_blank, starts}
use Rattle.pn_yaml.specs.Blocks.{Style, joined}
use Rattle.pn_yaml.specs.Rows.{Row, content}

abbrev pub style_is : Marks → Style
style_is s = record { folded = s.folded; ended = s.ended }

-- whether a scalar ends with a line feed, by the byte behind `|` or `>`, and what is behind that
abbrev pub chomp_of : List ℕ → Bool × List ℕ
chomp_of [] = (true, [])
chomp_of (b ∷ rest) = if b == 45 then (false, rest) else if b == 43 then (true, rest) else (true, b ∷ rest)

-- the lines from the next one on that isn't of spaces alone
abbrev pub filled : List Row → List Row
filled [] = []
filled (row ∷ rows) = if is_blank row.bytes then filled rows else row ∷ rows

-- the fault of a line that is less deep than the first one of its scalar
abbrev pub shallow : Row → YamlFault
shallow row = if starts 9 (content row) then fault.Line row.line why.Tab else fault.Line row.line why.Indent

-- each line behind the byte that joins lines
abbrev pub each_behind : ℕ → List (List ℕ) → List ℕ
each_behind between [] = []
each_behind between (line ∷ lines) = between ∷ (line ++ each_behind between lines)

-- a text with the lines that are read behind it
abbrev pub added : ℕ → List ℕ → Result (List (List ℕ) × List Row) YamlFault → Result (List ℕ × List Row) YamlFault
added between text (Ok r) = Ok (text ++ each_behind between r.0, r.1)
added between text (Err e) = Err e

-- the lines that are read, joined
abbrev pub joined_in : ℕ → Result (List (List ℕ) × List Row) YamlFault → Result (List ℕ × List Row) YamlFault
joined_in between (Ok r) = Ok (joined between r.0, r.1)
joined_in between (Err e) = Err e
