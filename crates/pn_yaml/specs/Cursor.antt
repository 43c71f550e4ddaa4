-- The lines that the code has before it.
use Rattle.std.specs.Prelude.{ℕ, ◌==◌, ◌&&◌, List, [], ◌∷◌, Option, Some, None, if◌then◌else◌}
use Rattle.pn_yaml.specs.Bytes.{is_empty}
use Rattle.pn_yaml.specs.declared.line.Line.{Line}
use Rattle.pn_yaml.specs.declared.line.Rows.{Rows}
use Rattle.pn_yaml.specs.declared.line.Front.{Front}
use Rattle.pn_yaml.specs.declared.node.Node.{Node}
use Rattle.pn_yaml.specs.Data.{Data}
use Rattle.pn_yaml.specs.View.{view}
use Rattle.pn_yaml.specs.Rows.{Row, unreturned, lines_of, numbered}

abbrev pub row_of : Line → Row
row_of l = record { line = l.number; bytes = l.text.now }

-- the lines that are left
unfoldable pub rows_left : Rows → List Row
rows_left r = numbered r.number (lines_of (unreturned r.text.now))

-- a line and those below it, where there is one
abbrev pub rows_ahead : Option Front → List Row
rows_ahead None = []
rows_ahead (Some f) = row_of f.line ∷ rows_left f.below

-- a line without the carriage return at its end
abbrev pub without_return : List ℕ → List ℕ
without_return [] = []
without_return (b ∷ rest) = if (b == 13) && is_empty rest then [] else b ∷ without_return rest

-- a node that is read, and the lines ahead behind it
abbrev pub node_ahead : Node × Option Front → Data × List Row
node_ahead r = (view r.0, rows_ahead r.1)
