-- The parts of reading a block.
use Rattle.std.specs.Prelude.{ℕ, suc, length, ◌==◌, ◌&&◌, Bool, List, [], ◌∷◌, Result, Ok, if◌then◌else◌}
use Rattle.pn_yaml.specs.declared.fault.Why.{Why}
use Rattle.pn_yaml.specs.declared.fault.Why.TheVariants as why
use Rattle.pn_yaml.specs.declared.fault.YamlFault.{YamlFault}
use Rattle.pn_yaml.specs.Blocks.{block_items, block_members, ending, is_item, key_at, value_on}
use Rattle.pn_yaml.specs.Bytes.{is_bare}
use Rattle.pn_yaml.specs.Data.{Data, Items, Members, is_among}
use Rattle.pn_yaml.specs.Flow.{flow_at}
use Rattle.pn_yaml.specs.Outcome.{◌>>=◌, wrong}
use Rattle.pn_yaml.specs.Rows.{Row, content, ahead, row_indentation}

-- the lines ahead behind a value that ends on its line
abbrev pub line_end : Why → ℕ → List ℕ → List Row → Result (List Row) YamlFault
line_end otherwise line rest rows = if is_bare rest then ahead rows else wrong line otherwise

-- a flow on its line, where so many levels are left
abbrev pub flow_on : ℕ → List ℕ → Row → List Row → Result (Data × List Row) YamlFault
flow_on levels text row rows = flow_at levels row.line text >>= λ f. ending why.Flow row.line f.0 f.1 rows

-- the key of a member, and what is behind its colon, where these keys stand before it
abbrev pub block_key : List (List ℕ) → Row → Result (List ℕ × List ℕ) YamlFault
block_key seen row = if is_item (content row) then wrong row.line why.Key
    else key_at row.line (content row) >>= λ k. if is_among k.0 seen then wrong row.line why.Twice else Ok k

-- an item of a list of this indentation
abbrev pub is_item_at : ℕ → Row → Bool
is_item_at indent row = (row_indentation row == indent) && is_item (content row)

-- the items of the list that begins with this line, where so many levels are left
unfoldable pub items_from : ℕ → Row → List Row → Result (Items × List Row) YamlFault
items_from levels row rows = block_items (value_on levels) (row_indentation row) (suc (length rows)) (row ∷ rows)

-- the members of the map that begins with this line
unfoldable pub members_from : ℕ → Row → List Row → Result (Members × List Row) YamlFault
members_from levels row rows = block_members (value_on levels) (row_indentation row) (suc (length rows)) [] (row ∷ rows)
