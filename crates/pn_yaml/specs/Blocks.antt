-- Blocks: maps and lists of lines with one indentation, and scalars of several lines.
use Rattle.std.specs.Prelude.{ℕ, zero, suc, ◌==◌, ◌&&◌, ◌||◌, nat_lt, nat_le, Bool, true, false, List, [], ◌∷◌, ◌++◌, length, drop, Option, Some, None, Result, Ok, Err, if◌then◌else◌, bytes_eq, codes}
use Rattle.std.specs.Str.{is_utf8}
use Rattle.pn_yaml.specs.declared.fault.Why.{Why}
use Rattle.pn_yaml.specs.declared.fault.Why.TheVariants as why
use Rattle.pn_yaml.specs.declared.fault.YamlFault.{YamlFault}
use Rattle.pn_yaml.specs.declared.fault.YamlFault.TheVariants as fault
use Rattle.pn_yaml.specs.declared.scalar.Place.TheVariants as place
use Rattle.pn_yaml.specs.Bytes.{space, starts, tail_of, unindented, is_blank, trimmed, ends_word, is_bare}
use Rattle.pn_yaml.specs.Data.{Data, scalar, map, Items, no_items, Members, no_members, is_among}
use Rattle.pn_yaml.specs.Outcome.{◌>>=◌, wrong}
use Rattle.pn_yaml.specs.Rows.{Row, rows_of, row_indentation, content, ahead, first_ahead}
use Rattle.pn_yaml.specs.Scalars.{word_at, plain_front, is_colon, on_some}
use Rattle.pn_yaml.specs.Flow.{flow_at, is_flow}
pub use Rattle.pn_yaml.specs.Flow.{with_item, with_member, list_in, map_in}

-- a `-` and what is behind it
abbrev pub is_item : List ℕ → Bool
is_item text = starts 45 text && ends_word (tail_of text)

-- a value that begins on a line, behind `key:` or `-`: whether a key stands before it, the text there, its line, and
-- the lines below. It gives the lines from the next one on that says something.
abbrev pub Reader : Type 0
Reader = Bool → List ℕ → Row → List Row → Result (Data × List Row) YamlFault

-- the key at the front of a text, and what is behind its colon
abbrev pub key_at : ℕ → List ℕ → Result (List ℕ × List ℕ) YamlFault
key_at line text = word_at place.Key line text >>= λ k. if is_colon k.1 then Ok (k.0.text, tail_of k.1) else wrong line why.Key

-- the items of a block list of this indentation, in at most so many steps
abbrev pub block_items : Reader → ℕ → ℕ → List Row → Result (Items × List Row) YamlFault
block_items value indent zero rows = Ok (no_items, rows)
block_items value indent (suc steps) [] = Ok (no_items, [])
block_items value indent (suc steps) (row ∷ rows) =
    if (row_indentation row == indent) && is_item (content row)
    then value false (tail_of (content row)) row rows >>= (λ v. with_item v.0 (block_items value indent steps v.1))
    else Ok (no_items, row ∷ rows)

-- a member of a block map on its line, where these keys stand before it
abbrev pub block_member : Reader → List (List ℕ) → Row → List Row → Result ((List ℕ × Data) × List Row) YamlFault
block_member value seen row rows =
    if is_item (content row) then wrong row.line why.Key
    else key_at row.line (content row) >>= λ k.
    if is_among k.0 seen then wrong row.line why.Twice
    else value true k.1 row rows >>= λ v. Ok ((k.0, v.0), v.1)

-- the members of a block map of this indentation, in at most so many steps
abbrev pub block_members : Reader → ℕ → ℕ → List (List ℕ) → List Row → Result (Members × List Row) YamlFault
block_members value indent zero seen rows = Ok (no_members, rows)
block_members value indent (suc steps) seen [] = Ok (no_members, [])
block_members value indent (suc steps) seen (row ∷ rows) =
    if nat_lt (row_indentation row) indent then Ok (no_members, row ∷ rows)
    else if nat_lt indent (row_indentation row) then wrong row.line why.Indent
    else block_member value seen row rows >>= λ m.
    with_member m.0.0 m.0.1 (block_members value indent steps (m.0.0 ∷ seen) m.1)

-- the block that begins with this line
abbrev pub block_at : Reader → Row → List Row → Result (Data × List Row) YamlFault
block_at value row rows =
    if is_item (content row) then list_in (block_items value (row_indentation row) (suc (length rows)) (row ∷ rows))
    else map_in (block_members value (row_indentation row) (suc (length rows)) [] (row ∷ rows))

-- a scalar of several lines: whether they are joined by spaces, and whether it ends with a line feed
pub record Style : Type 0 where
  pub folded : Bool
  pub ended : Bool

-- what opens one
abbrev pub style_of : List ℕ → Option Style
style_of text = if bytes_eq text (codes "|") || bytes_eq text (codes "|+") then Some (record { folded = false; ended = true })
    else if bytes_eq text (codes "|-") then Some (record { folded = false; ended = false })
    else if bytes_eq text (codes ">") || bytes_eq text (codes ">+") then Some (record { folded = true; ended = true })
    else if bytes_eq text (codes ">-") then Some (record { folded = true; ended = false })
    else None

-- the indentation of the first line that isn't of spaces alone
abbrev pub width_of : List Row → ℕ
width_of [] = 0
width_of (row ∷ rows) = if is_blank row.bytes then width_of rows else row_indentation row

abbrev pub with_line : List ℕ → Result (List (List ℕ) × List Row) YamlFault → Result (List (List ℕ) × List Row) YamlFault
with_line line (Ok r) = Ok (line ∷ r.0, r.1)
with_line line (Err e) = Err e

-- the lines of a scalar behind a line of the indentation `indent`, without the first `width` spaces of each
abbrev pub scalar_lines : ℕ → ℕ → List Row → Result (List (List ℕ) × List Row) YamlFault
scalar_lines indent width [] = Ok ([], [])
scalar_lines indent width (row ∷ rows) =
    if is_blank row.bytes then scalar_lines indent width rows
    else if nat_le (row_indentation row) indent then Ok ([], row ∷ rows)
    else if nat_le width (row_indentation row) then with_line (drop width row.bytes) (scalar_lines indent width rows)
    else if starts 9 (content row) then wrong row.line why.Tab else wrong row.line why.Indent

abbrev pub joined : ℕ → List (List ℕ) → List ℕ
joined between [] = []
joined between (line ∷ []) = line
joined between (line ∷ next ∷ lines) = line ++ between ∷ joined between (next ∷ lines)

abbrev pub styled : Style → List (List ℕ) → List ℕ
styled s lines = joined (if s.folded then space else 10) lines ++ (if s.ended then 10 ∷ [] else [])

abbrev pub scalar_block : Style → ℕ → List Row → Result (Data × List Row) YamlFault
scalar_block s indent rows = scalar_lines indent (width_of rows) rows >>= λ r.
    ahead r.1 >>= λ next. Ok (scalar (styled s r.0) false, next)

-- a value that ends on its line, where nothing but a comment may be behind it
abbrev pub ending : Why → ℕ → Data → List ℕ → List Row → Result (Data × List Row) YamlFault
ending otherwise line d rest rows = if is_bare rest then ahead rows >>= (λ next. Ok (d, next)) else wrong line otherwise

-- whether the block that begins with a line belongs to a key of this indentation
abbrev pub is_below : ℕ → Row → Bool
is_below indent row = nat_lt indent (row_indentation row) || ((row_indentation row == indent) && is_item (content row))

-- the value of a key with nothing behind it
abbrev pub nested : Reader → ℕ → List Row → Result (Data × List Row) YamlFault
nested value indent [] = Ok (scalar [] true, [])
nested value indent (row ∷ rows) = if is_below indent row then block_at value row rows else Ok (scalar [] true, row ∷ rows)

-- an empty value: that of a key may be the block below
abbrev pub unwritten : Reader → Bool → ℕ → List Row → Result (Data × List Row) YamlFault
unwritten value keyed indent rows = ahead rows >>= λ next. if keyed then nested value indent next else Ok (scalar [] true, next)

-- a scalar on its line
abbrev pub scalar_on : List ℕ → Row → List Row → Result (Data × List Row) YamlFault
scalar_on text row rows = word_at place.Value row.line text >>= λ w. ending why.Quote row.line (scalar w.0.text w.0.plain) w.1 rows

-- a value that begins on a line, where so many levels are left
abbrev pub value_on : ℕ → Reader
value_on zero keyed text row rows = Err fault.TooDeep
value_on (suc levels) keyed text row rows =
    if is_bare text then unwritten (value_on levels) keyed (row_indentation row) rows
    else if is_flow (unindented text)
    then flow_at (suc levels) row.line (unindented text) >>= (λ f. ending why.Flow row.line f.0 f.1 rows)
    else on_some (style_of (trimmed (plain_front place.Value (unindented text)))) (λ s. scalar_block s (row_indentation row) rows)
    (scalar_on (unindented text) row rows)

-- nothing stands behind the root
abbrev pub alone : Result (Data × List Row) YamlFault → Result Data YamlFault
alone (Err e) = Err e
alone (Ok (d, [])) = Ok d
alone (Ok (d, row ∷ rows)) = wrong row.line why.Indent

-- the root begins with this line; it is nested at most 64 deep
abbrev pub root_at : Row → List Row → Result (Data × List Row) YamlFault
root_at row rows = if nat_lt 0 (row_indentation row) then wrong row.line why.Indent
    else if is_flow row.bytes then flow_at 64 row.line row.bytes >>= (λ f. ending why.Flow row.line f.0 f.1 rows)
    else block_at (value_on 63) row rows

abbrev pub root : List Row → Result Data YamlFault
root [] = Ok (map no_members)
root (row ∷ rows) = alone (root_at row rows)

-- what the bytes of a text say
abbrev pub text_says : List ℕ → Result Data YamlFault
text_says text = first_ahead (rows_of text) >>= root

-- what bytes say, or the first fault
abbrev pub says : List ℕ → Result Data YamlFault
says bytes = if is_utf8 bytes then text_says bytes else Err fault.NotUtf8
