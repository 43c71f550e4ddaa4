-- What a text says has no key twice in a map, and is nested at most 64 deep.
use Rattle.std.proofs.Common.{◌≡◌, ℕ, zero, suc, Bool, true, false, List, [], ◌∷◌, length, Option, Some, None, Result, Ok, Err, IfOk, refl, arith}
use Rattle.std.specs.Prelude.{◌&&◌, ◌==◌, nat_lt}
use Rattle.pn_yaml.specs.declared.fault.Why.{Why}
use Rattle.pn_yaml.specs.declared.fault.Why.TheVariants as why
use Rattle.pn_yaml.specs.declared.fault.YamlFault.{YamlFault}
use Rattle.pn_yaml.specs.declared.scalar.Place.TheVariants as place
use Rattle.pn_yaml.specs.Bytes.{tail_of, unindented, trimmed, is_bare}
use Rattle.pn_yaml.specs.Data.{Data, scalar, Items, Members, is_among}
use Rattle.pn_yaml.specs.Laws.{ReadLaw}
use Rattle.pn_yaml.specs.Outcome.{◌>>=◌}
use Rattle.pn_yaml.specs.Rows.{Row, rows_of, row_indentation, content, ahead, first_ahead}
use Rattle.pn_yaml.specs.Scalars.{word_at, plain_front, on_some}
use Rattle.pn_yaml.specs.Flow.{flow_at, is_flow}
use Rattle.pn_yaml.specs.Blocks.{Reader, Style, is_item, key_at, with_item, with_member, block_items, block_member, block_members, list_in, map_in, block_at, style_of, scalar_block, scalar_lines, width_of, styled, ending, is_below, nested, unwritten, scalar_on, value_on, alone, root_at, root, text_says}
use Rattle.pn_yaml.proofs.Outcomes.{ok_bind, ok_if, ok_at, any-ok}
use Rattle.pn_yaml.proofs.FlowApart.{IsGood, GoodItems, GoodMembers, GoodMember, good-scalar, good-list, good-map, good-no_items, good-no_members, good-item, good-member, flow-good}

-- a reader that gives only data with no key twice in a map, nested no deeper than the levels
abbrev pub GivesGood : ℕ → Reader → Type 0
GivesGood levels value = (keyed : Bool) (text : List ℕ) (row : Row) (rows : List Row) → IfOk (value keyed text row rows) (λ r. IsGood levels r.0)

item-good : (levels : ℕ) (d : Data) (r : Result (Items × List Row) YamlFault) → IsGood levels d → IfOk r (λ r. GoodItems levels r.0)
    → IfOk (with_item d r) (λ r. GoodItems levels r.0)
item-good levels d (Ok r) g h = good-item levels d r.0 g h
item-good levels d (Err e) g h = tt

member-good : (levels : ℕ) (seen : List (List ℕ)) (k : List ℕ) (d : Data) (r : Result (Members × List Row) YamlFault) → is_among k seen ≡ false → IsGood levels d
    → IfOk r (λ r. GoodMembers levels (k ∷ seen) r.0) → IfOk (with_member k d r) (λ r. GoodMembers levels seen r.0)
member-good levels seen k d (Ok r) e g h = good-member levels seen k d r.0 e g h
member-good levels seen k d (Err f) e g h = tt

block-items-good : (levels : ℕ) (value : Reader) → GivesGood levels value → (indent steps : ℕ) (rows : List Row)
    → IfOk (block_items value indent steps rows) (λ r. GoodItems levels r.0)
block-items-good levels value h indent zero rows = good-no_items levels
block-items-good levels value h indent (suc steps) [] = good-no_items levels
block-items-good levels value h indent (suc steps) (row ∷ rows) =
    ok_if (λ r. GoodItems levels r.0) ((row_indentation row == indent) && is_item (content row)) _ _
    (ok_bind (λ v. IsGood levels v.0) (λ r. GoodItems levels r.0) (value false (tail_of (content row)) row rows) _ (h false (tail_of (content row)) row rows) (λ v g.
    item-good levels v.0 _ g (block-items-good levels value h indent steps v.1)))
    (λ _. good-no_items levels)

block-member-good : (levels : ℕ) (value : Reader) → GivesGood levels value → (seen : List (List ℕ)) (row : Row) (rows : List Row)
    → IfOk (block_member value seen row rows) (λ r. GoodMember levels seen r.0)
block-member-good levels value h seen row rows =
    ok_if (λ r. GoodMember levels seen r.0) (is_item (content row)) _ _ tt (λ _.
    ok_bind (λ k. Unit {0}) (λ r. GoodMember levels seen r.0) (key_at row.line (content row)) _ (any-ok (key_at row.line (content row))) (λ k _.
    ok_if (λ r. GoodMember levels seen r.0) (is_among k.0 seen) _ _ tt (λ e.
    ok_bind (λ v. IsGood levels v.0) (λ r. GoodMember levels seen r.0) (value true k.1 row rows) _ (h true k.1 row rows) (λ v g.
    record { new = e; good = g }))))

block-members-good : (levels : ℕ) (value : Reader) → GivesGood levels value → (indent steps : ℕ) (seen : List (List ℕ)) (rows : List Row)
    → IfOk (block_members value indent steps seen rows) (λ r. GoodMembers levels seen r.0)
block-members-good levels value h indent zero seen rows = good-no_members levels seen
block-members-good levels value h indent (suc steps) seen [] = good-no_members levels seen
block-members-good levels value h indent (suc steps) seen (row ∷ rows) =
    ok_if (λ r. GoodMembers levels seen r.0) (nat_lt (row_indentation row) indent) _ _ (good-no_members levels seen) (λ _.
    ok_if (λ r. GoodMembers levels seen r.0) (nat_lt indent (row_indentation row)) _ _ tt (λ _.
    ok_bind (λ m. GoodMember levels seen m.0) (λ r. GoodMembers levels seen r.0) (block_member value seen row rows) _ (block-member-good levels value h seen row rows) (λ m g.
    member-good levels seen m.0.0 m.0.1 _ g.new g.good (block-members-good levels value h indent steps (m.0.0 ∷ seen) m.1))))

list-good : (levels : ℕ) (r : Result (Items × List Row) YamlFault) → IfOk r (λ r. GoodItems levels r.0) → IfOk (list_in r) (λ r. IsGood (suc levels) r.0)
list-good levels (Ok r) h = good-list levels r.0 h
list-good levels (Err e) h = tt

map-good : (levels : ℕ) (r : Result (Members × List Row) YamlFault) → IfOk r (λ r. GoodMembers levels [] r.0) → IfOk (map_in r) (λ r. IsGood (suc levels) r.0)
map-good levels (Ok r) h = good-map levels r.0 h
map-good levels (Err e) h = tt

block-good : (levels : ℕ) (value : Reader) → GivesGood levels value → (row : Row) (rows : List Row) → IfOk (block_at value row rows) (λ r. IsGood (suc levels) r.0)
block-good levels value h row rows =
    ok_if (λ r. IsGood (suc levels) r.0) (is_item (content row)) _ _
    (list-good levels _ (block-items-good levels value h (row_indentation row) (suc (length rows)) (row ∷ rows)))
    (λ _. map-good levels _ (block-members-good levels value h (row_indentation row) (suc (length rows)) [] (row ∷ rows)))

nested-good : (levels : ℕ) (value : Reader) → GivesGood levels value → (indent : ℕ) (rows : List Row) → IfOk (nested value indent rows) (λ r. IsGood (suc levels) r.0)
nested-good levels value h indent [] = good-scalar levels [] true
nested-good levels value h indent (row ∷ rows) =
    ok_if (λ r. IsGood (suc levels) r.0) (is_below indent row) _ _ (block-good levels value h row rows) (λ _. good-scalar levels [] true)

unwritten-good : (levels : ℕ) (value : Reader) → GivesGood levels value → (keyed : Bool) (indent : ℕ) (rows : List Row)
    → IfOk (unwritten value keyed indent rows) (λ r. IsGood (suc levels) r.0)
unwritten-good levels value h keyed indent rows =
    ok_bind (λ next. Unit {0}) (λ r. IsGood (suc levels) r.0) (ahead rows) _ (any-ok (ahead rows)) (λ next _.
    ok_if (λ r. IsGood (suc levels) r.0) keyed _ _ (nested-good levels value h indent next) (λ _. good-scalar levels [] true))

ending-good : (levels : ℕ) (otherwise : Why) (line : ℕ) (d : Data) (rest : List ℕ) (rows : List Row) → IsGood levels d
    → IfOk (ending otherwise line d rest rows) (λ r. IsGood levels r.0)
ending-good levels otherwise line d rest rows g =
    ok_if (λ r. IsGood levels r.0) (is_bare rest) _ _ (ok_bind (λ next. Unit {0}) (λ r. IsGood levels r.0) (ahead rows) _ (any-ok (ahead rows)) (λ next _. g)) (λ _. tt)

flow-on-good : (levels : ℕ) (text : List ℕ) (row : Row) (rows : List Row)
    → IfOk (flow_at levels row.line text >>= λ f. ending why.Flow row.line f.0 f.1 rows) (λ r. IsGood levels r.0)
flow-on-good levels text row rows = ok_bind (λ f. IsGood levels f.0) (λ r. IsGood levels r.0) (flow_at levels row.line text) _ (flow-good levels row.line text) (λ f g.
    ending-good levels why.Flow row.line f.0 f.1 rows g)

scalar-good : (levels : ℕ) (text : List ℕ) (row : Row) (rows : List Row) → IfOk (scalar_on text row rows) (λ r. IsGood (suc levels) r.0)
scalar-good levels text row rows =
    ok_bind (λ w. Unit {0}) (λ r. IsGood (suc levels) r.0) (word_at place.Value row.line text) _ (any-ok (word_at place.Value row.line text)) (λ w _.
    ending-good (suc levels) why.Quote row.line (scalar w.0.text w.0.plain) w.1 rows (good-scalar levels w.0.text w.0.plain))

scalar-block-good : (levels : ℕ) (s : Style) (indent : ℕ) (rows : List Row) → IfOk (scalar_block s indent rows) (λ r. IsGood (suc levels) r.0)
scalar-block-good levels s indent rows =
    ok_bind (λ r. Unit {0}) (λ r. IsGood (suc levels) r.0) (scalar_lines indent (width_of rows) rows) _ (any-ok (scalar_lines indent (width_of rows) rows)) (λ r _.
    ok_bind (λ next. Unit {0}) (λ r. IsGood (suc levels) r.0) (ahead r.1) _ (any-ok (ahead r.1)) (λ next _. good-scalar levels (styled s r.0) false))

styled-good : (levels : ℕ) (o : Option Style) (indent : ℕ) (text : List ℕ) (row : Row) (rows : List Row)
    → IfOk (on_some o (λ s. scalar_block s indent rows) (scalar_on text row rows)) (λ r. IsGood (suc levels) r.0)
styled-good levels None indent text row rows = scalar-good levels text row rows
styled-good levels (Some s) indent text row rows = scalar-block-good levels s indent rows

value-good : (levels : ℕ) → GivesGood levels (value_on levels)
value-good zero keyed text row rows = tt
value-good (suc levels) keyed text row rows =
    ok_if (λ r. IsGood (suc levels) r.0) (is_bare text) _ _ (unwritten-good levels (value_on levels) (value-good levels) keyed (row_indentation row) rows) (λ _.
    ok_if (λ r. IsGood (suc levels) r.0) (is_flow (unindented text)) _ _ (flow-on-good (suc levels) (unindented text) row rows) (λ _.
    styled-good levels (style_of (trimmed (plain_front place.Value (unindented text)))) (row_indentation row) (unindented text) row rows))

alone-good : (levels : ℕ) (r : Result (Data × List Row) YamlFault) → IfOk r (λ r. IsGood levels r.0) → IfOk (alone r) (IsGood levels)
alone-good levels (Err e) h = tt
alone-good levels (Ok (d, [])) h = h
alone-good levels (Ok (d, row ∷ rows)) h = tt

root-at-good : (row : Row) (rows : List Row) → IfOk (root_at row rows) (λ r. IsGood 64 r.0)
root-at-good row rows =
    ok_if (λ r. IsGood 64 r.0) (nat_lt 0 (row_indentation row)) _ _ tt (λ _.
    ok_if (λ r. IsGood 64 r.0) (is_flow row.bytes) _ _ (flow-on-good 64 row.bytes row rows) (λ _.
    block-good 63 (value_on 63) (value-good 63) row rows))

root-good : (rows : List Row) → IfOk (root rows) (IsGood 64)
root-good [] = record { apart = refl; flat = omega arith }
root-good (row ∷ rows) = alone-good 64 (root_at row rows) (root-at-good row rows)

text-good : (text : List ℕ) → IfOk (text_says text) (IsGood 64)
text-good text = ok_bind (λ rows. Unit {0}) (IsGood 64) (first_ahead (rows_of text)) root (any-ok (first_ahead (rows_of text))) (λ rows _. root-good rows)

pub read-law : ReadLaw
read-law = record {
  apart = λ text d h. let g = ok_at (IsGood 64) (text_says text) d (text-good text) h in g.apart;
  flat = λ text d h. let g = ok_at (IsGood 64) (text_says text) d (text-good text) h in g.flat;
}
