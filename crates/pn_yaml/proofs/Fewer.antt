-- What is read leaves no more lines than there were.
use Rattle.std.proofs.Common.{◌≡◌, ℕ, zero, suc, ◌≤◌, ◌&&◌, Bool, true, false, cond, eqb, leb, ltb, List, [], ◌∷◌, length, drop, Option, Some, None, Result, Ok, Err, subst, arith}
use Rattle.pn_yaml.specs.declared.fault.YamlFault.{YamlFault}
use Rattle.pn_yaml.specs.declared.fault.Why.{Why}
use Rattle.pn_yaml.specs.declared.fault.Why.TheVariants as why
use Rattle.pn_yaml.specs.declared.scalar.Place.TheVariants as place
use Rattle.pn_yaml.specs.Blocks.{Reader, Style, with_item, with_member, with_line, block_items, block_member, block_members, list_in, map_in, block_at, width_of, scalar_lines, styled, scalar_block, ending, is_below, nested, unwritten, scalar_on, value_on, is_item, key_at, style_of}
use Rattle.pn_yaml.specs.Bytes.{is_bare, is_blank, starts, tail_of, unindented, trimmed}
use Rattle.pn_yaml.specs.Data.{Data, scalar, Items, Members, is_among}
use Rattle.pn_yaml.specs.Flow.{flow_at, is_flow}
use Rattle.pn_yaml.specs.Outcome.{◌>>=◌, wrong}
use Rattle.pn_yaml.specs.Rows.{Row, row_indentation, content, passed, is_passed_over, met, is_marker, ahead}
use Rattle.pn_yaml.specs.Scalars.{word_at, plain_front, on_some}

-- at most so many lines are left
abbrev pub Leaves : {A : Type 0} → ℕ → Result (A × List Row) YamlFault → Type 0
Leaves n (Ok r) = length r.1 ≤ n
Leaves n (Err e) = Unit {0}

abbrev pub Keeps : ℕ → Result (List Row) YamlFault → Type 0
Keeps n (Ok rows) = length rows ≤ n
Keeps n (Err e) = Unit {0}

pub leaves_ok : {A : Type 0} (n : ℕ) (r : Result (A × List Row) YamlFault) (x : A) (rest : List Row) → Leaves n r → r ≡ Ok (x, rest) → length rest ≤ n
leaves_ok {A} n r x rest h e = subst (λ (s : Result (A × List Row) YamlFault). Leaves n s) e h

leaves_more : {A : Type 0} (m n : ℕ) (r : Result (A × List Row) YamlFault) → m ≤ n → Leaves m r → Leaves n r
leaves_more m n (Ok r) l h = omega arith
leaves_more m n (Err e) l h = tt

leaves_if : {A : Type 0} (n : ℕ) (b : Bool) (x y : Result (A × List Row) YamlFault) → Leaves n x → Leaves n y → Leaves n (cond b x y)
leaves_if n true x y h g = h
leaves_if n false x y h g = g

leaves_then : {A B : Type 0} (m n : ℕ) (r : Result (A × List Row) YamlFault) (f : A × List Row → Result (B × List Row) YamlFault)
    → Leaves m r → ((x : A × List Row) → length x.1 ≤ m → Leaves n (f x)) → Leaves n (r >>= f)
leaves_then m n (Ok r) f h g = g r h
leaves_then m n (Err e) f h g = tt

leaves_behind : {A B : Type 0} (n : ℕ) (r : Result A YamlFault) (f : A → Result (B × List Row) YamlFault) → ((x : A) → Leaves n (f x)) → Leaves n (r >>= f)
leaves_behind n (Ok r) f g = g r
leaves_behind n (Err e) f g = tt

keeps_then : {B : Type 0} (m n : ℕ) (r : Result (List Row) YamlFault) (f : List Row → Result (B × List Row) YamlFault)
    → Keeps m r → ((x : List Row) → length x ≤ m → Leaves n (f x)) → Leaves n (r >>= f)
keeps_then m n (Ok r) f h g = g r h
keeps_then m n (Err e) f h g = tt

passed_le : (rows : List Row) → length (passed rows) ≤ length rows
passed_le [] = omega arith
passed_le (r ∷ rows) =
    elim (is_passed_over r) as (λ b. length (cond b (passed rows) (r ∷ rows)) ≤ suc (length rows))
    [ true ↦ omega (arith, passed_le rows) | false ↦ omega arith ]

met_keeps : (n : ℕ) (rows : List Row) → length rows ≤ n → Keeps n (met rows)
met_keeps n [] h = h
met_keeps n (r ∷ rows) h =
    elim (starts 9 (content r)) as (λ b. Keeps n (cond b (wrong r.line why.Tab) (cond (is_marker r) (wrong r.line why.LeftOut) (Ok (r ∷ rows))))) [
      | true ↦ tt
      | false ↦ elim (is_marker r) as (λ b. Keeps n (cond b (wrong r.line why.LeftOut) (Ok (r ∷ rows)))) [ true ↦ tt | false ↦ h ]
    ]

pub ahead_keeps : (rows : List Row) → Keeps (length rows) (ahead rows)
ahead_keeps rows = met_keeps (length rows) (passed rows) (passed_le rows)

line_leaves : (n : ℕ) (line : List ℕ) (r : Result (List (List ℕ) × List Row) YamlFault) → Leaves n r → Leaves n (with_line line r)
line_leaves n line (Ok r) h = h
line_leaves n line (Err e) h = tt

lines_leave : (i w : ℕ) (rows : List Row) → Leaves (length rows) (scalar_lines i w rows)
lines_leave i w [] = omega arith
lines_leave i w (r ∷ rows) =
    let n = suc (length rows) in
    let rest : Leaves n (scalar_lines i w rows) = leaves_more (length rows) n (scalar_lines i w rows) (omega arith) (lines_leave i w rows) in
    leaves_if n (is_blank r.bytes) (scalar_lines i w rows) (cond (leb (row_indentation r) i) (Ok ([], r ∷ rows)) (cond (leb w (row_indentation r)) (with_line (drop w r.bytes) (scalar_lines i w rows))
    (cond (starts 9 (content r)) (wrong r.line why.Tab) (wrong r.line why.Indent)))) rest
    (leaves_if n (leb (row_indentation r) i) (Ok ([], r ∷ rows)) (cond (leb w (row_indentation r)) (with_line (drop w r.bytes) (scalar_lines i w rows))
    (cond (starts 9 (content r)) (wrong r.line why.Tab) (wrong r.line why.Indent))) (omega arith)
    (leaves_if n (leb w (row_indentation r)) (with_line (drop w r.bytes) (scalar_lines i w rows)) (cond (starts 9 (content r)) (wrong r.line why.Tab) (wrong r.line why.Indent))
    (line_leaves n (drop w r.bytes) (scalar_lines i w rows) rest)
    (leaves_if n (starts 9 (content r)) (wrong r.line why.Tab) (wrong r.line why.Indent) tt tt)))

block_scalar_leaves : (s : Style) (i : ℕ) (rows : List Row) → Leaves (length rows) (scalar_block s i rows)
block_scalar_leaves s i rows =
    leaves_then (length rows) (length rows) (scalar_lines i (width_of rows) rows) (λ r. ahead r.1 >>= λ next. Ok (scalar (styled s r.0) false, next)) (lines_leave i (width_of rows) rows)
    (λ r l. keeps_then (length r.1) (length rows) (ahead r.1) (λ next. Ok (scalar (styled s r.0) false, next)) (ahead_keeps r.1) (λ next m. omega arith))

ending_leaves : (w : Why) (line : ℕ) (d : Data) (rest : List ℕ) (rows : List Row) → Leaves (length rows) (ending w line d rest rows)
ending_leaves w line d rest rows =
    leaves_if (length rows) (is_bare rest) (ahead rows >>= (λ next. Ok (d, next))) (wrong line w)
    (keeps_then (length rows) (length rows) (ahead rows) (λ next. Ok (d, next)) (ahead_keeps rows) (λ next m. m)) tt

scalar_leaves : (text : List ℕ) (row : Row) (rows : List Row) → Leaves (length rows) (scalar_on text row rows)
scalar_leaves text row rows =
    leaves_behind (length rows) (word_at place.Value row.line text) (λ w. ending why.Quote row.line (scalar w.0.text w.0.plain) w.1 rows) (λ w. ending_leaves why.Quote row.line (scalar w.0.text w.0.plain) w.1 rows)

-- a reader leaves no more lines than there are below
abbrev pub Reads : Reader → Type 0
Reads value = (keyed : Bool) (text : List ℕ) (row : Row) (rows : List Row) → Leaves (length rows) (value keyed text row rows)

item_leaves : (n : ℕ) (d : Data) (r : Result (Items × List Row) YamlFault) → Leaves n r → Leaves n (with_item d r)
item_leaves n d (Ok r) h = h
item_leaves n d (Err e) h = tt

member_leaves : (n : ℕ) (k : List ℕ) (d : Data) (r : Result (Members × List Row) YamlFault) → Leaves n r → Leaves n (with_member k d r)
member_leaves n k d (Ok r) h = h
member_leaves n k d (Err e) h = tt

items_leave : (value : Reader) → Reads value → (i steps : ℕ) (rows : List Row) → Leaves (length rows) (block_items value i steps rows)
items_leave value reads i zero rows = omega arith
items_leave value reads i (suc steps) [] = omega arith
items_leave value reads i (suc steps) (r ∷ rows) =
    let n = suc (length rows) in
    leaves_if n (eqb (row_indentation r) i && is_item (content r)) (value false (tail_of (content r)) r rows >>= (λ v. with_item v.0 (block_items value i steps v.1))) (Ok (_, r ∷ rows))
    (leaves_then (length rows) n (value false (tail_of (content r)) r rows) (λ v. with_item v.0 (block_items value i steps v.1)) (reads false (tail_of (content r)) r rows)
    (λ v l. item_leaves n v.0 (block_items value i steps v.1) (leaves_more (length v.1) n (block_items value i steps v.1) (omega arith) (items_leave value reads i steps v.1))))
    (omega arith)

pub member_leave : (value : Reader) → Reads value → (seen : List (List ℕ)) (row : Row) (rows : List Row) → Leaves (length rows) (block_member value seen row rows)
member_leave value reads seen row rows =
    let n = length rows in
    leaves_if n (is_item (content row)) (wrong row.line why.Key) (key_at row.line (content row) >>= λ k. cond (is_among k.0 seen) (wrong row.line why.Twice) (value true k.1 row rows >>= λ v. Ok ((k.0, v.0), v.1))) tt
    (leaves_behind n (key_at row.line (content row)) (λ k. cond (is_among k.0 seen) (wrong row.line why.Twice) (value true k.1 row rows >>= λ v. Ok ((k.0, v.0), v.1)))
    (λ k. leaves_if n (is_among k.0 seen) (wrong row.line why.Twice) (value true k.1 row rows >>= λ v. Ok ((k.0, v.0), v.1)) tt
    (leaves_then n n (value true k.1 row rows) (λ v. Ok ((k.0, v.0), v.1)) (reads true k.1 row rows) (λ v l. l))))

members_leave : (value : Reader) → Reads value → (i steps : ℕ) (seen : List (List ℕ)) (rows : List Row) → Leaves (length rows) (block_members value i steps seen rows)
members_leave value reads i zero seen rows = omega arith
members_leave value reads i (suc steps) seen [] = omega arith
members_leave value reads i (suc steps) seen (r ∷ rows) =
    let n = suc (length rows) in
    leaves_if n (ltb (row_indentation r) i) (Ok (_, r ∷ rows)) (cond (ltb i (row_indentation r)) (wrong r.line why.Indent)
    (block_member value seen r rows >>= λ m. with_member m.0.0 m.0.1 (block_members value i steps (m.0.0 ∷ seen) m.1))) (omega arith)
    (leaves_if n (ltb i (row_indentation r)) (wrong r.line why.Indent) (block_member value seen r rows >>= λ m. with_member m.0.0 m.0.1 (block_members value i steps (m.0.0 ∷ seen) m.1)) tt
    (leaves_then (length rows) n (block_member value seen r rows) (λ m. with_member m.0.0 m.0.1 (block_members value i steps (m.0.0 ∷ seen) m.1)) (member_leave value reads seen r rows)
    (λ m l. member_leaves n m.0.0 m.0.1 (block_members value i steps (m.0.0 ∷ seen) m.1)
    (leaves_more (length m.1) n (block_members value i steps (m.0.0 ∷ seen) m.1) (omega arith) (members_leave value reads i steps (m.0.0 ∷ seen) m.1)))))

list_leaves : (n : ℕ) (r : Result (Items × List Row) YamlFault) → Leaves n r → Leaves n (list_in r)
list_leaves n (Ok r) h = h
list_leaves n (Err e) h = tt

map_leaves : (n : ℕ) (r : Result (Members × List Row) YamlFault) → Leaves n r → Leaves n (map_in r)
map_leaves n (Ok r) h = h
map_leaves n (Err e) h = tt

block_leaves : (value : Reader) → Reads value → (row : Row) (rows : List Row) → Leaves (suc (length rows)) (block_at value row rows)
block_leaves value reads row rows =
    let n = suc (length rows) in
    leaves_if n (is_item (content row)) (list_in (block_items value (row_indentation row) (suc (length rows)) (row ∷ rows))) (map_in (block_members value (row_indentation row) (suc (length rows)) [] (row ∷ rows)))
    (list_leaves n (block_items value (row_indentation row) (suc (length rows)) (row ∷ rows)) (items_leave value reads (row_indentation row) (suc (length rows)) (row ∷ rows)))
    (map_leaves n (block_members value (row_indentation row) (suc (length rows)) [] (row ∷ rows)) (members_leave value reads (row_indentation row) (suc (length rows)) [] (row ∷ rows)))

nested_leaves : (value : Reader) → Reads value → (i : ℕ) (rows : List Row) → Leaves (length rows) (nested value i rows)
nested_leaves value reads i [] = omega arith
nested_leaves value reads i (r ∷ rows) = leaves_if (suc (length rows)) (is_below i r) (block_at value r rows) (Ok (scalar [] true, r ∷ rows)) (block_leaves value reads r rows) (omega arith)

unwritten_leaves : (value : Reader) → Reads value → (keyed : Bool) (i : ℕ) (rows : List Row) → Leaves (length rows) (unwritten value keyed i rows)
unwritten_leaves value reads keyed i rows =
    keeps_then (length rows) (length rows) (ahead rows) (λ next. cond keyed (nested value i next) (Ok (scalar [] true, next))) (ahead_keeps rows)
    (λ next l. leaves_if (length rows) keyed (nested value i next) (Ok (scalar [] true, next)) (leaves_more (length next) (length rows) (nested value i next) l (nested_leaves value reads i next)) l)

some_leaves : (n : ℕ) (o : Option Style) (f : Style → Result (Data × List Row) YamlFault) (x : Result (Data × List Row) YamlFault) → ((s : Style) → Leaves n (f s)) → Leaves n x → Leaves n (on_some o f x)
some_leaves n None f x h g = g
some_leaves n (Some s) f x h g = h s

pub value_leaves : (levels : ℕ) → Reads (value_on levels)
value_leaves zero keyed text row rows = tt
value_leaves (suc levels) keyed text row rows =
    let n = length rows in
    let t = unindented text in
    let block = on_some (style_of (trimmed (plain_front place.Value t))) (λ s. scalar_block s (row_indentation row) rows) (scalar_on t row rows) in
    let flow : Result (Data × List Row) YamlFault = flow_at (suc levels) row.line t >>= (λ f. ending why.Flow row.line f.0 f.1 rows) in
    leaves_if n (is_bare text) (unwritten (value_on levels) keyed (row_indentation row) rows) (cond (is_flow t) flow block)
    (unwritten_leaves (value_on levels) (value_leaves levels) keyed (row_indentation row) rows)
    (leaves_if n (is_flow t) flow block
    (leaves_behind n (flow_at (suc levels) row.line t) (λ f. ending why.Flow row.line f.0 f.1 rows) (λ f. ending_leaves why.Flow row.line f.0 f.1 rows))
    (some_leaves n (style_of (trimmed (plain_front place.Value t))) (λ s. scalar_block s (row_indentation row) rows) (scalar_on t row rows) (λ s. block_scalar_leaves s (row_indentation row) rows) (scalar_leaves t row rows)))
