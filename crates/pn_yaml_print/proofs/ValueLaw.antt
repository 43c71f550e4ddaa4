-- Printed values are read back, and then whole maps.
use Rattle.std.proofs.Common.{◌≡◌, ◌<◌, ◌≤◌, ◌+◌, ℕ, zero, suc, Bool, true, false, List, [], ◌∷◌, ◌++◌, length, None, Ok, refl, sym, ap, ◌∙◌, arith, append-nil}
use Rattle.std.specs.Prelude.{◌==◌, ◌&&◌, ◌||◌, nat_lt, if◌then◌else◌, bytes_eq, codes}
use Rattle.std.proofs.lemmas.Bool.{true≢false, and_left, cond-false, cond-true, le-ltb, lt-ltb, or_from, or_left}
use Rattle.pn_text.proofs.Bytes.{other_byte}
use Rattle.pn_yaml.specs.declared.fault.Why.TheVariants as why
use Rattle.pn_yaml.specs.declared.scalar.Place.TheVariants as place
use Rattle.pn_yaml.specs.Bytes.{space, starts, is_empty, unindented, is_bare, is_blank, trimmed}
use Rattle.pn_yaml.specs.Data.{Data, scalar, list, map, Items, no_items, item, Members, no_members, member, depth, are_apart}
use Rattle.pn_yaml_print.specs.Laws.{PrintLaw}
use Rattle.pn_yaml.specs.Outcome.{◌>>=◌}
use Rattle.pn_yaml_print.specs.PrintedScalars.{is_plain, word_text}
use Rattle.pn_yaml_print.specs.Printing.{Level, root as at_root, below, flow_marked, flow_text, is_flow_key, item_text, items_marked, members_marked, printed, spaces}
use Rattle.pn_yaml.specs.Scalars.{Word, plain_front, on_some, word_at}
use Rattle.pn_yaml.specs.Flow.{flow_at, is_flow}
use Rattle.pn_yaml.specs.Rows.{Row, ahead, content, first_ahead, is_passed_over, is_three, row_indentation, rows_of, unopened}
use Rattle.pn_yaml.specs.Blocks.{alone, block_at, block_items, block_members, ending, is_below, is_item, list_in, map_in, nested, root, scalar_block, scalar_on, style_of, text_says, value_on}
use Rattle.pn_yaml.proofs.Outcomes.{bind_ok}
use Rattle.pn_yaml_print.proofs.WordLaw.{Begins, value_law}
use Rattle.pn_yaml_print.proofs.FlowLaw.{flow_law}
use Rattle.pn_yaml_print.proofs.PrintedBytes.{is_opening, word-opens}
use Rattle.pn_yaml_print.proofs.PrintedLines.{items_rows, key-opens, member_line, members_rows, printed-rows, root_rows, value_front, value_rows}
use Rattle.pn_yaml_print.proofs.PrintedRows.{item-row, member-row, number_behind, numbered-rows, rows_on, three-false}
use Rattle.pn_yaml_print.proofs.BlockLaw.{AreLower, ReadsItems, ReadsValues, ahead-members, behind_gap, items-back, items-fit, key-no_item, lower-more, members-back, members-fit, rows-behind}

first-text : (b : ℕ) (rest : List ℕ) → (b == 32) ≡ false → unindented (b ∷ rest) ≡ b ∷ rest
first-text b rest h = cond-false (b == 32) (unindented rest) (b ∷ rest) h

-- a scalar of several lines opens with `|` or `>`
no-style : (b : ℕ) (rest : List ℕ) → (b == 124) ≡ false → (b == 62) ≡ false → style_of (b ∷ rest) ≡ None
no-style b rest h g =
    let text : List ℕ = b ∷ rest in
    cond-false (bytes_eq text (codes "|") || bytes_eq text (codes "|+")) _ _ (or_from _ _ (and_left _ _ h) (and_left _ _ h))
    ∙ cond-false (bytes_eq text (codes "|-")) _ _ (and_left _ _ h)
    ∙ cond-false (bytes_eq text (codes ">") || bytes_eq text (codes ">+")) _ _ (or_from _ _ (and_left _ _ g) (and_left _ _ g))
    ∙ cond-false (bytes_eq text (codes ">-")) _ _ (and_left _ _ g)

first-style : (b : ℕ) (rest : List ℕ) → is_opening b ≡ true → style_of (trimmed (plain_front place.Value (b ∷ rest))) ≡ None
first-style b rest h =
    let s = other_byte is_opening b 32 h refl in
    ap (λ z. style_of (trimmed z)) (cond-false ((b == 32) && starts 35 rest) [] (b ∷ plain_front place.Value rest) (and_left _ _ s))
    ∙ ap style_of (cond-false (is_blank (b ∷ plain_front place.Value rest)) [] (b ∷ trimmed (plain_front place.Value rest)) (ap is_empty (first-text b (plain_front place.Value rest) s)))
    ∙ no-style b (trimmed (plain_front place.Value rest)) (other_byte is_opening b 124 h refl) (other_byte is_opening b 62 h refl)

-- behind a space, what begins as a printed scalar does is read as a scalar
first-scalar : (levels : ℕ) (keyed : Bool) (b : ℕ) (rest : List ℕ) (row : Row) (rows : List Row) → is_opening b ≡ true
    → value_on (suc levels) keyed (space ∷ b ∷ rest) row rows ≡ scalar_on (b ∷ rest) row rows
first-scalar levels keyed b rest row rows h =
    let e = first-text b rest (other_byte is_opening b 32 h refl) in
    let bare : is_bare (space ∷ b ∷ rest) ≡ false = or_from _ _ (ap is_empty e) (ap (starts 35) e ∙ other_byte is_opening b 35 h refl) in
    cond-false (is_bare (space ∷ b ∷ rest)) _ _ bare
    ∙ ap (λ t. if is_flow t then (flow_at (suc levels) row.line t >>= (λ f. ending why.Flow row.line f.0 f.1 rows))
    else on_some (style_of (trimmed (plain_front place.Value t))) (λ s. scalar_block s (row_indentation row) rows) (scalar_on t row rows)) e
    ∙ cond-false (is_flow (b ∷ rest)) _ _ (or_from _ _ (other_byte is_opening b 91 h refl) (other_byte is_opening b 123 h refl))
    ∙ ap (λ o. on_some o (λ s. scalar_block s (row_indentation row) rows) (scalar_on (b ∷ rest) row rows)) (first-style b rest h)

opening-scalar : (levels : ℕ) (keyed : Bool) (text : List ℕ) (row : Row) (rows : List Row) → Begins is_opening text
    → value_on (suc levels) keyed (space ∷ text) row rows ≡ scalar_on text row rows
opening-scalar levels keyed text row rows o =
    ap (λ t. value_on (suc levels) keyed (space ∷ t) row rows) o.whole ∙ first-scalar levels keyed o.first o.later row rows o.good
    ∙ ap (λ t. scalar_on t row rows) (sym o.whole)

word-back : (levels : ℕ) (keyed : Bool) (text : List ℕ) (plain : Bool) (row : Row) (more next : List Row) → ahead more ≡ Ok next
    → value_on (suc levels) keyed (space ∷ word_text false text plain) row more ≡ Ok (scalar text (is_plain false text plain), next)
word-back levels keyed text plain row more next h =
    let word : Word = record { text = text; plain = is_plain false text plain } in
    opening-scalar levels keyed (word_text false text plain) row more (word-opens false text plain)
    ∙ bind_ok (word_at place.Value row.line (word_text false text plain)) (word, []) (λ w. ending why.Quote row.line (scalar w.0.text w.0.plain) w.1 more) (value_law row.line text plain)
    ∙ bind_ok (ahead more) next (λ rows. Ok (scalar text (is_plain false text plain), rows)) h

flow-back : (levels : ℕ) (keyed : Bool) (d : Data) (row : Row) (more next : List Row) → is_bare (space ∷ flow_text d) ≡ false → is_flow (flow_text d) ≡ true
    → unindented (flow_text d) ≡ flow_text d → depth d ≤ suc levels → are_apart d ≡ true → ahead more ≡ Ok next
    → value_on (suc levels) keyed (space ∷ flow_text d) row more ≡ Ok (flow_marked d, next)
flow-back levels keyed d row more next bare flow same flat apart h =
    let law : flow_at (suc levels) row.line (flow_text d) ≡ Ok (flow_marked d, []) =
    ap (λ t. flow_at (suc levels) row.line t) (sym (append-nil (flow_text d))) ∙ flow_law d (suc levels) row.line [] flat apart refl in
    cond-false (is_bare (space ∷ flow_text d)) _ _ bare
    ∙ cond-true (is_flow (unindented (flow_text d))) _ _ (ap is_flow same ∙ flow)
    ∙ bind_ok (flow_at (suc levels) row.line (unindented (flow_text d))) (flow_marked d, []) (λ f. ending why.Flow row.line f.0 f.1 more)
    (ap (λ t. flow_at (suc levels) row.line t) same ∙ law)
    ∙ bind_ok (ahead more) next (λ rows. Ok (flow_marked d, rows)) h

filled : (d : Data) → 0 < depth d
filled (scalar text plain) = omega arith
filled (list ds) = omega arith
filled (map ms) = omega arith

item-back : (levels : ℕ) → ReadsItems levels (value_on levels)
item-back zero d row more next flat apart h = let f = filled d in absurd (omega arith)
item-back (suc levels) (scalar text plain) row more next flat apart h = word-back levels false text plain row more next h
item-back (suc levels) (list ds) row more next flat apart h = flow-back levels false (list ds) row more next refl refl refl flat apart h
item-back (suc levels) (map ms) row more next flat apart h = flow-back levels false (map ms) row more next refl refl refl flat apart h

-- a block below a key
below-back : (levels indent : ℕ) (row first : Row) (rows more : List Row) (d : Data) (next : List Row) → row_indentation row ≡ indent → ahead rows ≡ Ok (first ∷ more)
    → indent < row_indentation first → block_at (value_on levels) first more ≡ Ok (d, next) → value_on (suc levels) true [] row rows ≡ Ok (d, next)
below-back levels indent row first rows more d next same h deep block =
    bind_ok (ahead rows) (first ∷ more) (λ z. nested (value_on levels) (row_indentation row) z) h
    ∙ cond-true (is_below (row_indentation row) first) _ _ (or_left _ _ (lt-ltb (row_indentation row) (row_indentation first) (omega arith)))
    ∙ block

list-back : (levels : ℕ) (d : Data) (ds : Items) (n indent : ℕ) (row : Row) (more next : List Row) → depth (list (item d ds)) ≤ suc levels → are_apart (list (item d ds)) ≡ true
    → row_indentation row ≡ indent → ahead more ≡ Ok next → AreLower (suc indent) next
    → value_on (suc levels) true [] row (rows_on n (items_rows (2 + indent) (item d ds)) more) ≡ Ok (list (items_marked (item d ds)), next)
list-back levels d ds n indent row more next flat apart same h l =
    let first : Row = record { line = n; bytes = spaces (2 + indent) ++ (45 ∷ space ∷ item_text d) } in
    let rows : List Row = rows_on (suc n) (items_rows (2 + indent) ds) more in
    let r = item-row n (2 + indent) d (omega arith) in
    let block : block_at (value_on levels) first rows ≡ Ok (list (items_marked (item d ds)), next) =
    cond-true (is_item (content first)) _ _ (ap is_item r.shows)
    ∙ ap (λ i. list_in (block_items (value_on levels) i (suc (length rows)) (first ∷ rows))) r.indented
    ∙ ap list_in (items-back levels (value_on levels) (item-back levels) (item d ds) n (2 + indent) (suc (length rows)) more next (omega arith) (omega arith) apart
    (let f = items-fit ds (suc n) (2 + indent) more in omega arith) h (lower-more (suc indent) (2 + indent) next (omega arith) l)) in
    below-back levels indent row first (first ∷ rows) rows (list (items_marked (item d ds))) next same (r.comes rows) (let e = r.indented in omega arith) block

-- a block map that begins with this key
map-block : (levels : ℕ) → ReadsValues levels (value_on levels) → (level : Level) (k : List ℕ) (d : Data) (ms : Members) (n indent : ℕ) (more next : List Row)
    → depth (map (member k d ms)) ≤ suc levels → are_apart (map (member k d ms)) ≡ true → ahead more ≡ Ok next → AreLower indent next
    → block_at (value_on levels) (record { line = n; bytes = member_line indent k d })
    (rows_on (suc n) (value_rows (below level k) (is_flow_key k) indent d ++ members_rows level indent ms) more)
    ≡ Ok (map (members_marked (member k d ms)), next)
map-block levels reads level k d ms n indent more next flat apart h l =
    let first : Row = record { line = n; bytes = member_line indent k d } in
    let lines : List (List ℕ) = value_rows (below level k) (is_flow_key k) indent d in
    let rows : List Row = rows_on (suc n) (lines ++ members_rows level indent ms) more in
    let r = member-row n indent k d in
    cond-false (is_item (content first)) _ _ (key-no_item first k (value_front (is_flow_key k) d) r.shows)
    ∙ ap (λ i. map_in (block_members (value_on levels) i (suc (length rows)) [] (first ∷ rows))) r.indented
    ∙ ap map_in (members-back levels (value_on levels) reads (member k d ms) level n indent (suc (length rows)) [] more next (omega arith) apart
    (let f = members-fit ms level (number_behind (suc n) lines) indent more in let g = rows-behind lines (members_rows level indent ms) (suc n) more in omega arith) h l)

map-back : (levels : ℕ) → ReadsValues levels (value_on levels) → (level : Level) (k : List ℕ) (d : Data) (ms : Members) (n indent : ℕ) (row : Row) (more next : List Row)
    → depth (map (member k d ms)) ≤ suc levels → are_apart (map (member k d ms)) ≡ true → row_indentation row ≡ indent → ahead more ≡ Ok next → AreLower (suc indent) next
    → value_on (suc levels) true [] row (rows_on n (members_rows level (2 + indent) (member k d ms)) more) ≡ Ok (map (members_marked (member k d ms)), next)
map-back levels reads level k d ms n indent row more next flat apart same h l =
    let first : Row = record { line = behind_gap level n; bytes = member_line (2 + indent) k d } in
    let rows : List Row = rows_on (suc (behind_gap level n)) (value_rows (below level k) (is_flow_key k) (2 + indent) d ++ members_rows level (2 + indent) ms) more in
    below-back levels indent row first (rows_on n (members_rows level (2 + indent) (member k d ms)) more) rows (map (members_marked (member k d ms))) next same
    (ahead-members (member k d ms) level n (2 + indent) more next h) (let e = (member-row (behind_gap level n) (2 + indent) k d).indented in omega arith)
    (map-block levels reads level k d ms (behind_gap level n) (2 + indent) more next flat apart h (lower-more (suc indent) (2 + indent) next (omega arith) l))

value-back : (levels : ℕ) → ReadsValues levels (value_on levels)
value-back zero d level flow n indent row more next flat apart same h l = let f = filled d in absurd (omega arith)
value-back (suc levels) (scalar text plain) level flow n indent row more next flat apart same h l = word-back levels true text plain row more next h
value-back (suc levels) (list no_items) level flow n indent row more next flat apart same h l = flow-back levels true (list no_items) row more next refl refl refl flat apart h
value-back (suc levels) (list (item d ds)) level flow n indent row more next flat apart same h l = list-back levels d ds n indent row more next flat apart same h l
value-back (suc levels) (map no_members) level true n indent row more next flat apart same h l = flow-back levels true (map no_members) row more next refl refl refl flat apart h
value-back (suc levels) (map no_members) level false n indent row more next flat apart same h l = flow-back levels true (map no_members) row more next refl refl refl flat apart h
value-back (suc levels) (map (member k d ms)) level true n indent row more next flat apart same h l = flow-back levels true (map (member k d ms)) row more next refl refl refl flat apart h
value-back (suc levels) (map (member k d ms)) level false n indent row more next flat apart same h l =
    map-back levels (value-back levels) level k d ms n indent row more next flat apart same h l

root-back : (levels : ℕ) (k : List ℕ) (d : Data) (ms : Members) → depth (map (member k d ms)) ≤ suc levels → are_apart (map (member k d ms)) ≡ true
    → block_at (value_on levels) (record { line = 1; bytes = member_line 0 k d })
    (rows_on 2 (value_rows (below at_root k) (is_flow_key k) 0 d ++ members_rows at_root 0 ms) []) ≡ Ok (map (members_marked (member k d ms)), [])
root-back levels k d ms flat apart = map-block levels (value-back levels) at_root k d ms 1 0 [] [] flat apart refl tt

text-back : (k : List ℕ) (d : Data) (ms : Members) → depth (map (member k d ms)) ≤ 64 → are_apart (map (member k d ms)) ≡ true
    → text_says (printed (map (member k d ms))) ≡ Ok (map (members_marked (member k d ms)))
text-back k d ms flat apart =
    let first : Row = record { line = 1; bytes = member_line 0 k d } in
    let rows : List Row = rows_on 2 (value_rows (below at_root k) (is_flow_key k) 0 d ++ members_rows at_root 0 ms) [] in
    let r = member-row 1 0 k d in
    let o = key-opens k (value_front (is_flow_key k) d) in
    let lines : rows_of (printed (map (member k d ms))) ≡ first ∷ rows = printed-rows k d ms ∙ numbered-rows (root_rows k d ms) 1 in
    let ahead_of : first_ahead (first ∷ rows) ≡ Ok (first ∷ rows) =
    ap (λ z. ahead (unopened z)) (cond-false (is_passed_over first) _ _ r.stays)
    ∙ ap ahead (cond-false (is_three 45 first.bytes) _ _ (ap (is_three 45) o.whole ∙ three-false 45 o.first o.later (other_byte is_opening o.first 45 o.good refl)))
    ∙ r.comes rows in
    let flow : is_flow first.bytes ≡ false = ap is_flow o.whole ∙ or_from _ _ (other_byte is_opening o.first 91 o.good refl) (other_byte is_opening o.first 123 o.good refl) in
    bind_ok (first_ahead (rows_of (printed (map (member k d ms))))) (first ∷ rows) root (ap first_ahead lines ∙ ahead_of)
    ∙ ap alone (cond-false (nat_lt 0 (row_indentation first)) _ _ (le-ltb 0 (row_indentation first) (let e = r.indented in omega arith))
    ∙ cond-false (is_flow first.bytes) _ _ flow
    ∙ root-back 63 k d ms flat apart)

pub print-law : PrintLaw
print-law (scalar text plain) p = absurd (true≢false (sym p.map))
print-law (list ds) p = absurd (true≢false (sym p.map))
print-law (map no_members) p = refl
print-law (map (member k d ms)) p = text-back k d ms p.flat p.apart
