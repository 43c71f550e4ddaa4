-- Printed blocks are read back by a reader that reads back the values in them.
use Rattle.std.proofs.Common.{◌≡◌, ◌<◌, ◌≤◌, ℕ, zero, suc, Bool, true, false, List, [], ◌∷◌, ◌++◌, length, Ok, refl, ap, ◌∙◌, arith}
use Rattle.std.specs.Prelude.{◌==◌, ◌&&◌, not, nat_lt, if◌then◌else◌}
use Rattle.std.proofs.lemmas.Bool.{and_from, and_left, and_parts, cond-false, cond-true, eq-eqb, le-ltb, lt-ltb, ne_eqb, not-true}
use Rattle.pn_text.proofs.Bytes.{other_byte}
use Rattle.pn_yaml.specs.declared.fault.Why.TheVariants as why
use Rattle.pn_yaml.specs.Bytes.{space, ends_word, tail_of}
use Rattle.pn_yaml.specs.Data.{Data, scalar, list, map, Items, no_items, item, Members, no_members, member, depth, items_depth, members_depth, are_apart, items_apart, members_apart, is_among}
use Rattle.pn_yaml.specs.Outcome.{◌>>=◌, wrong}
use Rattle.pn_yaml_print.specs.Printing.{Level, root, spread, dense, below, is_flow_key, item_marked, items_marked, item_text, key_text, members_marked, spaces, value_marked}
use Rattle.pn_yaml.specs.Rows.{Row, ahead, content, row_indentation}
use Rattle.pn_yaml.specs.Blocks.{Reader, block_items, block_member, block_members, is_item, key_at, with_item, with_member}
use Rattle.pn_yaml.proofs.Outcomes.{bind_ok}
use Rattle.pn_yaml_print.proofs.WordLaw.{key_law}
use Rattle.pn_yaml_print.proofs.PrintedBytes.{is_opening}
use Rattle.pn_yaml_print.proofs.PrintedLines.{gap_rows, items_rows, key-opens, member_line, members_rows, value_front, value_rows}
use Rattle.pn_yaml_print.proofs.PrintedRows.{IsRow, item-row, member-row, number_behind, rows-append, rows_on}

-- the next line that says something, if there is one, has a smaller indentation
abbrev pub AreLower : ℕ → List Row → Type 0
AreLower bound [] = Unit {0}
AreLower bound (row ∷ rows) = row_indentation row < bound

pub lower-more : (bound other : ℕ) (rows : List Row) → bound ≤ other → AreLower bound rows → AreLower other rows
lower-more bound other [] h l = tt
lower-more bound other (row ∷ rows) h l = omega arith

-- a reader that reads back the value of a key
abbrev pub ReadsValues : ℕ → Reader → Type 0
ReadsValues levels value = (d : Data) (level : Level) (flow : Bool) (n indent : ℕ) (row : Row) (more next : List Row) → depth d ≤ levels → are_apart d ≡ true
    → row_indentation row ≡ indent → ahead more ≡ Ok next → AreLower (suc indent) next
    → value true (value_front flow d) row (rows_on n (value_rows level flow indent d) more) ≡ Ok (value_marked flow d, next)

-- a reader that reads back an item
abbrev pub ReadsItems : ℕ → Reader → Type 0
ReadsItems levels value = (d : Data) (row : Row) (more next : List Row) → depth d ≤ levels → are_apart d ≡ true → ahead more ≡ Ok next
    → value false (space ∷ item_text d) row more ≡ Ok (item_marked d, next)

-- the lines of items, from the first one on
abbrev pub items_start : ℕ → ℕ → Items → List Row → List Row → List Row
items_start n indent no_items more next = next
items_start n indent (item d ds) more next = record { line = n; bytes = spaces indent ++ (45 ∷ space ∷ item_text d) } ∷ rows_on (suc n) (items_rows indent ds) more

abbrev pub items_count : Items → ℕ
items_count no_items = 0
items_count (item d ds) = suc (items_count ds)

pub ahead-items : (ds : Items) (n indent : ℕ) (more next : List Row) → 0 < indent → ahead more ≡ Ok next
    → ahead (rows_on n (items_rows indent ds) more) ≡ Ok (items_start n indent ds more next)
ahead-items no_items n indent more next z h = h
ahead-items (item d ds) n indent more next z h = (item-row n indent d z).comes (rows_on (suc n) (items_rows indent ds) more)

pub items-fit : (ds : Items) (n indent : ℕ) (more : List Row) → items_count ds ≤ length (rows_on n (items_rows indent ds) more)
items-fit no_items n indent more = omega arith
items-fit (item d ds) n indent more = let h = items-fit ds (suc n) indent more in omega arith

items-end : (value : Reader) (indent steps : ℕ) (next : List Row) → AreLower indent next → block_items value indent steps next ≡ Ok (no_items, next)
items-end value indent zero next l = refl
items-end value indent (suc steps) [] l = refl
items-end value indent (suc steps) (row ∷ rows) l =
    cond-false ((row_indentation row == indent) && is_item (content row)) _ _ (and_left _ _ (ne_eqb (row_indentation row) indent (λ e. omega arith)))

item-is : (row : Row) (indent : ℕ) (d : Data) → IsRow indent (45 ∷ space ∷ item_text d) row → ((row_indentation row == indent) && is_item (content row)) ≡ true
item-is row indent d r = and_from _ _ (eq-eqb _ _ r.indented) (ap is_item r.shows)

pub items-back : (levels : ℕ) (value : Reader) → ReadsItems levels value → (ds : Items) (n indent steps : ℕ) (more next : List Row) → 0 < indent
    → items_depth ds ≤ levels → items_apart ds ≡ true → items_count ds ≤ steps → ahead more ≡ Ok next → AreLower indent next
    → block_items value indent steps (items_start n indent ds more next) ≡ Ok (items_marked ds, next)
items-back levels value reads no_items n indent steps more next z flat apart few h l = items-end value indent steps next l
items-back levels value reads (item d ds) n indent zero more next z flat apart few h l = absurd (omega arith)
items-back levels value reads (item d ds) n indent (suc steps) more next z flat apart few h l =
    let row : Row = record { line = n; bytes = spaces indent ++ (45 ∷ space ∷ item_text d) } in
    let r = item-row n indent d z in
    let rows : List Row = rows_on (suc n) (items_rows indent ds) more in
    let start : List Row = items_start (suc n) indent ds more next in
    let p = and_parts (are_apart d) (items_apart ds) apart in
    let here : value false (tail_of (content row)) row rows ≡ Ok (item_marked d, start) =
    ap (λ t. value false (tail_of t) row rows) r.shows ∙ reads d row rows start (omega arith) p.0 (ahead-items ds (suc n) indent more next z h) in
    cond-true ((row_indentation row == indent) && is_item (content row)) _ _ (item-is row indent d r)
    ∙ bind_ok (value false (tail_of (content row)) row rows) (item_marked d, start) (λ v. with_item v.0 (block_items value indent steps v.1)) here
    ∙ ap (with_item (item_marked d)) (items-back levels value reads ds (suc n) indent steps more next z (omega arith) p.1 (omega arith) h l)

-- the lines of members, from the first one's key on
abbrev pub members_start : Level → ℕ → ℕ → Members → List Row → List Row → List Row
members_start level n indent no_members more next = next
members_start level n indent (member k d ms) more next = record { line = n; bytes = member_line indent k d }
    ∷ rows_on (suc n) (value_rows (below level k) (is_flow_key k) indent d ++ members_rows level indent ms) more

abbrev pub members_count : Members → ℕ
members_count no_members = 0
members_count (member k d ms) = suc (members_count ms)

-- the number of the line behind the gap
abbrev pub behind_gap : Level → ℕ → ℕ
behind_gap root n = suc n
behind_gap spread n = suc n
behind_gap dense n = n

pub ahead-members : (ms : Members) (level : Level) (n indent : ℕ) (more next : List Row) → ahead more ≡ Ok next
    → ahead (rows_on n (members_rows level indent ms) more) ≡ Ok (members_start level (behind_gap level n) indent ms more next)
ahead-members no_members level n indent more next h = h
ahead-members (member k d ms) root n indent more next h =
    (member-row (suc n) indent k d).comes (rows_on (suc (suc n)) (value_rows (below root k) (is_flow_key k) indent d ++ members_rows root indent ms) more)
ahead-members (member k d ms) spread n indent more next h =
    (member-row (suc n) indent k d).comes (rows_on (suc (suc n)) (value_rows (below spread k) (is_flow_key k) indent d ++ members_rows spread indent ms) more)
ahead-members (member k d ms) dense n indent more next h =
    (member-row n indent k d).comes (rows_on (suc n) (value_rows (below dense k) (is_flow_key k) indent d ++ members_rows dense indent ms) more)

rows-longer : (xs : List (List ℕ)) (n : ℕ) (more : List Row) → length more ≤ length (rows_on n xs more)
rows-longer [] n more = omega arith
rows-longer (x ∷ xs) n more = let h = rows-longer xs (suc n) more in omega arith

pub rows-behind : (xs ys : List (List ℕ)) (n : ℕ) (more : List Row) → length (rows_on (number_behind n xs) ys more) ≤ length (rows_on n (xs ++ ys) more)
rows-behind xs ys n more =
    let h = rows-longer xs n (rows_on (number_behind n xs) ys more) in
    let e = ap (λ (z : List Row). length z) (rows-append xs ys n more) in
    omega arith

pub members-fit : (ms : Members) (level : Level) (n indent : ℕ) (more : List Row) → members_count ms ≤ length (rows_on n (members_rows level indent ms) more)
members-fit no_members level n indent more = omega arith
members-fit (member k d ms) level n indent more =
    let lines : List (List ℕ) = value_rows (below level k) (is_flow_key k) indent d in
    let first : ℕ = number_behind n (gap_rows level) in
    let g = rows-behind (gap_rows level) (member_line indent k d ∷ (lines ++ members_rows level indent ms)) n more in
    let h = rows-behind lines (members_rows level indent ms) (suc first) more in
    let i = members-fit ms level (number_behind (suc first) lines) indent more in
    omega arith

front-ends : (flow : Bool) (d : Data) → ends_word (value_front flow d) ≡ true
front-ends flow (scalar text plain) = refl
front-ends flow (list no_items) = refl
front-ends flow (list (item d ds)) = refl
front-ends flow (map no_members) = refl
front-ends true (map (member k d ms)) = refl
front-ends false (map (member k d ms)) = refl

pub key-no_item : (row : Row) (k front : List ℕ) → content row ≡ key_text false k ++ front → is_item (content row) ≡ false
key-no_item row k front e =
    let o = key-opens k front in
    ap is_item (e ∙ o.whole) ∙ and_left _ _ (other_byte is_opening o.first 45 o.good refl)

members-end : (value : Reader) (indent steps : ℕ) (seen : List (List ℕ)) (next : List Row) → AreLower indent next
    → block_members value indent steps seen next ≡ Ok (no_members, next)
members-end value indent zero seen next l = refl
members-end value indent (suc steps) seen [] l = refl
members-end value indent (suc steps) seen (row ∷ rows) l = cond-true (nat_lt (row_indentation row) indent) _ _ (lt-ltb _ _ l)

start-lower : (ms : Members) (level : Level) (n indent : ℕ) (more next : List Row) → AreLower indent next → AreLower (suc indent) (members_start level n indent ms more next)
start-lower no_members level n indent more next l = lower-more indent (suc indent) next (omega arith) l
start-lower (member k d ms) level n indent more next l = let e = (member-row n indent k d).indented in omega arith

-- a member on its line
member-back : (levels : ℕ) (value : Reader) → ReadsValues levels value → (level : Level) (k : List ℕ) (d : Data) (n indent : ℕ) (seen : List (List ℕ)) (more next : List Row)
    → depth d ≤ levels → are_apart d ≡ true → is_among k seen ≡ false → ahead more ≡ Ok next → AreLower (suc indent) next
    → block_member value seen (record { line = n; bytes = member_line indent k d }) (rows_on (suc n) (value_rows level (is_flow_key k) indent d) more)
    ≡ Ok ((k, value_marked (is_flow_key k) d), next)
member-back levels value reads level k d n indent seen more next flat apart new h l =
    let row : Row = record { line = n; bytes = member_line indent k d } in
    let r = member-row n indent k d in
    let front : List ℕ = value_front (is_flow_key k) d in
    let rows : List Row = rows_on (suc n) (value_rows level (is_flow_key k) indent d) more in
    let key : key_at n (content row) ≡ Ok (k, front) = ap (key_at n) r.shows ∙ key_law n k front (front-ends (is_flow_key k) d) in
    cond-false (is_item (content row)) _ _ (key-no_item row k front r.shows)
    ∙ bind_ok (key_at n (content row)) (k, front) (λ x. if is_among x.0 seen then wrong n why.Twice else value true x.1 row rows >>= λ v. Ok ((x.0, v.0), v.1)) key
    ∙ cond-false (is_among k seen) _ _ new
    ∙ bind_ok (value true front row rows) (value_marked (is_flow_key k) d, next) (λ v. Ok ((k, v.0), v.1)) (reads d level (is_flow_key k) (suc n) indent row more next flat apart r.indented h l)

pub members-back : (levels : ℕ) (value : Reader) → ReadsValues levels value → (ms : Members) (level : Level) (n indent steps : ℕ) (seen : List (List ℕ)) (more next : List Row)
    → members_depth ms ≤ levels → members_apart seen ms ≡ true → members_count ms ≤ steps → ahead more ≡ Ok next → AreLower indent next
    → block_members value indent steps seen (members_start level n indent ms more next) ≡ Ok (members_marked ms, next)
members-back levels value reads no_members level n indent steps seen more next flat apart few h l = members-end value indent steps seen next l
members-back levels value reads (member k d ms) level n indent zero seen more next flat apart few h l = absurd (omega arith)
members-back levels value reads (member k d ms) level n indent (suc steps) seen more next flat apart few h l =
    let row : Row = record { line = n; bytes = member_line indent k d } in
    let r = member-row n indent k d in
    let lines : List (List ℕ) = value_rows (below level k) (is_flow_key k) indent d in
    let later : List Row = rows_on (number_behind (suc n) lines) (members_rows level indent ms) more in
    let start : List Row = members_start level (behind_gap level (number_behind (suc n) lines)) indent ms more next in
    let p = and_parts (not (is_among k seen)) (are_apart d && members_apart (k ∷ seen) ms) apart in
    let q = and_parts (are_apart d) (members_apart (k ∷ seen) ms) p.1 in
    let here : block_member value seen row (rows_on (suc n) (lines ++ members_rows level indent ms) more) ≡ Ok ((k, value_marked (is_flow_key k) d), start) =
    ap (block_member value seen row) (rows-append lines (members_rows level indent ms) (suc n) more)
    ∙ member-back levels value reads (below level k) k d n indent seen later start (omega arith) q.0 (not-true _ p.0)
    (ahead-members ms level (number_behind (suc n) lines) indent more next h)
    (start-lower ms level (behind_gap level (number_behind (suc n) lines)) indent more next l) in
    cond-false (nat_lt (row_indentation row) indent) _ _ (le-ltb _ _ (let e = r.indented in omega arith))
    ∙ cond-false (nat_lt indent (row_indentation row)) _ _ (le-ltb _ _ (let e = r.indented in omega arith))
    ∙ bind_ok (block_member value seen row (rows_on (suc n) (lines ++ members_rows level indent ms) more)) ((k, value_marked (is_flow_key k) d), start)
    (λ m. with_member m.0.0 m.0.1 (block_members value indent steps (m.0.0 ∷ seen) m.1)) here
    ∙ ap (with_member k (value_marked (is_flow_key k) d))
    (members-back levels value reads ms level (behind_gap level (number_behind (suc n) lines)) indent steps (k ∷ seen) more next (omega arith) q.1 (omega arith) h l)
