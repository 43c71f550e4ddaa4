-- The lines of a printed map.
use Rattle.std.proofs.Common.{◌≡◌, ◌+◌, ℕ, zero, suc, Bool, true, false, List, [], ◌∷◌, ◌++◌, refl, sym, ap, ◌∙◌, append_assoc}
use Rattle.std.specs.Prelude.{◌==◌, ◌&&◌, not}
use Rattle.std.specs.List.{list_all}
use Rattle.std.proofs.lemmas.Bool.{and_from, and_left, and_parts, cond-false, not-true}
use Rattle.std.proofs.lemmas.List.Folds.{list_all-append}
use Rattle.pn_text.proofs.Bytes.{other_byte}
use Rattle.pn_text.proofs.Members.{all-append}
use Rattle.pn_yaml.specs.Bytes.{space, starts}
use Rattle.pn_yaml.specs.Data.{Data, scalar, list, map, Items, no_items, item, Members, no_members, member}
use Rattle.pn_yaml_print.specs.PrintedScalars.{word_text}
use Rattle.pn_yaml_print.specs.Printing.{Level, root, spread, dense, below, flow_text, gap, is_flow_key, item_text, items_lines, key_text, members_lines, printed, spaces, value_lines}
use Rattle.pn_yaml.specs.Rows.{lines_of, numbered, onto_line, rows_of, unmarked, unreturned}
use Rattle.pn_yaml_print.proofs.WordLaw.{Begins}
use Rattle.pn_yaml_print.proofs.PrintedBytes.{is_inline, is_opening, flow-inline, key-inline, word-inline, word-opens}

-- what stands behind a key's colon on its line
abbrev pub value_front : Bool → Data → List ℕ
value_front flow (scalar text plain) = space ∷ word_text false text plain
value_front flow (list no_items) = space ∷ flow_text (list no_items)
value_front flow (list (item d ds)) = []
value_front flow (map no_members) = space ∷ flow_text (map no_members)
value_front true (map (member k d ms)) = space ∷ flow_text (map (member k d ms))
value_front false (map (member k d ms)) = []

-- the lines of a block list
abbrev pub items_rows : ℕ → Items → List (List ℕ)
items_rows indent no_items = []
items_rows indent (item d ds) = (spaces indent ++ (45 ∷ space ∷ item_text d)) ∷ items_rows indent ds

-- the line of a key
abbrev pub member_line : ℕ → List ℕ → Data → List ℕ
member_line indent k d = spaces indent ++ (key_text false k ++ value_front (is_flow_key k) d)

abbrev pub gap_rows : Level → List (List ℕ)
gap_rows root = [] ∷ []
gap_rows spread = [] ∷ []
gap_rows dense = []

-- the lines below a key, and those of members
abbrev mutual
  pub value_rows : Level → Bool → ℕ → Data → List (List ℕ)
  value_rows level flow indent (scalar text plain) = []
  value_rows level flow indent (list ds) = items_rows (2 + indent) ds
  value_rows level true indent (map ms) = []
  value_rows level false indent (map ms) = members_rows level (2 + indent) ms

  pub members_rows : Level → ℕ → Members → List (List ℕ)
  members_rows level indent no_members = []
  members_rows level indent (member k d ms) =
      gap_rows level ++ (member_line indent k d ∷ (value_rows (below level k) (is_flow_key k) indent d ++ members_rows level indent ms))

-- the lines of a map as a whole text
abbrev pub root_rows : List ℕ → Data → Members → List (List ℕ)
root_rows k d ms = member_line 0 k d ∷ (value_rows (below root k) (is_flow_key k) 0 d ++ members_rows root 0 ms)

-- lines as a text
abbrev pub unlines : List (List ℕ) → List ℕ
unlines [] = []
unlines (line ∷ lines) = line ++ 10 ∷ unlines lines

unlines-append : (xs ys : List (List ℕ)) → unlines (xs ++ ys) ≡ unlines xs ++ unlines ys
unlines-append [] ys = refl
unlines-append (x ∷ xs) ys = ap (λ z. x ++ 10 ∷ z) (unlines-append xs ys) ∙ sym (append_assoc x (10 ∷ unlines xs) (unlines ys))

items-unlines : (indent : ℕ) (ds : Items) → items_lines indent ds ≡ unlines (items_rows indent ds)
items-unlines indent no_items = refl
items-unlines indent (item d ds) =
    ap (λ z. spaces indent ++ 45 ∷ space ∷ (item_text d ++ 10 ∷ z)) (items-unlines indent ds)
    ∙ sym (append_assoc (spaces indent) (45 ∷ space ∷ item_text d) (10 ∷ unlines (items_rows indent ds)))

gap-unlines : (level : Level) → gap level ≡ unlines (gap_rows level)
gap-unlines root = refl
gap-unlines spread = refl
gap-unlines dense = refl

-- a line, what is below it, and what follows
line-unlines : (k f : List ℕ) (xs ys : List (List ℕ)) → (k ++ (f ++ 10 ∷ unlines xs)) ++ unlines ys ≡ unlines ((k ++ f) ∷ (xs ++ ys))
line-unlines k f xs ys = simp (append_assoc, unlines-append)

gap-line-unlines : (s k f : List ℕ) (gs xs ys : List (List ℕ))
    → (((unlines gs ++ s) ++ k) ++ (f ++ 10 ∷ unlines xs)) ++ unlines ys ≡ unlines (gs ++ ((s ++ (k ++ f)) ∷ (xs ++ ys)))
gap-line-unlines s k f gs xs ys = simp (append_assoc, unlines-append)

mutual
  value-unlines : (d : Data) (level : Level) (flow : Bool) (indent : ℕ) → value_lines level flow indent d ≡ value_front flow d ++ 10 ∷ unlines (value_rows level flow indent d)
  value-unlines (scalar text plain) level flow indent = refl
  value-unlines (list no_items) level flow indent = refl
  value-unlines (list (item d ds)) level flow indent = ap (λ z. 10 ∷ z) (items-unlines (2 + indent) (item d ds))
  value-unlines (map no_members) level true indent = refl
  value-unlines (map no_members) level false indent = refl
  value-unlines (map (member k d ms)) level true indent = refl
  value-unlines (map (member k d ms)) level false indent = ap (λ z. 10 ∷ z) (members-unlines (member k d ms) level (2 + indent))

  members-unlines : (ms : Members) (level : Level) (indent : ℕ) → members_lines level indent ms ≡ unlines (members_rows level indent ms)
  members-unlines no_members level indent = refl
  members-unlines (member k d ms) level indent =
      ap (λ z. z ++ spaces indent ++ key_text false k ++ value_lines (below level k) (is_flow_key k) indent d ++ members_lines level indent ms) (gap-unlines level)
      ∙ ap (λ z. unlines (gap_rows level) ++ spaces indent ++ key_text false k ++ z ++ members_lines level indent ms) (value-unlines d (below level k) (is_flow_key k) indent)
      ∙ ap (λ z. unlines (gap_rows level) ++ spaces indent ++ key_text false k ++ (value_front (is_flow_key k) d ++ 10 ∷ unlines (value_rows (below level k) (is_flow_key k) indent d)) ++ z) (members-unlines ms level indent)
      ∙ gap-line-unlines (spaces indent) (key_text false k) (value_front (is_flow_key k) d) (gap_rows level) (value_rows (below level k) (is_flow_key k) indent d) (members_rows level indent ms)

root-unlines : (k : List ℕ) (d : Data) (ms : Members) → printed (map (member k d ms)) ≡ unlines (root_rows k d ms)
root-unlines k d ms =
    ap (λ z. key_text false k ++ z ++ members_lines root 0 ms) (value-unlines d (below root k) (is_flow_key k) 0)
    ∙ ap (λ z. key_text false k ++ (value_front (is_flow_key k) d ++ 10 ∷ unlines (value_rows (below root k) (is_flow_key k) 0 d)) ++ z) (members-unlines ms root 0)
    ∙ line-unlines (key_text false k) (value_front (is_flow_key k) d) (value_rows (below root k) (is_flow_key k) 0 d) (members_rows root 0 ms)

-- lines in which no line ends
abbrev pub are_inline : List (List ℕ) → Bool
are_inline lines = list_all (list_all is_inline) lines

lines-append : (xs ys : List (List ℕ)) → are_inline xs ≡ true → are_inline ys ≡ true → are_inline (xs ++ ys) ≡ true
lines-append xs ys h g = list_all-append (list_all is_inline) xs ys ∙ and_from _ _ h g

spaces-inline : (n : ℕ) → list_all is_inline (spaces n) ≡ true
spaces-inline zero = refl
spaces-inline (suc n) = spaces-inline n

front-inline : (flow : Bool) (d : Data) → list_all is_inline (value_front flow d) ≡ true
front-inline flow (scalar text plain) = word-inline false text plain
front-inline flow (list no_items) = refl
front-inline flow (list (item d ds)) = refl
front-inline flow (map no_members) = refl
front-inline true (map (member k d ms)) = flow-inline (map (member k d ms))
front-inline false (map (member k d ms)) = refl

item-inline : (d : Data) → list_all is_inline (item_text d) ≡ true
item-inline (scalar text plain) = word-inline false text plain
item-inline (list ds) = flow-inline (list ds)
item-inline (map ms) = flow-inline (map ms)

items-inline : (indent : ℕ) (ds : Items) → are_inline (items_rows indent ds) ≡ true
items-inline indent no_items = refl
items-inline indent (item d ds) =
    and_from _ _ (all-append is_inline (spaces indent) (45 ∷ space ∷ item_text d) (spaces-inline indent) (item-inline d)) (items-inline indent ds)

line-inline : (indent : ℕ) (k : List ℕ) (d : Data) → list_all is_inline (member_line indent k d) ≡ true
line-inline indent k d = all-append is_inline (spaces indent) (key_text false k ++ value_front (is_flow_key k) d) (spaces-inline indent)
    (all-append is_inline (key_text false k) (value_front (is_flow_key k) d) (key-inline false k) (front-inline (is_flow_key k) d))

gap-inline : (level : Level) → are_inline (gap_rows level) ≡ true
gap-inline root = refl
gap-inline spread = refl
gap-inline dense = refl

mutual
  value-inline : (d : Data) (level : Level) (flow : Bool) (indent : ℕ) → are_inline (value_rows level flow indent d) ≡ true
  value-inline (scalar text plain) level flow indent = refl
  value-inline (list ds) level flow indent = items-inline (2 + indent) ds
  value-inline (map ms) level true indent = refl
  value-inline (map ms) level false indent = members-inline ms level (2 + indent)

  members-inline : (ms : Members) (level : Level) (indent : ℕ) → are_inline (members_rows level indent ms) ≡ true
  members-inline no_members level indent = refl
  members-inline (member k d ms) level indent =
      lines-append (gap_rows level) (member_line indent k d ∷ (value_rows (below level k) (is_flow_key k) indent d ++ members_rows level indent ms)) (gap-inline level)
      (and_from _ _ (line-inline indent k d) (lines-append (value_rows (below level k) (is_flow_key k) indent d) (members_rows level indent ms)
      (value-inline d (below level k) (is_flow_key k) indent) (members-inline ms level indent)))

root-inline : (k : List ℕ) (d : Data) (ms : Members) → are_inline (root_rows k d ms) ≡ true
root-inline k d ms = and_from _ _ (line-inline 0 k d) (lines-append (value_rows (below root k) (is_flow_key k) 0 d) (members_rows root 0 ms)
    (value-inline d (below root k) (is_flow_key k) 0) (members-inline ms root 0))

first-line : (line rest : List ℕ) → list_all is_inline line ≡ true → lines_of (line ++ 10 ∷ rest) ≡ line ∷ lines_of rest
first-line [] rest h = refl
first-line (b ∷ line) rest h =
    let p = and_parts (is_inline b) (list_all is_inline line) h in
    cond-false (b == 10) ([] ∷ lines_of (line ++ 10 ∷ rest)) (onto_line b (lines_of (line ++ 10 ∷ rest))) (not-true _ (and_parts _ _ p.0).0)
    ∙ ap (onto_line b) (first-line line rest p.1)

lines-back : (lines : List (List ℕ)) → are_inline lines ≡ true → lines_of (unlines lines) ≡ lines
lines-back [] h = refl
lines-back (line ∷ lines) h =
    let p = and_parts (list_all is_inline line) (are_inline lines) h in
    first-line line (unlines lines) p.0 ∙ ap (λ z. line ∷ z) (lines-back lines p.1)

-- no carriage return
abbrev is_kept : ℕ → Bool
is_kept b = not (b == 13)

kept-inline : (line : List ℕ) → list_all is_inline line ≡ true → list_all is_kept line ≡ true
kept-inline [] h = refl
kept-inline (b ∷ line) h =
    let p = and_parts (is_inline b) (list_all is_inline line) h in
    and_from _ _ (and_parts _ _ p.0).1 (kept-inline line p.1)

kept-lines : (lines : List (List ℕ)) → are_inline lines ≡ true → list_all is_kept (unlines lines) ≡ true
kept-lines [] h = refl
kept-lines (line ∷ lines) h =
    let p = and_parts (list_all is_inline line) (are_inline lines) h in
    all-append is_kept line (10 ∷ unlines lines) (kept-inline line p.0) (kept-lines lines p.1)

unreturned-kept : (text : List ℕ) → list_all is_kept text ≡ true → unreturned text ≡ text
unreturned-kept [] h = refl
unreturned-kept (b ∷ rest) h =
    let p = and_parts (is_kept b) (list_all is_kept rest) h in
    cond-false ((b == 13) && starts 10 rest) (unreturned rest) (b ∷ unreturned rest) (and_left _ _ (not-true _ p.0)) ∙ ap (λ z. b ∷ z) (unreturned-kept rest p.1)

unmarked-kept : (b : ℕ) (rest : List ℕ) → (b == 239) ≡ false → unmarked (b ∷ rest) ≡ b ∷ rest
unmarked-kept b [] h = refl
unmarked-kept b (c ∷ []) h = refl
unmarked-kept b (c ∷ d ∷ rest) h = cond-false ((b == 239) && (c == 187) && (d == 191)) rest (b ∷ c ∷ d ∷ rest) (and_left _ _ (and_left _ _ h))

pub begins-append : (test : ℕ → Bool) (x y : List ℕ) → Begins test x → Begins test (x ++ y)
begins-append test x y h = record { first = h.first; later = h.later ++ y; whole = ap (λ z. z ++ y) h.whole; good = h.good }

unmarked-opening : (text : List ℕ) → Begins is_opening text → unmarked text ≡ text
unmarked-opening text h = ap unmarked h.whole ∙ unmarked-kept h.first h.later (other_byte is_opening h.first 239 h.good refl) ∙ sym h.whole

pub key-opens : (k rest : List ℕ) → Begins is_opening (key_text false k ++ rest)
key-opens k rest = begins-append is_opening (key_text false k) rest (begins-append is_opening (word_text false k false) (58 ∷ []) (word-opens false k false))

-- the lines of a printed map are those that were printed
pub printed-rows : (k : List ℕ) (d : Data) (ms : Members) → rows_of (printed (map (member k d ms))) ≡ numbered 1 (root_rows k d ms)
printed-rows k d ms =
    let text = unlines (root_rows k d ms) in
    let opens = begins-append is_opening (member_line 0 k d) (10 ∷ unlines (value_rows (below root k) (is_flow_key k) 0 d ++ members_rows root 0 ms)) (key-opens k (value_front (is_flow_key k) d)) in
    ap rows_of (root-unlines k d ms)
    ∙ ap (λ z. numbered 1 (lines_of (unreturned z))) (unmarked-opening text opens)
    ∙ ap (λ z. numbered 1 (lines_of z)) (unreturned-kept text (kept-lines (root_rows k d ms) (root-inline k d ms)))
    ∙ ap (numbered 1) (lines-back (root_rows k d ms) (root-inline k d ms))
