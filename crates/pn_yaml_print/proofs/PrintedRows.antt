-- What a printed line shows: its indentation, and that it is no comment and no marker.
use Rattle.std.proofs.Common.{◌≡◌, ◌<◌, ℕ, zero, suc, Bool, true, false, List, [], ◌∷◌, ◌++◌, Ok, refl, sym, ap, subst, ◌∙◌, inl, inr, arith}
use Rattle.std.specs.Prelude.{◌==◌, ◌&&◌, ◌||◌, not}
use Rattle.std.proofs.lemmas.Bool.{and_cases, and_left, and_right, both_ways, cond_both, cond-false, or_from, or_parts}
use Rattle.pn_yaml.specs.Bytes.{space, starts, is_empty, indentation, unindented, is_blank, is_bare}
use Rattle.pn_yaml.specs.Data.{Data}
use Rattle.pn_yaml_print.specs.PrintedScalars.{escaped, doubled, holds_pair, is_control, is_plain}
use Rattle.pn_yaml_print.specs.Printing.{is_flow_key, item_text, key_text, spaces}
use Rattle.pn_yaml.specs.Rows.{Row, ahead, content, is_marker, is_passed_over, is_three, met, numbered, row_indentation}
use Rattle.std.specs.List.{list_any}
use Rattle.pn_text.proofs.Bytes.{other_byte}
use Rattle.pn_yaml_print.proofs.PrintedBytes.{is_opening, plain-text}
use Rattle.pn_yaml_print.proofs.PrintedLines.{key-opens, member_line, value_front}

-- lines from this number on, and then more lines
abbrev pub rows_on : ℕ → List (List ℕ) → List Row → List Row
rows_on n [] more = more
rows_on n (line ∷ lines) more = record { line = n; bytes = line } ∷ rows_on (suc n) lines more

-- the number behind lines
abbrev pub number_behind : ℕ → List (List ℕ) → ℕ
number_behind n [] = n
number_behind n (line ∷ lines) = number_behind (suc n) lines

pub rows-append : (xs ys : List (List ℕ)) (n : ℕ) (more : List Row) → rows_on n (xs ++ ys) more ≡ rows_on n xs (rows_on (number_behind n xs) ys more)
rows-append [] ys n more = refl
rows-append (x ∷ xs) ys n more = ap (λ z. record { line = n; bytes = x } ∷ z) (rows-append xs ys (suc n) more)

pub numbered-rows : (lines : List (List ℕ)) (n : ℕ) → numbered n lines ≡ rows_on n lines []
numbered-rows [] n = refl
numbered-rows (line ∷ lines) n = ap (λ z. record { line = n; bytes = line } ∷ z) (numbered-rows lines (suc n))

-- neither a space nor a comment's `#` nor a tab
abbrev pub is_ink : ℕ → Bool
is_ink b = not ((b == 32) || (b == 35) || (b == 9))

pub spaces-before : (n b : ℕ) (rest : List ℕ) → (b == 32) ≡ false → indentation (spaces n ++ (b ∷ rest)) ≡ n
spaces-before zero b rest h = cond-false (b == 32) (suc (indentation rest)) 0 h
spaces-before (suc n) b rest h = ap (λ z. suc z) (spaces-before n b rest h)

pub spaces-off : (n b : ℕ) (rest : List ℕ) → (b == 32) ≡ false → unindented (spaces n ++ (b ∷ rest)) ≡ b ∷ rest
spaces-off zero b rest h = cond-false (b == 32) (unindented rest) (b ∷ rest) h
spaces-off (suc n) b rest h = spaces-off n b rest h

-- a line that says something
pub record IsRow (indent : ℕ) (text : List ℕ) (row : Row) : Type 0 where
  pub indented : row_indentation row ≡ indent
  pub shows : content row ≡ text
  pub stays : is_passed_over row ≡ false
  pub comes : (rows : List Row) → ahead (row ∷ rows) ≡ Ok (row ∷ rows)

first-shows : (row : Row) (b : ℕ) (rest : List ℕ) → content row ≡ b ∷ rest → is_ink b ≡ true → is_passed_over row ≡ false
first-shows row b rest e h = ap (λ z. is_empty z || starts 35 z) e ∙ other_byte is_ink b 35 h refl

first-comes : (row : Row) (b : ℕ) (rest : List ℕ) → content row ≡ b ∷ rest → is_ink b ≡ true → is_marker row ≡ false → (rows : List Row) → ahead (row ∷ rows) ≡ Ok (row ∷ rows)
first-comes row b rest e h m rows =
    ap met (cond-false (is_passed_over row) _ _ (first-shows row b rest e h))
    ∙ cond-false (starts 9 (content row)) _ _ (ap (starts 9) e ∙ other_byte is_ink b 9 h refl)
    ∙ cond-false (is_marker row) _ _ m

row-from : (n indent b : ℕ) (rest : List ℕ) → is_ink b ≡ true → is_marker (record { line = n; bytes = spaces indent ++ (b ∷ rest) }) ≡ false
    → IsRow indent (b ∷ rest) (record { line = n; bytes = spaces indent ++ (b ∷ rest) })
row-from n indent b rest h m =
    let e = spaces-off indent b rest (other_byte is_ink b 32 h refl) in
    record {
      indented = spaces-before indent b rest (other_byte is_ink b 32 h refl);
      shows = e;
      stays = first-shows (record { line = n; bytes = spaces indent ++ (b ∷ rest) }) b rest e h;
      comes = first-comes (record { line = n; bytes = spaces indent ++ (b ∷ rest) }) b rest e h m;
    }

pub three-false : (c b : ℕ) (rest : List ℕ) → (b == c) ≡ false → is_three c (b ∷ rest) ≡ false
three-false c b [] h = refl
three-false c b (d ∷ []) h = refl
three-false c b (d ∷ e ∷ rest) h = and_left _ _ (and_left _ _ (and_left _ _ h))

-- an indented line is no marker
indented-marker : (n indent : ℕ) (text : List ℕ) → 0 < indent → is_marker (record { line = n; bytes = spaces indent ++ text }) ≡ false
indented-marker n zero text h = absurd (omega arith)
indented-marker n (suc indent) text h = or_from _ _ (three-false 45 32 (spaces indent ++ text) refl) (three-false 46 32 (spaces indent ++ text) refl)

colon-blank : (rest front : List ℕ) → is_blank ((rest ++ 58 ∷ []) ++ front) ≡ false
colon-blank [] front = refl
colon-blank (b ∷ rest) front =
    cond_both (b == 32) (unindented ((rest ++ 58 ∷ []) ++ front)) (b ∷ ((rest ++ 58 ∷ []) ++ front)) (λ u. is_empty u ≡ false) (λ _. colon-blank rest front) (λ _. refl)

pair-apart : (b : ℕ) (rest : List ℕ) → holds_pair 32 35 (b ∷ rest) ≡ false → (b == 32) ≡ true → starts 35 rest ≡ false
pair-apart b rest h e = elim (and_cases (b == 32) (starts 35 rest) (or_parts _ _ h).0) [ inl f ↦ absurd (both_ways (b == 32) f e) | inr g ↦ g ]

pair-later : (b : ℕ) (rest : List ℕ) → holds_pair 32 35 (b ∷ rest) ≡ false → holds_pair 32 35 rest ≡ false
pair-later b rest h = (or_parts ((b == 32) && starts 35 rest) (holds_pair 32 35 rest) h).1

colon-comment : (rest front : List ℕ) → starts 35 rest ≡ false → holds_pair 32 35 rest ≡ false → starts 35 (unindented ((rest ++ 58 ∷ []) ++ front)) ≡ false
colon-comment [] front s h = refl
colon-comment (b ∷ rest) front s h =
    cond_both (b == 32) (unindented ((rest ++ 58 ∷ []) ++ front)) (b ∷ ((rest ++ 58 ∷ []) ++ front)) (λ u. starts 35 u ≡ false)
    (λ e. colon-comment rest front (pair-apart b rest h e) (pair-later b rest h)) (λ _. s)

colon-bare : (rest front : List ℕ) → holds_pair 32 35 rest ≡ false → is_bare ((rest ++ 58 ∷ []) ++ front) ≡ false
colon-bare [] front h = refl
colon-bare (b ∷ rest) front h = or_from _ _ (colon-blank (b ∷ rest) front)
    (cond_both (b == 32) (unindented ((rest ++ 58 ∷ []) ++ front)) (b ∷ ((rest ++ 58 ∷ []) ++ front)) (λ u. ((b == 32) && starts 35 u) ≡ false)
    (λ e. and_right _ _ (colon-comment rest front (pair-apart b rest h e) (pair-later b rest h))) (λ e. and_left _ _ e))

-- a key is no `...`
key-dots : (key front : List ℕ) → holds_pair 32 35 key ≡ false → is_three 46 ((key ++ 58 ∷ []) ++ front) ≡ false
key-dots [] front h = three-false 46 58 front refl
key-dots (a ∷ []) [] h = refl
key-dots (a ∷ []) (b ∷ front) h = and_left _ _ (and_left _ _ (and_right (a == 46) false refl))
key-dots (a ∷ b ∷ []) front h = and_left _ _ (and_right ((a == 46) && (b == 46)) false refl)
key-dots (a ∷ b ∷ c ∷ key) front h = and_right _ _ (colon-bare key front (pair-later c key (pair-later b (c ∷ key) (pair-later a (b ∷ c ∷ key) h))))

word-dots : (k front : List ℕ) → is_three 46 (key_text false k ++ front) ≡ false
word-dots k front =
    cond_both (is_plain false k false) k _ (λ t. is_three 46 ((t ++ 58 ∷ []) ++ front) ≡ false) (λ e. key-dots k front (plain-text false k false e).spaced) (λ _.
    cond_both (list_any is_control k) _ _ (λ t. is_three 46 ((t ++ 58 ∷ []) ++ front) ≡ false)
    (λ _. three-false 46 34 (((escaped k ++ 34 ∷ []) ++ 58 ∷ []) ++ front) refl)
    (λ _. three-false 46 39 (((doubled k ++ 39 ∷ []) ++ 58 ∷ []) ++ front) refl))

pub opening-ink : (b : ℕ) → is_opening b ≡ true → is_ink b ≡ true
opening-ink b h = ap not (or_from _ _ (or_from _ _ (other_byte is_opening b 32 h refl) (other_byte is_opening b 35 h refl)) (other_byte is_opening b 9 h refl))

key-marker : (n indent : ℕ) (k front : List ℕ) → is_marker (record { line = n; bytes = spaces indent ++ (key_text false k ++ front) }) ≡ false
key-marker n zero k front =
    let o = key-opens k front in
    or_from _ _ (ap (is_three 45) o.whole ∙ three-false 45 o.first o.later (other_byte is_opening o.first 45 o.good refl)) (word-dots k front)
key-marker n (suc indent) k front = indented-marker n (suc indent) (key_text false k ++ front) (omega arith)

-- the line of a key
pub member-row : (n indent : ℕ) (k : List ℕ) (d : Data)
    → IsRow indent (key_text false k ++ value_front (is_flow_key k) d) (record { line = n; bytes = member_line indent k d })
member-row n indent k d =
    let text : List ℕ = key_text false k ++ value_front (is_flow_key k) d in
    let o = key-opens k (value_front (is_flow_key k) d) in
    let m : is_marker (record { line = n; bytes = spaces indent ++ (o.first ∷ o.later) }) ≡ false =
    subst (λ (t : List ℕ). is_marker (record { line = n; bytes = spaces indent ++ t }) ≡ false) o.whole (key-marker n indent k (value_front (is_flow_key k) d)) in
    subst (λ (t : List ℕ). IsRow indent t (record { line = n; bytes = spaces indent ++ t })) (sym o.whole)
    (row-from n indent o.first o.later (opening-ink o.first o.good) m)

-- the line of an item
pub item-row : (n indent : ℕ) (d : Data) → 0 < indent
    → IsRow indent (45 ∷ space ∷ item_text d) (record { line = n; bytes = spaces indent ++ (45 ∷ space ∷ item_text d) })
item-row n indent d h = row-from n indent 45 (space ∷ item_text d) refl (indented-marker n indent (45 ∷ space ∷ item_text d) h)
