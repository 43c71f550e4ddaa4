-- Lines that are read: what is refused is refused for one of them, and what is left is of them.
use Rattle.std.proofs.Common.{◌≡◌, ℕ, zero, suc, Bool, true, false, cond, ltb, leb, eqb, List, [], ◌∷◌, length, drop, refl, Option, Some, None, Result, Ok, Err}
use Rattle.std.specs.Prelude.{◌&&◌, if◌then◌else◌}
use Rattle.pn_yaml.specs.declared.fault.Why.{Why}
use Rattle.pn_yaml.specs.declared.fault.Why.TheVariants as why
use Rattle.pn_yaml.specs.declared.fault.YamlFault.{YamlFault}
use Rattle.pn_yaml.specs.declared.scalar.Place.TheVariants as place
use Rattle.pn_yaml.specs.Bytes.{is_bare, is_blank, starts, tail_of, trimmed, unindented}
use Rattle.pn_yaml.specs.Data.{Data, scalar, is_among}
use Rattle.pn_yaml.specs.Outcome.{◌>>=◌, wrong}
use Rattle.pn_yaml.specs.Rows.{Row, ahead, content, first_ahead, is_marker, is_passed_over, is_three, met, passed, row_indentation, unopened}
use Rattle.pn_yaml.specs.Scalars.{on_some, plain_front, word_at, is_colon}
use Rattle.pn_yaml.specs.Flow.{flow_at, is_flow}
use Rattle.pn_yaml.specs.Blocks.{Reader, Style, block_at, block_items, block_member, block_members, ending, is_below, is_item, key_at, list_in, map_in, nested, root_at, scalar_block, scalar_lines, scalar_on, style_of, styled, unwritten, value_on, width_of, with_item, with_line, with_member}
use Rattle.pn_yaml.proofs.FaultLines.{Blames, OnFault, blames-bind, blames-if, blames-ok, blames-wrong, flow-blames, word-blames}

-- the lines have these numbers
abbrev pub OnLines : (ℕ → Type 0) → List Row → Type 0
OnLines P [] = Unit {0}
OnLines P (row ∷ rows) = P row.line × OnLines P rows

abbrev OnAnswer : {A : Type 0} → (ℕ → Type 0) → Result (A × List Row) YamlFault → Type 0
OnAnswer P (Ok r) = OnLines P r.1
OnAnswer P (Err e) = OnFault P e

-- what is refused is refused for one of these lines, and those that are left are of them
pub record Stays {A : Type 0} (P : ℕ → Type 0) (r : Result (A × List Row) YamlFault) : Type 0 where
  pub there : OnAnswer P r

abbrev OnAhead : (ℕ → Type 0) → Result (List Row) YamlFault → Type 0
OnAhead P (Ok rows) = OnLines P rows
OnAhead P (Err e) = OnFault P e

pub record StaysAhead (P : ℕ → Type 0) (r : Result (List Row) YamlFault) : Type 0 where
  pub there : OnAhead P r

pub stays-ok : {A : Type 0} (P : ℕ → Type 0) (x : A) (rows : List Row) → OnLines P rows → Stays P (Ok (x, rows))
stays-ok P x rows h = record { there = h }

pub stays-wrong : {A : Type 0} (P : ℕ → Type 0) (line : ℕ) (w : Why) → P line → Stays {A = A} P (wrong line w)
stays-wrong P line w h = record { there = h }

pub stays-if : {A : Type 0} (P : ℕ → Type 0) (b : Bool) (x y : Result (A × List Row) YamlFault) → Stays P x → Stays P y → Stays P (if b then x else y)
stays-if P true x y h g = h
stays-if P false x y h g = g

pub stays-then : {A B : Type 0} (P : ℕ → Type 0) (r : Result (A × List Row) YamlFault) (f : A × List Row → Result (B × List Row) YamlFault)
    → Stays P r → ((x : A × List Row) → OnLines P x.1 → Stays P (f x)) → Stays P (r >>= f)
stays-then P (Ok x) f h g = g x h.there
stays-then P (Err e) f h g = record { there = h.there }

pub stays-behind : {A B : Type 0} (P : ℕ → Type 0) (r : Result A YamlFault) (f : A → Result (B × List Row) YamlFault)
    → Blames P r → ((x : A) → Stays P (f x)) → Stays P (r >>= f)
stays-behind P (Ok x) f h g = g x
stays-behind P (Err e) f h g = record { there = h.named }

pub stays-ahead : {B : Type 0} (P : ℕ → Type 0) (r : Result (List Row) YamlFault) (f : List Row → Result (B × List Row) YamlFault)
    → StaysAhead P r → ((rows : List Row) → OnLines P rows → Stays P (f rows)) → Stays P (r >>= f)
stays-ahead P (Ok rows) f h g = g rows h.there
stays-ahead P (Err e) f h g = record { there = h.there }

-- what is read of an answer, in its place
pub stays-map : {A B : Type 0} (P : ℕ → Type 0) (m : Result (A × List Row) YamlFault → Result (B × List Row) YamlFault) (f : A → B)
    → ((x : A) (rows : List Row) → m (Ok (x, rows)) ≡ Ok (f x, rows)) → ((e : YamlFault) → m (Err e) ≡ Err e)
    → (r : Result (A × List Row) YamlFault) → Stays P r → Stays P (m r)
stays-map P m f ok err (Ok x) h = rw (ok x.0 x.1) (record { there = h.there })
stays-map P m f ok err (Err e) h = rw (err e) (record { there = h.there })

passed-lines : (P : ℕ → Type 0) (rows : List Row) → OnLines P rows → OnLines P (passed rows)
passed-lines P [] h = tt
passed-lines P (row ∷ rows) h = elim (is_passed_over row) as (λ b. OnLines P (cond b (passed rows) (row ∷ rows))) [ true ↦ passed-lines P rows h.1 | false ↦ h ]

unopened-lines : (P : ℕ → Type 0) (rows : List Row) → OnLines P rows → OnLines P (unopened rows)
unopened-lines P [] h = tt
unopened-lines P (row ∷ rows) h = elim (is_three 45 row.bytes) as (λ b. OnLines P (cond b rows (row ∷ rows))) [ true ↦ h.1 | false ↦ h ]

ahead-if : (P : ℕ → Type 0) (b : Bool) (x y : Result (List Row) YamlFault) → StaysAhead P x → StaysAhead P y → StaysAhead P (if b then x else y)
ahead-if P true x y h g = h
ahead-if P false x y h g = g

met-stays : (P : ℕ → Type 0) (rows : List Row) → OnLines P rows → StaysAhead P (met rows)
met-stays P [] h = record { there = tt }
met-stays P (row ∷ rows) h =
    ahead-if P (starts 9 (content row)) _ _ (record { there = h.0 }) (ahead-if P (is_marker row) _ _ (record { there = h.0 }) (record { there = h }))

pub ahead-stays : (P : ℕ → Type 0) (rows : List Row) → OnLines P rows → StaysAhead P (ahead rows)
ahead-stays P rows h = met-stays P (passed rows) (passed-lines P rows h)

pub first-stays : (P : ℕ → Type 0) (rows : List Row) → OnLines P rows → StaysAhead P (first_ahead rows)
first-stays P rows h = ahead-stays P (unopened (passed rows)) (unopened-lines P (passed rows) (passed-lines P rows h))

line-stays : (P : ℕ → Type 0) (line : List ℕ) (r : Result (List (List ℕ) × List Row) YamlFault) → Stays P r → Stays P (with_line line r)
line-stays P line = stays-map P (with_line line) (λ lines. line ∷ lines) (λ x rows. refl) (λ e. refl)

pub lines-stay : (P : ℕ → Type 0) (indent width : ℕ) (rows : List Row) → OnLines P rows → Stays P (scalar_lines indent width rows)
lines-stay P indent width [] h = stays-ok P [] [] tt
lines-stay P indent width (row ∷ rows) h =
    let rest : Stays P (scalar_lines indent width rows) = lines-stay P indent width rows h.1 in
    stays-if P (is_blank row.bytes) _ _ rest
    (stays-if P (leb (row_indentation row) indent) _ _ (stays-ok P [] (row ∷ rows) h)
    (stays-if P (leb width (row_indentation row)) _ _ (line-stays P (drop width row.bytes) (scalar_lines indent width rows) rest)
    (stays-if P (starts 9 (content row)) _ _ (stays-wrong P row.line why.Tab h.0) (stays-wrong P row.line why.Indent h.0))))

pub scalar-block-stays : (P : ℕ → Type 0) (s : Style) (indent : ℕ) (rows : List Row) → OnLines P rows → Stays P (scalar_block s indent rows)
scalar-block-stays P s indent rows h =
    stays-then P (scalar_lines indent (width_of rows) rows) _ (lines-stay P indent (width_of rows) rows h) (λ r g.
    stays-ahead P (ahead r.1) _ (ahead-stays P r.1 g) (λ next l. stays-ok P (scalar (styled s r.0) false) next l))

pub ending-stays : (P : ℕ → Type 0) (otherwise : Why) (line : ℕ) (d : Data) (rest : List ℕ) (rows : List Row) → P line → OnLines P rows → Stays P (ending otherwise line d rest rows)
ending-stays P otherwise line d rest rows p h =
    stays-if P (is_bare rest) _ _ (stays-ahead P (ahead rows) _ (ahead-stays P rows h) (λ next l. stays-ok P d next l)) (stays-wrong P line otherwise p)

scalar-stays : (P : ℕ → Type 0) (text : List ℕ) (row : Row) (rows : List Row) → P row.line → OnLines P rows → Stays P (scalar_on text row rows)
scalar-stays P text row rows p h =
    stays-behind P (word_at place.Value row.line text) _ (word-blames P place.Value row.line text p) (λ w.
    ending-stays P why.Quote row.line (scalar w.0.text w.0.plain) w.1 rows p h)

pub flow-stays : (P : ℕ → Type 0) (levels : ℕ) (text : List ℕ) (row : Row) (rows : List Row) → P row.line → OnLines P rows
    → Stays P (flow_at levels row.line text >>= λ f. ending why.Flow row.line f.0 f.1 rows)
flow-stays P levels text row rows p h =
    stays-behind P (flow_at levels row.line text) _ (flow-blames P levels row.line text p) (λ f. ending-stays P why.Flow row.line f.0 f.1 rows p h)

-- blocks

-- a reader refuses nothing but the lines that it reads
abbrev pub Keeps : (ℕ → Type 0) → Reader → Type 0
Keeps P value = (keyed : Bool) (text : List ℕ) (row : Row) (rows : List Row) → P row.line → OnLines P rows → Stays P (value keyed text row rows)

pub key-blames : (P : ℕ → Type 0) (line : ℕ) (text : List ℕ) → P line → Blames P (key_at line text)
key-blames P line text p =
    blames-bind P (word_at place.Key line text) _ (word-blames P place.Key line text p) (λ k.
    blames-if P (is_colon k.1) _ _ (blames-ok P _) (blames-wrong P line why.Key p))

pub items-stay : (P : ℕ → Type 0) (value : Reader) → Keeps P value → (indent steps : ℕ) (rows : List Row) → OnLines P rows → Stays P (block_items value indent steps rows)
items-stay P value keeps indent zero rows h = stays-ok P _ rows h
items-stay P value keeps indent (suc steps) [] h = stays-ok P _ [] tt
items-stay P value keeps indent (suc steps) (row ∷ rows) h =
    stays-if P (eqb (row_indentation row) indent && is_item (content row)) _ _
    (stays-then P (value false (tail_of (content row)) row rows) _ (keeps false (tail_of (content row)) row rows h.0 h.1) (λ v g.
    stays-map P (with_item v.0) _ (λ x rows. refl) (λ e. refl) (block_items value indent steps v.1) (items-stay P value keeps indent steps v.1 g)))
    (stays-ok P _ (row ∷ rows) h)

pub member-stays : (P : ℕ → Type 0) (value : Reader) → Keeps P value → (seen : List (List ℕ)) (row : Row) (rows : List Row) → P row.line → OnLines P rows
    → Stays P (block_member value seen row rows)
member-stays P value keeps seen row rows p h =
    stays-if P (is_item (content row)) _ _ (stays-wrong P row.line why.Key p)
    (stays-behind P (key_at row.line (content row)) _ (key-blames P row.line (content row) p) (λ k.
    stays-if P (is_among k.0 seen) _ _ (stays-wrong P row.line why.Twice p)
    (stays-then P (value true k.1 row rows) _ (keeps true k.1 row rows p h) (λ v g. stays-ok P (k.0, v.0) v.1 g))))

pub members-stay : (P : ℕ → Type 0) (value : Reader) → Keeps P value → (indent steps : ℕ) (seen : List (List ℕ)) (rows : List Row) → OnLines P rows
    → Stays P (block_members value indent steps seen rows)
members-stay P value keeps indent zero seen rows h = stays-ok P _ rows h
members-stay P value keeps indent (suc steps) seen [] h = stays-ok P _ [] tt
members-stay P value keeps indent (suc steps) seen (row ∷ rows) h =
    stays-if P (ltb (row_indentation row) indent) _ _ (stays-ok P _ (row ∷ rows) h)
    (stays-if P (ltb indent (row_indentation row)) _ _ (stays-wrong P row.line why.Indent h.0)
    (stays-then P (block_member value seen row rows) _ (member-stays P value keeps seen row rows h.0 h.1) (λ m g.
    stays-map P (with_member m.0.0 m.0.1) _ (λ x rows. refl) (λ e. refl) (block_members value indent steps (m.0.0 ∷ seen) m.1)
    (members-stay P value keeps indent steps (m.0.0 ∷ seen) m.1 g))))

pub block-stays : (P : ℕ → Type 0) (value : Reader) → Keeps P value → (row : Row) (rows : List Row) → P row.line → OnLines P rows → Stays P (block_at value row rows)
block-stays P value keeps row rows p h =
    stays-if P (is_item (content row)) _ _
    (stays-map P list_in _ (λ x rows. refl) (λ e. refl) _ (items-stay P value keeps (row_indentation row) (suc (length rows)) (row ∷ rows) (p, h)))
    (stays-map P map_in _ (λ x rows. refl) (λ e. refl) _ (members-stay P value keeps (row_indentation row) (suc (length rows)) [] (row ∷ rows) (p, h)))

pub nested-stays : (P : ℕ → Type 0) (value : Reader) → Keeps P value → (indent : ℕ) (rows : List Row) → OnLines P rows → Stays P (nested value indent rows)
nested-stays P value keeps indent [] h = stays-ok P _ [] tt
nested-stays P value keeps indent (row ∷ rows) h = stays-if P (is_below indent row) _ _ (block-stays P value keeps row rows h.0 h.1) (stays-ok P _ (row ∷ rows) h)

unwritten-stays : (P : ℕ → Type 0) (value : Reader) → Keeps P value → (keyed : Bool) (indent : ℕ) (rows : List Row) → OnLines P rows → Stays P (unwritten value keyed indent rows)
unwritten-stays P value keeps keyed indent rows h =
    stays-ahead P (ahead rows) _ (ahead-stays P rows h) (λ next g.
    stays-if P keyed _ _ (nested-stays P value keeps indent next g) (stays-ok P _ next g))

styled-stays : (P : ℕ → Type 0) (o : Option Style) (indent : ℕ) (text : List ℕ) (row : Row) (rows : List Row) → P row.line → OnLines P rows
    → Stays P (on_some o (λ s. scalar_block s indent rows) (scalar_on text row rows))
styled-stays P None indent text row rows p h = scalar-stays P text row rows p h
styled-stays P (Some s) indent text row rows p h = scalar-block-stays P s indent rows h

pub value-stays : (P : ℕ → Type 0) (levels : ℕ) → Keeps P (value_on levels)
value-stays P zero keyed text row rows p h = record { there = tt }
value-stays P (suc levels) keyed text row rows p h =
    stays-if P (is_bare text) _ _ (unwritten-stays P (value_on levels) (value-stays P levels) keyed (row_indentation row) rows h)
    (stays-if P (is_flow (unindented text)) _ _ (flow-stays P (suc levels) (unindented text) row rows p h)
    (styled-stays P (style_of (trimmed (plain_front place.Value (unindented text)))) (row_indentation row) (unindented text) row rows p h))

pub root-stays : (P : ℕ → Type 0) (row : Row) (rows : List Row) → P row.line → OnLines P rows → Stays P (root_at row rows)
root-stays P row rows p h =
    stays-if P (ltb 0 (row_indentation row)) _ _ (stays-wrong P row.line why.Indent p)
    (stays-if P (is_flow row.bytes) _ _ (flow-stays P 64 row.bytes row rows p h)
    (block-stays P (value_on 63) (value-stays P 63) row rows p h))
