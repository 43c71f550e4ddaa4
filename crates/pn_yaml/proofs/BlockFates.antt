-- What the lines in front settle, of a text.
use Rattle.std.proofs.Common.{◌≡◌, ◌+◌, ◌≤◌, ◌<◌, ℕ, zero, suc, Bool, true, false, leb, List, [], ◌∷◌, ◌++◌, length, drop, Option, Some, None, Ok, refl, ap, ◌∙◌, arith, length-append}
use Rattle.std.specs.Prelude.{◌==◌, ◌&&◌, nat_lt, if◌then◌else◌}
use Rattle.std.proofs.lemmas.Bool.{cond-false, cond-true}
use Rattle.pn_yaml.specs.declared.fault.Why.{Why}
use Rattle.pn_yaml.specs.declared.fault.Why.TheVariants as why
use Rattle.pn_yaml.specs.declared.fault.YamlFault.TheVariants as fault
use Rattle.pn_yaml.specs.declared.scalar.Place.TheVariants as place
use Rattle.pn_yaml.specs.Bytes.{is_bare, is_blank, starts, tail_of, trimmed, unindented}
use Rattle.pn_yaml.specs.Data.{Data, scalar, list, map, Items, no_items, item, Members, no_members, member, is_among}
use Rattle.pn_yaml.specs.Outcome.{◌>>=◌, wrong}
use Rattle.pn_yaml.specs.Rows.{Row, ahead, content, first_ahead, row_indentation}
use Rattle.pn_yaml.specs.Scalars.{on_some, plain_front, word_at}
use Rattle.pn_yaml.specs.Flow.{flow_at, is_flow}
use Rattle.pn_yaml.specs.Blocks.{Reader, Style, block_at, block_items, block_member, block_members, ending, is_below, is_item, key_at, list_in, map_in, nested, root_at, scalar_block, scalar_lines, scalar_on, style_of, styled, unwritten, value_on, width_of, with_item, with_line, with_member}
use Rattle.pn_yaml.proofs.RowLines.{Keeps, OnLines, Stays, ahead-stays, first-stays, items-stay, lines-stay, members-stay, nested-stays, root-stays, stays-ahead, stays-if, stays-map, stays-ok, value-stays}
use Rattle.pn_yaml.proofs.Fates.{Fate, fails, ends, goes_on, Follows, Reads, ahead-fate, fate-behind, fate-if, fate-map, fate-more, fate-same, fate-then, fate-wrong, first-fate}

-- what the lines below a value settle of it
abbrev pub HasFate : (ℕ → Type 0) → Reader → Type 0
HasFate P value = (keyed : Bool) (text : List ℕ) (row : Row) (rows : List Row) → Fate Data P (length rows) (λ more. value keyed text row (rows ++ more))

follows-ok : {B : Type 0} (P : ℕ → Type 0) (most : ℕ) (x : B) → Follows B P most (λ next. Ok (x, next))
follows-ok P most x = record {
  left = λ row left l. ends x row left l (λ more. refl);
  value = x;
  last = refl;
  stays = λ rows h. stays-ok P x rows h;
}

-- scalars of several lines

lines-fate : (P : ℕ → Type 0) (indent width : ℕ) (rows : List Row) → Fate (List (List ℕ)) P (length rows) (λ more. scalar_lines indent width (rows ++ more))
lines-fate P indent width [] = goes_on [] refl (λ more l. lines-stay P indent width more l)
lines-fate P indent width (row ∷ rows) =
    let n : ℕ = suc (length rows) in
    let rest : Fate (List (List ℕ)) P n (λ more. scalar_lines indent width (rows ++ more)) = fate-more P (length rows) n _ (omega arith) (lines-fate P indent width rows) in
    fate-if P n (is_blank row.bytes) _ _ rest
    (fate-if P n (leb (row_indentation row) indent) _ _ (ends [] row rows (omega arith) (λ more. refl))
    (fate-if P n (leb width (row_indentation row)) _ _ (fate-map P n (with_line (drop width row.bytes)) (λ lines. drop width row.bytes ∷ lines) (λ x rows. refl) (λ e. refl) _ rest)
    (fate-if P n (starts 9 (content row)) _ _ (fate-wrong P n row.line why.Tab) (fate-wrong P n row.line why.Indent))))

blank-line : (indent : ℕ) (row : Row) (rows : List Row) → is_blank row.bytes ≡ true → scalar_lines indent (width_of (row ∷ rows)) (row ∷ rows) ≡ scalar_lines indent (width_of rows) rows
blank-line indent row rows e =
    cond-true (is_blank row.bytes) (scalar_lines indent (width_of (row ∷ rows)) rows) _ e
    ∙ ap (λ (w : ℕ). scalar_lines indent w rows) (cond-true (is_blank row.bytes) (width_of rows) (row_indentation row) e)

filled-line : (indent : ℕ) (row : Row) (rows : List Row) → is_blank row.bytes ≡ false
    → scalar_lines indent (width_of (row ∷ rows)) (row ∷ rows) ≡ scalar_lines indent (row_indentation row) (row ∷ rows)
filled-line indent row rows e = ap (λ (w : ℕ). scalar_lines indent w (row ∷ rows)) (cond-false (is_blank row.bytes) (width_of rows) (row_indentation row) e)

wide-fate : (P : ℕ → Type 0) (indent : ℕ) (rows : List Row) → Fate (List (List ℕ)) P (length rows) (λ more. scalar_lines indent (width_of (rows ++ more)) (rows ++ more))
wide-fate P indent [] = goes_on [] refl (λ more l. lines-stay P indent (width_of more) more l)
wide-fate P indent (row ∷ rows) =
    let n : ℕ = suc (length rows) in
    elim (is_blank row.bytes) as (λ b. is_blank row.bytes ≡ b → Fate (List (List ℕ)) P n (λ more. scalar_lines indent (width_of (row ∷ (rows ++ more))) (row ∷ (rows ++ more)))) [
      | true ↦ λ e. fate-same P n _ (λ more. scalar_lines indent (width_of (rows ++ more)) (rows ++ more)) (λ more. blank-line indent row (rows ++ more) e)
          (fate-more P (length rows) n _ (omega arith) (wide-fate P indent rows))
      | false ↦ λ e. fate-same P n _ (λ more. scalar_lines indent (row_indentation row) (row ∷ (rows ++ more))) (λ more. filled-line indent row (rows ++ more) e)
          (lines-fate P indent (row_indentation row) (row ∷ rows))
    ] refl

scalar-block-fate : (P : ℕ → Type 0) (s : Style) (indent : ℕ) (rows : List Row) → Fate Data P (length rows) (λ more. scalar_block s indent (rows ++ more))
scalar-block-fate P s indent rows =
    fate-then P (length rows) (λ more. scalar_lines indent (width_of (rows ++ more)) (rows ++ more)) (λ more r. ahead r.1 >>= λ next. Ok (scalar (styled s r.0) false, next)) (record {
      left = λ x row left l. ahead-fate P (length rows) (row ∷ left) (λ next. Ok (scalar (styled s x) false, next)) l (follows-ok P (length rows) (scalar (styled s x) false));
      value = λ x. scalar (styled s x) false;
      last = λ x. refl;
      stays = λ more x rows h. stays-ahead P (ahead rows) _ (ahead-stays P rows h) (λ next l. stays-ok P (scalar (styled s x) false) next l);
    }) (wide-fate P indent rows)

-- values on a line

ending-fate : (P : ℕ → Type 0) (otherwise : Why) (line : ℕ) (d : Data) (rest : List ℕ) (rows : List Row) → Fate Data P (length rows) (λ more. ending otherwise line d rest (rows ++ more))
ending-fate P otherwise line d rest rows =
    fate-if P (length rows) (is_bare rest) _ _ (ahead-fate P (length rows) rows (λ next. Ok (d, next)) (omega arith) (follows-ok P (length rows) d)) (fate-wrong P (length rows) line otherwise)

scalar-fate : (P : ℕ → Type 0) (text : List ℕ) (row : Row) (rows : List Row) → Fate Data P (length rows) (λ more. scalar_on text row (rows ++ more))
scalar-fate P text row rows =
    fate-behind P (length rows) (word_at place.Value row.line text) (λ w more. ending why.Quote row.line (scalar w.0.text w.0.plain) w.1 (rows ++ more)) (λ w.
    ending-fate P why.Quote row.line (scalar w.0.text w.0.plain) w.1 rows)

flow-fate : (P : ℕ → Type 0) (levels : ℕ) (text : List ℕ) (row : Row) (rows : List Row)
    → Fate Data P (length rows) (λ more. flow_at levels row.line text >>= λ f. ending why.Flow row.line f.0 f.1 (rows ++ more))
flow-fate P levels text row rows =
    fate-behind P (length rows) (flow_at levels row.line text) (λ f more. ending why.Flow row.line f.0 f.1 (rows ++ more)) (λ f. ending-fate P why.Flow row.line f.0 f.1 rows)

-- blocks

less_one : ℕ → ℕ
less_one zero = zero
less_one (suc n) = n

enough : (few : ℕ) (steps : ℕ) → suc few ≤ steps → few ≤ less_one steps
unfolding less_one
enough few zero h = absurd (omega arith)
enough few (suc steps) h = omega arith

fits : (rows more : List Row) (steps : ℕ) → suc (length (rows ++ more)) ≤ steps → suc (length rows + length more) ≤ steps
fits rows more steps h = omega (arith, length-append rows more)

behind-enough : (few : ℕ) (left more : List Row) (steps : ℕ) → length left ≤ few → suc (few + length more) ≤ steps → length (left ++ more) ≤ less_one steps
behind-enough few left more steps l h = enough (length (left ++ more)) steps (omega (arith, length-append left more))

items-step : (value : Reader) (indent steps : ℕ) (row : Row) (rows : List Row) → 0 < steps → block_items value indent steps (row ∷ rows)
    ≡ (if (row_indentation row == indent) && is_item (content row) then value false (tail_of (content row)) row rows >>= (λ v. with_item v.0 (block_items value indent (less_one steps) v.1))
    else Ok (no_items, row ∷ rows))
unfolding less_one
items-step value indent zero row rows h = absurd (omega arith)
items-step value indent (suc steps) row rows h = refl

items-last : (value : Reader) (indent steps : ℕ) → block_items value indent steps [] ≡ Ok (no_items, [])
items-last value indent zero = refl
items-last value indent (suc steps) = refl

items-fate : (P : ℕ → Type 0) (value : Reader) → Keeps P value → HasFate P value → (indent bound : ℕ) (rows : List Row) (steps : List Row → ℕ) → length rows ≤ bound
    → ((more : List Row) → length (rows ++ more) ≤ steps more) → Fate Items P (length rows) (λ more. block_items value indent (steps more) (rows ++ more))
items-fate P value keeps has indent bound [] steps l s = goes_on no_items (items-last value indent (steps [])) (λ more h. items-stay P value keeps indent (steps more) more h)
items-fate P value keeps has indent zero (row ∷ rows) steps l s = absurd (omega arith)
items-fate P value keeps has indent (suc bound) (row ∷ rows) steps l s =
    let n : ℕ = length rows in
    let again : List Row → Data × List Row → Reads Items = λ more v. with_item v.0 (block_items value indent (less_one (steps more)) v.1) in
    fate-same P (suc n) _ _ (λ more. items-step value indent (steps more) row (rows ++ more) (let h = s more in omega arith))
    (fate-if P (suc n) ((row_indentation row == indent) && is_item (content row)) _ _
    (fate-more P n (suc n) _ (omega arith) (fate-then P n (λ more. value false (tail_of (content row)) row (rows ++ more)) again (record {
      left = λ d next left m. fate-map P n (with_item d) (item d) (λ x rows. refl) (λ e. refl) _ (fate-more P (suc (length left)) n _ m
          (items-fate P value keeps has indent bound (next ∷ left) (λ more. less_one (steps more)) (omega arith) (λ more. behind-enough (length rows) (next ∷ left) more (steps more) m (fits rows more (steps more) (s more)))));
      value = λ d. item d no_items;
      last = λ d. ap (with_item d) (items-last value indent (less_one (steps [])));
      stays = λ more d left h. stays-map P (with_item d) (item d) (λ x rows. refl) (λ e. refl) (block_items value indent (less_one (steps more)) left)
          (items-stay P value keeps indent (less_one (steps more)) left h);
    }) (has false (tail_of (content row)) row rows)))
    (ends no_items row rows (omega arith) (λ more. refl)))

members-step : (value : Reader) (indent steps : ℕ) (seen : List (List ℕ)) (row : Row) (rows : List Row) → 0 < steps → block_members value indent steps seen (row ∷ rows)
    ≡ (if nat_lt (row_indentation row) indent then Ok (no_members, row ∷ rows) else if nat_lt indent (row_indentation row) then wrong row.line why.Indent
    else block_member value seen row rows >>= λ m. with_member m.0.0 m.0.1 (block_members value indent (less_one steps) (m.0.0 ∷ seen) m.1))
unfolding less_one
members-step value indent zero seen row rows h = absurd (omega arith)
members-step value indent (suc steps) seen row rows h = refl

members-last : (value : Reader) (indent steps : ℕ) (seen : List (List ℕ)) → block_members value indent steps seen [] ≡ Ok (no_members, [])
members-last value indent zero seen = refl
members-last value indent (suc steps) seen = refl

member-fate : (P : ℕ → Type 0) (value : Reader) → HasFate P value → (seen : List (List ℕ)) (row : Row) (rows : List Row)
    → Fate (List ℕ × Data) P (length rows) (λ more. block_member value seen row (rows ++ more))
member-fate P value has seen row rows =
    let n : ℕ = length rows in
    fate-if P n (is_item (content row)) _ _ (fate-wrong P n row.line why.Key)
    (fate-behind P n (key_at row.line (content row)) (λ k more. if is_among k.0 seen then wrong row.line why.Twice else value true k.1 row (rows ++ more) >>= λ v. Ok ((k.0, v.0), v.1)) (λ k.
    fate-if P n (is_among k.0 seen) _ _ (fate-wrong P n row.line why.Twice)
    (fate-map P n (λ r. r >>= λ v. Ok ((k.0, v.0), v.1)) (λ d. (k.0, d)) (λ x rows. refl) (λ e. refl) _ (has true k.1 row rows))))

members-fate : (P : ℕ → Type 0) (value : Reader) → Keeps P value → HasFate P value → (indent bound : ℕ) (seen : List (List ℕ)) (rows : List Row) (steps : List Row → ℕ) → length rows ≤ bound
    → ((more : List Row) → length (rows ++ more) ≤ steps more) → Fate Members P (length rows) (λ more. block_members value indent (steps more) seen (rows ++ more))
members-fate P value keeps has indent bound seen [] steps l s =
    goes_on no_members (members-last value indent (steps []) seen) (λ more h. members-stay P value keeps indent (steps more) seen more h)
members-fate P value keeps has indent zero seen (row ∷ rows) steps l s = absurd (omega arith)
members-fate P value keeps has indent (suc bound) seen (row ∷ rows) steps l s =
    let n : ℕ = length rows in
    let again : List Row → (List ℕ × Data) × List Row → Reads Members = λ more m. with_member m.0.0 m.0.1 (block_members value indent (less_one (steps more)) (m.0.0 ∷ seen) m.1) in
    fate-same P (suc n) _ _ (λ more. members-step value indent (steps more) seen row (rows ++ more) (let h = s more in omega arith))
    (fate-if P (suc n) (nat_lt (row_indentation row) indent) _ _ (ends no_members row rows (omega arith) (λ more. refl))
    (fate-if P (suc n) (nat_lt indent (row_indentation row)) _ _ (fate-wrong P (suc n) row.line why.Indent)
    (fate-more P n (suc n) _ (omega arith) (fate-then P n (λ more. block_member value seen row (rows ++ more)) again (record {
      left = λ k next left m. fate-map P n (with_member k.0 k.1) (member k.0 k.1) (λ x rows. refl) (λ e. refl) _ (fate-more P (suc (length left)) n _ m
          (members-fate P value keeps has indent bound (k.0 ∷ seen) (next ∷ left) (λ more. less_one (steps more)) (omega arith) (λ more. behind-enough (length rows) (next ∷ left) more (steps more) m (fits rows more (steps more) (s more)))));
      value = λ k. member k.0 k.1 no_members;
      last = λ k. ap (with_member k.0 k.1) (members-last value indent (less_one (steps [])) (k.0 ∷ seen));
      stays = λ more k left h. stays-map P (with_member k.0 k.1) (member k.0 k.1) (λ x rows. refl) (λ e. refl) (block_members value indent (less_one (steps more)) (k.0 ∷ seen) left)
          (members-stay P value keeps indent (less_one (steps more)) (k.0 ∷ seen) left h);
    }) (member-fate P value has seen row rows)))))

block-fate : (P : ℕ → Type 0) (value : Reader) → Keeps P value → HasFate P value → (row : Row) (rows : List Row) → Fate Data P (suc (length rows)) (λ more. block_at value row (rows ++ more))
block-fate P value keeps has row rows =
    let n : ℕ = suc (length rows) in
    fate-if P n (is_item (content row)) _ _
    (fate-map P n list_in list (λ x rows. refl) (λ e. refl) _
    (items-fate P value keeps has (row_indentation row) n (row ∷ rows) (λ more. suc (length (rows ++ more))) (omega arith) (λ more. omega arith)))
    (fate-map P n map_in map (λ x rows. refl) (λ e. refl) _
    (members-fate P value keeps has (row_indentation row) n [] (row ∷ rows) (λ more. suc (length (rows ++ more))) (omega arith) (λ more. omega arith)))

nested-fate : (P : ℕ → Type 0) (value : Reader) → Keeps P value → HasFate P value → (indent most : ℕ) (row : Row) (left : List Row) → suc (length left) ≤ most
    → Fate Data P most (λ more. nested value indent (row ∷ (left ++ more)))
nested-fate P value keeps has indent most row left l =
    fate-if P most (is_below indent row) _ _ (fate-more P (suc (length left)) most _ l (block-fate P value keeps has row left)) (ends (scalar [] true) row left l (λ more. refl))

no-value : (value : Reader) (keyed : Bool) (indent : ℕ) → (if keyed then nested value indent [] else Ok (scalar [] true, [])) ≡ Ok (scalar [] true, [])
no-value value true indent = refl
no-value value false indent = refl

unwritten-fate : (P : ℕ → Type 0) (value : Reader) → Keeps P value → HasFate P value → (keyed : Bool) (indent : ℕ) (rows : List Row)
    → Fate Data P (length rows) (λ more. unwritten value keyed indent (rows ++ more))
unwritten-fate P value keeps has keyed indent rows =
    let n : ℕ = length rows in
    ahead-fate P n rows (λ next. if keyed then nested value indent next else Ok (scalar [] true, next)) (omega arith) (record {
      left = λ row left l. fate-if P n keyed _ _ (nested-fate P value keeps has indent n row left l) (ends (scalar [] true) row left l (λ more. refl));
      value = scalar [] true;
      last = no-value value keyed indent;
      stays = λ next h. stays-if P keyed _ _ (nested-stays P value keeps indent next h) (stays-ok P (scalar [] true) next h);
    })

styled-fate : (P : ℕ → Type 0) (o : Option Style) (indent : ℕ) (text : List ℕ) (row : Row) (rows : List Row)
    → Fate Data P (length rows) (λ more. on_some o (λ s. scalar_block s indent (rows ++ more)) (scalar_on text row (rows ++ more)))
styled-fate P None indent text row rows = scalar-fate P text row rows
styled-fate P (Some s) indent text row rows = scalar-block-fate P s indent rows

value-fate : (P : ℕ → Type 0) (levels : ℕ) → HasFate P (value_on levels)
value-fate P zero keyed text row rows = fails fault.TooDeep (λ more. refl)
value-fate P (suc levels) keyed text row rows =
    let n : ℕ = length rows in
    fate-if P n (is_bare text) _ _ (unwritten-fate P (value_on levels) (value-stays P levels) (value-fate P levels) keyed (row_indentation row) rows)
    (fate-if P n (is_flow (unindented text)) _ _ (flow-fate P (suc levels) (unindented text) row rows)
    (styled-fate P (style_of (trimmed (plain_front place.Value (unindented text)))) (row_indentation row) (unindented text) row rows))

-- the root, and what is left behind it
abbrev pub root_read : List Row → Reads Data
root_read [] = Ok (map no_members, [])
root_read (row ∷ rows) = root_at row rows

root-fate : (P : ℕ → Type 0) (most : ℕ) (row : Row) (rows : List Row) → suc (length rows) ≤ most → Fate Data P most (λ more. root_at row (rows ++ more))
root-fate P most row rows l =
    fate-if P most (nat_lt 0 (row_indentation row)) _ _ (fate-wrong P most row.line why.Indent)
    (fate-if P most (is_flow row.bytes) _ _ (fate-more P (length rows) most _ (omega arith) (flow-fate P 64 row.bytes row rows))
    (fate-more P (suc (length rows)) most _ l (block-fate P (value_on 63) (value-stays P 63) (value-fate P 63) row rows)))

root-read-stays : (P : ℕ → Type 0) (rows : List Row) → OnLines P rows → Stays P (root_read rows)
root-read-stays P [] h = stays-ok P (map no_members) [] tt
root-read-stays P (row ∷ rows) h = root-stays P row rows h.0 h.1

pub text-fate : (P : ℕ → Type 0) (rows : List Row) → Fate Data P (length rows) (λ more. first_ahead (rows ++ more) >>= root_read)
text-fate P rows = first-fate P (length rows) rows root_read (omega arith) (record {
  left = λ row left l. root-fate P (length rows) row left l;
  value = map no_members;
  last = refl;
  stays = root-read-stays P;
})

pub text-stays : (P : ℕ → Type 0) (rows : List Row) → OnLines P rows → Stays P (first_ahead rows >>= root_read)
text-stays P rows h = stays-ahead P (first_ahead rows) root_read (first-stays P rows h) (root-read-stays P)
