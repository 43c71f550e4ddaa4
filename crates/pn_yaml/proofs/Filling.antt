-- The lines of a scalar of several lines.
use Rattle.std.proofs.Common.{◌≡◌, ℕ, suc, ◌<◌, ◌≤◌, Bool, true, false, cond, leb, List, [], ◌∷◌, ◌++◌, length, drop, Result, Ok, Err, refl, sym, ap, ◌∙◌, subst, append_assoc, arith}
use Rattle.std.proofs.lemmas.Bool.{le-leb, lt-leb}
use Rattle.std.proofs.lemmas.List.{append-nil}
use Rattle.pn_yaml.specs.declared.fault.YamlFault.{YamlFault}
use Rattle.pn_yaml.specs.declared.fault.Why.TheVariants as why
use Rattle.pn_yaml.specs.Blocks.{width_of, scalar_lines, with_line, joined}
use Rattle.pn_yaml.specs.Bytes.{is_blank, starts}
use Rattle.pn_yaml.specs.Literals.{filled, shallow, each_behind, added, joined_in}
use Rattle.pn_yaml.specs.Outcome.{wrong}
use Rattle.pn_yaml.specs.Rows.{Row, row_indentation, content}

abbrev Lines : Type 0
Lines = Result (List (List ℕ) × List Row) YamlFault

abbrev Text : Type 0
Text = Result (List ℕ × List Row) YamlFault

lines_filled : (i w : ℕ) (rows : List Row) → scalar_lines i w rows ≡ scalar_lines i w (filled rows)
lines_filled i w [] = refl
lines_filled i w (r ∷ rows) =
    elim (is_blank r.bytes) as (λ b. is_blank r.bytes ≡ b → scalar_lines i w (r ∷ rows) ≡ scalar_lines i w (cond b (filled rows) (r ∷ rows))) [
      | true ↦ λ e. rw e (lines_filled i w rows)
      | false ↦ λ e. refl
    ] refl

width_filled : (rows : List Row) → width_of rows ≡ width_of (filled rows)
width_filled [] = refl
width_filled (r ∷ rows) =
    elim (is_blank r.bytes) as (λ b. is_blank r.bytes ≡ b → width_of (r ∷ rows) ≡ width_of (cond b (filled rows) (r ∷ rows))) [
      | true ↦ λ e. rw e (width_filled rows)
      | false ↦ λ e. refl
    ] refl

filled_head : (rows : List Row) (r : Row) (below : List Row) → filled rows ≡ r ∷ below → is_blank r.bytes ≡ false
filled_head [] r below e = absurd cc
filled_head (s ∷ rows) r below e =
    elim (is_blank s.bytes) as (λ o. is_blank s.bytes ≡ o → cond o (filled rows) (s ∷ rows) ≡ r ∷ below → is_blank r.bytes ≡ false) [
      | true ↦ λ o f. filled_head rows r below f
      | false ↦ λ o f. let same : s ≡ r = cc in subst (λ (x : Row). is_blank x.bytes ≡ false) same o
    ] refl e

pub filled_below : (rows : List Row) (r : Row) (below : List Row) → filled rows ≡ r ∷ below → length below < length rows
filled_below [] r below e = absurd cc
filled_below (s ∷ rows) r below e =
    elim (is_blank s.bytes) as (λ o. cond o (filled rows) (s ∷ rows) ≡ r ∷ below → length below < suc (length rows)) [
      | true ↦ λ f. let lt : length below < length rows = filled_below rows r below f in omega arith
      | false ↦ λ f. let same : rows ≡ below = cc in let len : length rows ≡ length below = ap length same in omega arith
    ] e

at_row : (i w : ℕ) (rows : List Row) (r : Row) (below : List Row) → filled rows ≡ r ∷ below
    → scalar_lines i w rows ≡ cond (leb (row_indentation r) i) (Ok ([], r ∷ below)) (cond (leb w (row_indentation r)) (with_line (drop w r.bytes) (scalar_lines i w below))
    (cond (starts 9 (content r)) (wrong r.line why.Tab) (wrong r.line why.Indent)))
at_row i w rows r below e = lines_filled i w rows ∙ ap (scalar_lines i w) e ∙ rw (filled_head rows r below e) refl

lines_stop : (i w : ℕ) (rows : List Row) (r : Row) (below : List Row) → filled rows ≡ r ∷ below → row_indentation r ≤ i → scalar_lines i w rows ≡ Ok ([], r ∷ below)
lines_stop i w rows r below e le = at_row i w rows r below e ∙ rw (le-leb _ _ le) refl

err_either : (b : Bool) (r : Row) → starts 9 (content r) ≡ b → cond b (wrong {A = List (List ℕ) × List Row} r.line why.Tab) (wrong r.line why.Indent) ≡ Err (shallow r)
err_either true r e = rw e refl
err_either false r e = rw e refl

lines_shallow : (i w : ℕ) (rows : List Row) (r : Row) (below : List Row) → filled rows ≡ r ∷ below → i < row_indentation r → row_indentation r < w → scalar_lines i w rows ≡ Err (shallow r)
lines_shallow i w rows r below e lt less = at_row i w rows r below e ∙ rw (lt-leb _ _ lt, lt-leb _ _ less) (err_either (starts 9 (content r)) r refl)

lines_more : (i w : ℕ) (rows : List Row) (r : Row) (below : List Row) → filled rows ≡ r ∷ below → i < row_indentation r → w ≤ row_indentation r
    → scalar_lines i w rows ≡ with_line (drop w r.bytes) (scalar_lines i w below)
lines_more i w rows r below e lt le = at_row i w rows r below e ∙ rw (lt-leb _ _ lt, le-leb _ _ le) refl

lines_end : (i w : ℕ) (rows : List Row) → filled rows ≡ [] → scalar_lines i w rows ≡ Ok ([], [])
lines_end i w rows e = lines_filled i w rows ∙ ap (scalar_lines i w) e

ok_text : (text : List ℕ) (rows : List Row) → Text
ok_text text rows = Ok (text, rows)

added_none : (b : ℕ) (text : List ℕ) (rows : List Row) → added b text (Ok ([], rows)) ≡ Ok (text, rows)
added_none b text rows = ap (λ (t : List ℕ). Ok (t, rows)) (append-nil text)

pub added_end : (b i w : ℕ) (text : List ℕ) (rows : List Row) → filled rows ≡ [] → added b text (scalar_lines i w rows) ≡ Ok (text, [])
added_end b i w text rows e = ap (added b text) (lines_end i w rows e) ∙ added_none b text []

pub added_stop : (b i w : ℕ) (text : List ℕ) (rows : List Row) (r : Row) (below : List Row) → filled rows ≡ r ∷ below → row_indentation r ≤ i → added b text (scalar_lines i w rows) ≡ Ok (text, r ∷ below)
added_stop b i w text rows r below e le = ap (added b text) (lines_stop i w rows r below e le) ∙ added_none b text (r ∷ below)

pub added_shallow : (b i w : ℕ) (text : List ℕ) (rows : List Row) (r : Row) (below : List Row) → filled rows ≡ r ∷ below → i < row_indentation r → row_indentation r < w
    → added b text (scalar_lines i w rows) ≡ Err (shallow r)
added_shallow b i w text rows r below e lt less = ap (added b text) (lines_shallow i w rows r below e lt less)

regroup : (b : ℕ) (text line : List ℕ) (lines : Lines) → added b (text ++ b ∷ [] ++ line) lines ≡ added b text (with_line line lines)
regroup b text line (Ok r) = ap (λ (t : List ℕ). Ok (t, r.1)) (append_assoc (text ++ b ∷ []) line (each_behind b r.0) ∙ append_assoc text (b ∷ []) (line ++ each_behind b r.0))
regroup b text line (Err e) = refl

pub added_more : (b i w : ℕ) (text next : List ℕ) (rows : List Row) (r : Row) (below : List Row) → filled rows ≡ r ∷ below → i < row_indentation r → w ≤ row_indentation r
    → next ≡ text ++ b ∷ [] ++ drop w r.bytes → added b next (scalar_lines i w below) ≡ added b text (scalar_lines i w rows)
added_more b i w text next rows r below e lt le is =
    ap (λ (t : List ℕ). added b t (scalar_lines i w below)) is ∙ regroup b text (drop w r.bytes) (scalar_lines i w below) ∙ ap (added b text) (sym (lines_more i w rows r below e lt le))

joined_cons : (b : ℕ) (line : List ℕ) (lines : List (List ℕ)) → joined b (line ∷ lines) ≡ line ++ each_behind b lines
joined_cons b line [] = sym (append-nil line)
joined_cons b line (next ∷ lines) = ap (λ (t : List ℕ). line ++ b ∷ t) (joined_cons b next lines)

joined_line : (b : ℕ) (line : List ℕ) (lines : Lines) → joined_in b (with_line line lines) ≡ added b line lines
joined_line b line (Ok r) = ap (λ (t : List ℕ). Ok (t, r.1)) (joined_cons b line r.0)
joined_line b line (Err e) = refl

pub joined_end : (b i : ℕ) (rows : List Row) → filled rows ≡ [] → joined_in b (scalar_lines i (width_of rows) rows) ≡ Ok ([], [])
joined_end b i rows e = ap (joined_in b) (lines_end i (width_of rows) rows e)

pub joined_stop : (b i : ℕ) (rows : List Row) (r : Row) (below : List Row) → filled rows ≡ r ∷ below → row_indentation r ≤ i → joined_in b (scalar_lines i (width_of rows) rows) ≡ Ok ([], r ∷ below)
joined_stop b i rows r below e le = ap (joined_in b) (lines_stop i (width_of rows) rows r below e le)

width_first : (rows : List Row) (r : Row) (below : List Row) → filled rows ≡ r ∷ below → width_of rows ≡ row_indentation r
width_first rows r below e = width_filled rows ∙ ap width_of e ∙ rw (filled_head rows r below e) refl

pub joined_more : (b i : ℕ) (text : List ℕ) (rows : List Row) (r : Row) (below : List Row) → filled rows ≡ r ∷ below → i < row_indentation r → text ≡ drop (row_indentation r) r.bytes
    → joined_in b (scalar_lines i (width_of rows) rows) ≡ added b text (scalar_lines i (row_indentation r) below)
joined_more b i text rows r below e lt is =
    ap (λ (w : ℕ). joined_in b (scalar_lines i w rows)) (width_first rows r below e)
    ∙ ap (joined_in b) (lines_more i (row_indentation r) rows r below e lt (omega arith))
    ∙ joined_line b (drop (row_indentation r) r.bytes) (scalar_lines i (row_indentation r) below)
    ∙ ap (λ (t : List ℕ). added b t (scalar_lines i (row_indentation r) below)) (sym is)
