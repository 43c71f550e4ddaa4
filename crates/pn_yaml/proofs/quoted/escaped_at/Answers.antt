use Rattle.std.proofs.Common.{ℕ, List, ◌++◌, ◌∷◌, ◌≤◌, length, sym, ap, ◌∙◌, append_assoc, arith, rules}
use Rattle.std.specs.Prelude.{string_bytes, encode_utf8}
use Rattle.std.proofs.lemmas.List.{length-append}
use Rattle.std.proofs.lemmas.Result.{err_from_is_err_and}
use Rattle.pn_yaml.specs.Escapes.{escape_at}
use Rattle.pn_yaml.specs.Reading.{word_of}
use Rattle.pn_yaml.specs.Scalars.{double, quoted_at, with_bytes}
use Rattle.pn_yaml.proofs.Failing.{fails_as}
use Rattle.pn_yaml.proofs.Quotes.{Read, double_closed, double_open, read_start, with_more, word_done}
use Rattle.pn_yaml.proofs.Escaping.{double_fails, double_more}
use Rattle.pn_yaml.proofs.Shrinking.{escape_within, within_ok}
use Rattle.pn_yaml.proofs.quoted.escaped_at.Goals as goal

pub escapes-init : goal.escapes-init
escapes-init c = record { utf8 = c.utf8.text; so_far = read_start c.args.line double c.args.text.now (string_bytes c.new-read.result) c.new-read.ensures.bytes }

pub returns-in-Some : goal.returns-in-Some
returns-in-Some c =
    let front = c.parted.result.0.now in
    word_done (quoted_at c.args.line double c.args.text.now) (word_of c.in_ok-quoted.field-0) c.as_str.result.now (string_bytes c.escapes.read ++ front) c.in-Some.after.now
    (c.escapes.invariant.so_far
    ∙ ap (λ (r : Read). with_bytes (string_bytes c.escapes.read) r)
    (double_closed c.args.line c.escapes.rest.now front c.parted.result.1.now c.in-Some.after.now c.parted.ensures c.in-Some.ensures))
    c.in_ok-quoted.ensures (c.as_str.ensures.value ∙ c.in_ok-push_str.ensures.bytes)

pub returns-in_default-behind : goal.returns-in_default-behind
returns-in_default-behind c =
    c.escapes.invariant.so_far
    ∙ ap (λ (r : Read). with_bytes (string_bytes c.escapes.read) r)
    (double_open c.args.line c.escapes.rest.now c.parted.result.0.now c.parted.result.1.now c.parted.ensures c.in_default.ensures c.in_default-behind.ensures)

pub returns-in_err-c : goal.returns-in_err-c
returns-in_err-c c =
    let p = err_from_is_err_and c.from_residual-in_err-c.result c.from_residual-in_err-c.ensures.1 in
    let e = c.in_err-c.field-0.0 in
    rw (p.1, p.2) (fails_as e (escape_at c.args.line c.in-Some-behind.after.now) (quoted_at c.args.line double c.args.text.now)
    (λ f. c.escapes.invariant.so_far
    ∙ ap (λ (r : Read). with_bytes (string_bytes c.escapes.read) r)
    (double_fails c.args.line c.escapes.rest.now c.parted.result.0.now c.parted.result.1.now c.in-Some-behind.after.now e c.parted.ensures c.in-Some-behind.ensures f))
    c.in_err-c.ensures)

pub escapes-smaller : goal.escapes-smaller
escapes-smaller c =
    let front = c.parted.result.0.now in
    let after = c.in-Some-behind.after.now in
    let left : length c.in_ok-c.more.now ≤ length after = within_ok (length after) (escape_at c.args.line after) c.in_ok-c.c c.in_ok-c.more.now (escape_within c.args.line after) c.in_ok-c.ensures in
    let whole = ap (λ (t : List ℕ). length t) (c.parted.ensures.whole ∙ ap (λ (r : List ℕ). front ++ r) c.in-Some-behind.ensures) in
    omega (arith, whole, left, length-append front (92 ∷ after))

pub escapes-preserved : goal.escapes-preserved
escapes-preserved c =
    let front = c.parted.result.0.now in
    let read = string_bytes c.escapes.read in
    let rest = quoted_at c.args.line double c.in_ok-c.more.now in
    record {
      utf8 = search rules;
      so_far = c.escapes.invariant.so_far
          ∙ ap (λ (r : Read). with_bytes read r)
          (double_more c.args.line c.escapes.rest.now front c.parted.result.1.now c.in-Some-behind.after.now c.in_ok-c.more.now c.in_ok-c.c c.parted.ensures c.in-Some-behind.ensures c.in_ok-c.ensures)
          ∙ with_more read (front ++ encode_utf8 c.in_ok-c.c) rest
          ∙ ap (λ (b : List ℕ). with_bytes b rest)
          (sym (c.in_ok-push.ensures.bytes ∙ ap (λ (b : List ℕ). b ++ encode_utf8 c.in_ok-c.c) c.in_ok-push_str.ensures.bytes ∙ append_assoc read front (encode_utf8 c.in_ok-c.c)));
    }
