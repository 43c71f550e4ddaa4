use Rattle.std.proofs.Common.{ℕ, List, ◌++◌, ◌∷◌, [], sym, ap, ◌∙◌, append_assoc, rules}
use Rattle.std.specs.Prelude.{string_bytes}
use Rattle.pn_yaml.specs.Reading.{word_of}
use Rattle.pn_yaml.specs.Scalars.{single, quoted_at, with_bytes}
use Rattle.pn_yaml.proofs.Quotes.{Read, read_start, single_closed, single_more, single_open, with_more, word_done}
use Rattle.pn_yaml.proofs.quoted.doubled_at.Goals as goal

pub quotes-init : goal.quotes-init
quotes-init c = record { utf8 = c.utf8.text; so_far = read_start c.args.line single c.args.text.now (string_bytes c.new-read.result) c.new-read.ensures.bytes }

pub returns-in_default : goal.returns-in_default
returns-in_default c =
    c.quotes.invariant.so_far
    ∙ ap (λ (r : Read). with_bytes (string_bytes c.quotes.read) r)
    (single_open c.args.line c.quotes.rest.now c.parted.result.0.now c.parted.result.1.now c.parted.ensures c.in_default.ensures)

pub returns-in_default-behind : goal.returns-in_default-behind
returns-in_default-behind c =
    let front = c.parted.result.0.now in
    word_done (quoted_at c.args.line single c.args.text.now) (word_of c.in_ok-quoted.field-0) c.as_str.result.now (string_bytes c.quotes.read ++ front) c.in-Some.after.now
    (c.quotes.invariant.so_far
    ∙ ap (λ (r : Read). with_bytes (string_bytes c.quotes.read) r)
    (single_closed c.args.line c.quotes.rest.now front c.parted.result.1.now c.in-Some.after.now c.parted.ensures c.in-Some.ensures c.in_default-behind.ensures))
    c.in_ok-quoted.ensures (c.as_str.ensures.value ∙ c.in_ok-push_str.ensures.bytes)

pub quotes-preserved : goal.quotes-preserved
quotes-preserved c =
    let front = c.parted.result.0.now in
    let read = string_bytes c.quotes.read in
    record {
      utf8 = search rules;
      so_far = c.quotes.invariant.so_far
          ∙ ap (λ (r : Read). with_bytes read r)
          (single_more c.args.line c.quotes.rest.now front c.parted.result.1.now c.in-Some.after.now c.in-Some-behind.more.now c.parted.ensures c.in-Some.ensures c.in-Some-behind.ensures)
          ∙ with_more read (front ++ 39 ∷ []) (quoted_at c.args.line single c.in-Some-behind.more.now)
          ∙ ap (λ (b : List ℕ). with_bytes b (quoted_at c.args.line single c.in-Some-behind.more.now))
          (sym (c.in_ok-push_str-2.ensures.bytes ∙ ap (λ (b : List ℕ). b ++ 39 ∷ []) c.in_ok-push_str.ensures.bytes ∙ append_assoc read front (39 ∷ [])));
    }
