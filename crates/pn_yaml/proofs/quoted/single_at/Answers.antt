use Rattle.std.proofs.Common.{sym, ◌∙◌, refl}
use Rattle.pn_yaml.specs.Reading.{word_of}
use Rattle.pn_yaml.specs.Scalars.{single, quoted_at}
use Rattle.pn_yaml.proofs.Quotes.{single_closed, single_open, word_done}
use Rattle.pn_yaml.proofs.quoted.single_at.Goals as goal

pub returns-in_default : goal.returns-in_default
returns-in_default c = single_open c.args.line c.args.text.now c.parted.result.0.now c.parted.result.1.now c.parted.ensures c.in_default.ensures

pub returns : goal.returns
returns c = word_done (quoted_at c.args.line single c.args.text.now) (word_of c.in_ok-quoted.field-0) c.parted.result.0.now c.parted.result.0.now c.in-Some.after.now
    (single_closed c.args.line c.args.text.now c.parted.result.0.now c.parted.result.1.now c.in-Some.after.now c.parted.ensures c.in-Some.ensures (sym c.starts.ensures ∙ c.if-starts.false))
    c.in_ok-quoted.ensures refl
