use Rattle.std.proofs.Common.{refl}
use Rattle.pn_yaml.specs.Reading.{word_of}
use Rattle.pn_yaml.specs.Scalars.{double, quoted_at}
use Rattle.pn_yaml.proofs.Quotes.{double_closed, word_done}
use Rattle.pn_yaml.proofs.quoted.double_at.Goals as goal

pub returns-in_ok-quoted-in-Some : goal.returns-in_ok-quoted-in-Some
returns-in_ok-quoted-in-Some c = word_done (quoted_at c.args.line double c.args.text.now) (word_of c.in_ok-quoted-in-Some.field-0) c.parted.result.0.now c.parted.result.0.now c.in-Some.after.now
    (double_closed c.args.line c.args.text.now c.parted.result.0.now c.parted.result.1.now c.in-Some.after.now c.parted.ensures c.in-Some.ensures)
    c.in_ok-quoted-in-Some.ensures refl
