use Rattle.std.proofs.Common.{◌∙◌, ap, sym}
use lib.Utf8.{encode}
use Rattle.pn_yaml.specs.Rows.{unmarked}
use Rattle.pn_yaml.proofs.LineEnds.{unmarked-none}
use Rattle.pn_yaml.proofs.rows.unmarked.Goals as goal

pub returns-in-None-clause-text : goal.returns-in-None-clause-text
unfolding encode
returns-in-None-clause-text c = sym (unmarked-none c.args.text.now c.in-None.ensures.cases)

pub returns-in-Some-clause-text : goal.returns-in-Some-clause-text
unfolding encode
returns-in-Some-clause-text c = let h = c.in-Some.ensures.cases in h.2 ∙ sym (ap unmarked h.1.split)
