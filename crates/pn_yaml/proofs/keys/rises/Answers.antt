use Rattle.std.proofs.Common.{sym, ap, ◌∙◌}
use Rattle.std.specs.Ordering.{is_lt}
use Rattle.pn_yaml.proofs.KeyLists.{last_rises}
use Rattle.pn_yaml.proofs.keys.rises.Goals as goal

pub returns-in-Some : goal.returns-in-Some
returns-in-Some c = c.is_lt.ensures ∙ ap is_lt c.byte_cmp.ensures ∙ sym (last_rises c.args.members.now c.in-Some.field-0.now c.args.key.now c.in-Some.ensures.value)
