use Rattle.std.proofs.Common.{◌∙◌}
use Rattle.pn_text.proofs.Paths.{same_tails}
use Rattle.pn_text.proofs.order.RelPathPartialEq.eq.Goals as goal

pub returns : goal.returns
returns c = c.eq.ensures ∙ same_tails _ _ _ _ c.as_str.ensures.text c.as_str-2.ensures.text
