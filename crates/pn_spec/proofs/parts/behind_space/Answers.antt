use Rattle.pn_spec.proofs.Ends.{front-case}
use Rattle.pn_spec.proofs.parts.behind_space.Goals as goal

pub returns : goal.returns
returns c = front-case c.args.text.now c.strip_prefix-2.result c.in_default.ensures.cases c.strip_prefix-2.ensures.cases
