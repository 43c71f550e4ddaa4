use Rattle.pn_spec.proofs.Ends.{end-case}
use Rattle.pn_spec.proofs.parts.before_space.Goals as goal

pub returns : goal.returns
returns c = end-case c.args.text.now c.strip_suffix-2.result c.in_default.ensures.cases c.strip_suffix-2.ensures.cases
