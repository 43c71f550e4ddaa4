use Rattle.std.proofs.Common.{◌∙◌}
use Rattle.pn_registry.proofs.walk.behind.Goals as goal

pub returns-in-None : goal.returns-in-None
unfolding lib.Utf8.encode
returns-in-None c = absurd (c.in-None.ensures.cases c.requires.0 (c.split_at.ensures.back ∙ c.requires.1))
