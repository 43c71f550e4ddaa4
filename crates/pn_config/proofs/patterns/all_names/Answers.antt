use Rattle.std.proofs.Common.{rules}
use Rattle.pn_config.proofs.PatternLemmas.{star_is}
use Rattle.pn_config.proofs.patterns.all_names.Goals as goal

pub returns-in-Ok : goal.returns-in-Ok
returns-in-Ok c = star_is c.as_slice.result.now c.in-Ok.patterns (search rules) c.in-Ok.ensures.ok
