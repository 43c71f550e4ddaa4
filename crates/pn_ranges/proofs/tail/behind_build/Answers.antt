use Rattle.pn_ranges.proofs.Tails.{absent-build, some-build}
use Rattle.pn_ranges.proofs.tail.behind_build.Goals as goal

pub returns-in_default-clause-read : goal.returns-in_default-clause-read
returns-in_default-clause-read c = absent-build _

pub returns-then-b-ne43-clause-read : goal.returns-then-b-ne43-clause-read
returns-then-b-ne43-clause-read c = absent-build _

pub returns-clause-read : goal.returns-clause-read
returns-clause-read c = some-build _ _ _ _ c.in-Some.ensures c.if-b-ne43.false c.in_ok-rest.ensures.read
