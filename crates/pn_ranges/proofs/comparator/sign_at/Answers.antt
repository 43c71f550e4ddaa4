use Rattle.pn_ranges.specs.Grammar as g
use Rattle.pn_ranges.proofs.Comparisons.{no-sign, one-sign, two-signs}
use Rattle.pn_ranges.proofs.comparator.sign_at.Goals as goal

pub returns-in_default-clause-read : goal.returns-in_default-clause-read
returns-in_default-clause-read c = no-sign _

pub returns-in-Some-strip-clause-read : goal.returns-in-Some-strip-clause-read
returns-in-Some-strip-clause-read c = two-signs _ _ _ _ _ _ _ c.in-Some.ensures c.in-60.is c.in-Some-strip.ensures g.at_most

pub returns-in-None-clause-read : goal.returns-in-None-clause-read
returns-in-None-clause-read c = one-sign _ _ _ _ _ c.in-Some.ensures c.in-60.is g.less

pub returns-in-Some-strip-2-clause-read : goal.returns-in-Some-strip-2-clause-read
returns-in-Some-strip-2-clause-read c = two-signs _ _ _ _ _ _ _ c.in-Some.ensures c.in-62.is c.in-Some-strip-2.ensures g.at_least

pub returns-in-None-strip-clause-read : goal.returns-in-None-strip-clause-read
returns-in-None-strip-clause-read c = one-sign _ _ _ _ _ c.in-Some.ensures c.in-62.is g.greater

pub returns-in-Some-strip-3-clause-read : goal.returns-in-Some-strip-3-clause-read
returns-in-Some-strip-3-clause-read c = two-signs _ _ _ _ _ _ _ c.in-Some.ensures c.in-126.is c.in-Some-strip-3.ensures g.tilde_greater

pub returns-in-None-strip-2-clause-read : goal.returns-in-None-strip-2-clause-read
returns-in-None-strip-2-clause-read c = one-sign _ _ _ _ _ c.in-Some.ensures c.in-126.is g.tilde

pub returns-in-94-clause-read : goal.returns-in-94-clause-read
returns-in-94-clause-read c = one-sign _ _ _ _ _ c.in-Some.ensures c.in-94.is g.caret

pub returns-in-61-clause-read : goal.returns-in-61-clause-read
returns-in-61-clause-read c = one-sign _ _ _ _ _ c.in-Some.ensures c.in-61.is g.equal

pub returns-in_default-b-clause-read : goal.returns-in_default-b-clause-read
returns-in_default-b-clause-read c = no-sign _
