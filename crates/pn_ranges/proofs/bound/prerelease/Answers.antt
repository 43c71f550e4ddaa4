use Rattle.std.proofs.Common.{◌≡◌}
use Rattle.pn_ranges.proofs.Pres.{new-ok, new-err, pre-utf8}
use Rattle.pn_ranges.proofs.bound.prerelease.Goals as goal
use Rattle.pn_ranges.proofs.bound.prerelease.Goals.{in-Ok, in-Err}

same_text : (c : goal.After-new) → c.match-from_utf8.text.now ≡ c.args.bytes.now
same_text c = elim c.match-from_utf8.branch [
  | in-Ok w ↦ let t = w.text-is in let b = w.in-Ok.ensures.cases.0 in cc
  | in-Err w ↦ absurd (w.in-Err.ensures.cases.0 (pre-utf8 c.args.bytes.now c.requires))
]

pub returns-clause-ok : goal.returns-clause-ok
returns-clause-ok c = new-ok c.new.result c.match-from_utf8.text.now c.args.bytes.now (same_text c) c.requires c.new.ensures.ok

pub returns-clause-err : goal.returns-clause-err
returns-clause-err c = new-err c.new.result c.match-from_utf8.text.now c.args.bytes.now (same_text c) c.requires c.new.ensures.err
