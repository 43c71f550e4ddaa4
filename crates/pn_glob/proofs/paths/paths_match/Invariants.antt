use Rattle.std.proofs.Common.{◌≡◌, length, true}
use Rattle.pn_glob.specs.Bytes.{parts}
use Rattle.pn_glob.specs.Gaps.{matches}
use Rattle.pn_glob.specs.Matching.{part_rules}
use Rattle.pn_glob.specs.WhatIsLeft.{at_gap, left_of}
use Rattle.pn_glob.proofs.paths.paths_match.Given as goal

abbrev pub invariant-gaps : goal.invariant-gaps
invariant-gaps l = record {
  value : matches part_rules (parts l.fn.pattern) (parts l.fn.path) ≡ matches part_rules (left_of l.left) (left_of l.rest);
  gap : at_gap part_rules (left_of l.left) (left_of l.rest) ≡ true;
}

abbrev pub decreases-gaps : goal.decreases-gaps
decreases-gaps l = length (left_of l.left)
