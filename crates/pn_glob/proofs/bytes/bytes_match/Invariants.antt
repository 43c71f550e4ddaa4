use Rattle.std.proofs.Common.{◌≡◌, length, true}
use Rattle.pn_glob.specs.Gaps.{matches}
use Rattle.pn_glob.specs.Matching.{byte_rules}
use Rattle.pn_glob.specs.WhatIsLeft.{at_gap}
use Rattle.pn_glob.proofs.bytes.bytes_match.Given as goal

abbrev pub invariant-gaps : goal.invariant-gaps
invariant-gaps l = record {
  value : matches (byte_rules l.fn.kind) l.fn.pattern l.fn.text ≡ matches (byte_rules l.fn.kind) l.left l.rest;
  gap : at_gap (byte_rules l.fn.kind) l.left l.rest ≡ true;
}

abbrev pub decreases-gaps : goal.decreases-gaps
decreases-gaps l = length l.left
