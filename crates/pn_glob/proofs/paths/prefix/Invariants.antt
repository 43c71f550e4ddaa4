use Rattle.std.proofs.Common.{◌≡◌, ◌≤◌, length, true}
use Rattle.std.specs.Prelude.{not}
use Rattle.pn_glob.specs.Bytes.{is_hidden}
use Rattle.pn_glob.specs.Gaps.{any_later, matches}
use Rattle.pn_glob.specs.Matching.{part_rules}
use Rattle.pn_glob.specs.WhatIsLeft.{left_of}
use Rattle.pn_glob.proofs.paths.prefix.Given as goal

abbrev pub invariant-parts : goal.invariant-parts
invariant-parts l = record {
  value : matches part_rules (left_of l.fn.pattern) (left_of l.fn.path) ≡ matches part_rules (left_of l.left) (left_of l.rest);
  first : any_later (λ y. not (is_hidden y)) (matches part_rules (left_of l.fn.pattern)) (left_of l.fn.path) ≡ true
      → any_later (λ y. not (is_hidden y)) (matches part_rules (left_of l.left)) (left_of l.rest) ≡ true;
  shorter : length (left_of l.left) ≤ length (left_of l.fn.pattern);
}

abbrev pub decreases-parts : goal.decreases-parts
decreases-parts l = length (left_of l.left)
