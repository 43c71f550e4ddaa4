use Rattle.std.proofs.Common.{◌≡◌, length}
use Rattle.std.specs.Prelude.{not}
use Rattle.pn_glob.specs.Bytes.{is_hidden}
use Rattle.pn_glob.specs.Gaps.{any_rest, matches}
use Rattle.pn_glob.specs.Matching.{part_rules}
use Rattle.pn_glob.specs.WhatIsLeft.{left_of}
use Rattle.pn_glob.proofs.paths.search.Given as goal

abbrev pub invariant-places : goal.invariant-places
invariant-places l =
    any_rest (λ y. not (is_hidden y)) (matches part_rules (left_of l.fn.pattern)) (left_of l.fn.path)
    ≡ any_rest (λ y. not (is_hidden y)) (matches part_rules (left_of l.fn.pattern)) (left_of l.rest)

abbrev pub decreases-places : goal.decreases-places
decreases-places l = length (left_of l.rest)
