use Rattle.std.proofs.Common.{◌≡◌, length, true}
use Rattle.pn_glob.specs.Gaps.{any_rest, matches}
use Rattle.pn_glob.specs.Matching.{byte_rules}
use Rattle.pn_glob.proofs.bytes.search.Given as goal

abbrev pub invariant-places : goal.invariant-places
invariant-places l =
    any_rest (λ b. true) (matches (byte_rules l.fn.kind) l.fn.pattern) l.fn.text ≡ any_rest (λ b. true) (matches (byte_rules l.fn.kind) l.fn.pattern) l.rest

abbrev pub decreases-places : goal.decreases-places
decreases-places l = length l.rest
