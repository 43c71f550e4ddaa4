use Rattle.std.proofs.Common.{ℕ, List, length}
use Rattle.pn_yaml.proofs.Plains.{PlainSoFar}
use Rattle.pn_yaml.proofs.plain.plain_end.Given as goal

abbrev pub invariant-bytes : goal.invariant-bytes
invariant-bytes l = (front : List ℕ) × PlainSoFar l.fn.place l.fn.text front l.rest

abbrev pub decreases-bytes : goal.decreases-bytes
decreases-bytes l = length l.rest
