use Rattle.std.proofs.Common.{◌≡◌, ◌≤◌, length, true}
use Rattle.pn_glob.specs.Gaps.{any_later, matches}
use Rattle.pn_glob.specs.Matching.{byte_rules}
use Rattle.pn_glob.proofs.bytes.prefix.Given as goal

abbrev pub invariant-bytes : goal.invariant-bytes
invariant-bytes l = record {
  value : matches (byte_rules l.fn.kind) l.fn.pattern l.fn.text ≡ matches (byte_rules l.fn.kind) l.left l.rest;
  first : any_later (λ b. true) (matches (byte_rules l.fn.kind) l.fn.pattern) l.fn.text ≡ true
      → any_later (λ b. true) (matches (byte_rules l.fn.kind) l.left) l.rest ≡ true;
  shorter : length l.left ≤ length l.fn.pattern;
}

abbrev pub decreases-bytes : goal.decreases-bytes
decreases-bytes l = length l.left
