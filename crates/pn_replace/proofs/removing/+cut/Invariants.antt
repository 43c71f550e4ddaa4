use Rattle.std.proofs.Common.{◌≡◌, ◌≤◌, ◌-◌, None, length, drop}
use Rattle.std.specs.Option.{ForSome}
use Rattle.pn_replace.proofs.RemovesLemmas.{Cutting}
use Rattle.pn_replace.proofs.removing.+cut.Given as goal

-- a path of 4,096 bytes has no more parts
abbrev pub decreases-cut : goal.decreases-cut
decreases-cut g l = 4096 - length l.path.now

abbrev pub invariant-names : goal.invariant-names
invariant-names g l =
    let seen = g.P.ReadFs.seen in
    record {
      untold : (seen l.fn.fs).tree ≡ None → (seen l.fs).tree ≡ None;
      cutting : ForSome (seen l.fn.fs).tree (λ t. Cutting l.path (drop l.name-index l.name-items) t (seen l.fn.fs) (seen l.fs));
      later : (seen l.fn.fs).faults ≤ (seen l.fs).faults;
    }
