use Rattle.std.proofs.Common.{◌≡◌, ◌≤◌, drop, length, true}
use Rattle.std.specs.Prelude.{IfSome}
use Rattle.std.specs.Option.{option_map}
use Rattle.pn_fs.specs.Seen.{GaveNothing}
use Rattle.pn_clear.specs.Items.{without, is_gone}
use Rattle.pn_clear.specs.Clearing.{Touched}
use Rattle.pn_clear.proofs.clearing.clear.Given as goal

-- the last entries are gone
abbrev pub invariant-entries : goal.invariant-entries
invariant-entries g l =
    let seen = g.P.ReadFs.seen in
    record {
      gone : (seen l.fs).tree ≡ option_map (without l.plan (drop l.left l.entries)) (seen l.fn.fs).tree;
      touched : IfSome (seen l.fn.fs).tree (λ t. Touched (λ p. is_gone l.plan l.entries p ≡ true) (seen l.fn.fs) (seen l.fs));
      gave : IfSome (seen l.fn.fs).tree (λ t. GaveNothing (seen l.fn.fs) (seen l.fs));
      within : l.left ≤ length l.entries;
      later : (seen l.fn.fs).faults ≤ (seen l.fs).faults;
    }

abbrev pub decreases-entries : goal.decreases-entries
decreases-entries g l = l.left
