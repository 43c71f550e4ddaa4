use Rattle.std.proofs.Common.{◌≤◌, ◌-◌, length, take}
use Rattle.std.specs.Option.{ForSome}
use Rattle.pn_fs.specs.Seen.{Keeps, GaveAtMost}
use Rattle.pn_fs.proofs.PieceLemmas.{IsFront}
use Rattle.pn_repair.proofs.text.has_text.Given as goal

-- the file begins with the text's first bytes
abbrev pub invariant-pieces : goal.invariant-pieces
invariant-pieces g l =
    let tree = g.P.ReadFs.seen in
    record {
      front : ForSome (tree l.fn.fs).tree (λ t. IsFront (t l.path) (take l.at l.text) l.at);
      within : l.at ≤ length l.text;
      kept : Keeps (tree l.fn.fs) (tree l.fs);
      gave : ForSome (tree l.fn.fs).tree (λ t. GaveAtMost (tree l.fn.fs) l.at 0 (tree l.fs));
    }

abbrev pub decreases-pieces : goal.decreases-pieces
decreases-pieces g l = length l.text - l.at
