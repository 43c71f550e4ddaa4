use Rattle.std.proofs.Common.{◌≤◌, ◌-◌, ◌+◌}
use Rattle.std.specs.Option.{ForSome}
use Rattle.pn_text.specs.declared.limits.TheConstants.{FILE_LIMIT}
use Rattle.pn_fs.specs.Seen.{Keeps, GaveAtMost}
use Rattle.pn_repair.proofs.FrontLemmas.{IsHashed}
use Rattle.pn_repair.proofs.stored.has_digest.Given as goal

-- the first bytes of the file are hashed
abbrev pub invariant-pieces : goal.invariant-pieces
invariant-pieces g l =
    let tree = g.P.ReadFs.seen in
    record {
      hashed : IsHashed (tree l.fn.fs).tree l.path l.hasher l.at;
      within : l.at ≤ FILE_LIMIT;
      kept : Keeps (tree l.fn.fs) (tree l.fs);
      gave : ForSome (tree l.fn.fs).tree (λ t. GaveAtMost (tree l.fn.fs) l.at 0 (tree l.fs));
    }

abbrev pub decreases-pieces : goal.decreases-pieces
decreases-pieces g l = FILE_LIMIT + 1 - l.at
