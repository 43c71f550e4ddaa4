use Rattle.std.proofs.Common.{◌≤◌, ◌+◌, ◌-◌, ◌*◌, vec_len}
use Rattle.std.specs.Option.{ForSome}
use Rattle.pn_fs.specs.Seen.{Keeps, GaveAtMost}
use Rattle.pn_text.specs.declared.limits.TheConstants.{ENTRY_LIMIT}
use Rattle.pn_scan.proofs.WalksLemmas.{WalksTo}
use Rattle.pn_scan.proofs.walk.walk.Given as goal

abbrev pub invariant-folders : goal.invariant-folders
invariant-folders g l = record {
  kept : Keeps (g.P.ReadFs.seen l.fn.fs) (g.P.ReadFs.seen l.fs);
  gave : ForSome (g.P.ReadFs.seen l.fn.fs).tree (λ t. GaveAtMost (g.P.ReadFs.seen l.fn.fs) 0 l.listed (g.P.ReadFs.seen l.fs));
  within : l.listed ≤ ENTRY_LIMIT;
  walks : ForSome (g.P.ReadFs.seen l.fn.fs).tree (λ t. WalksTo t l.managed l.fn.ours.standing.items l.todo.items l.found.items l.listed);
}

abbrev pub decreases-folders : goal.decreases-folders
decreases-folders g l = 2 * (ENTRY_LIMIT + 1 - l.listed) + vec_len l.todo
