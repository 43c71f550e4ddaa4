use Rattle.std.proofs.Common.{◌≤◌, ◌-◌}
use Rattle.std.specs.Option.{ForSome}
use Rattle.pn_fs.specs.Seen.{Keeps, GaveAtMost}
use Rattle.pn_store.specs.Own.{PublishedNone}
use Rattle.pn_store.specs.Held.{Works}
use Rattle.pn_store.proofs.PutsLemmas.{IsFilling}
use Rattle.pn_store.proofs.files.fill.Given as goal

-- the first bytes are in the file and in the hasher
abbrev pub invariant-pieces : goal.invariant-pieces
invariant-pieces g l =
    let store = g.D.StoreDisk.seen in
    let source = g.R.ReadFs.seen in
    record {
      filling : IsFilling (source l.fn.from).tree l.path l.k l.at l.hasher (store l.disk);
      within : l.at ≤ 268435456;
      kept : Keeps (source l.fn.from) (source l.from);
      gave : ForSome (source l.fn.from).tree (λ t. GaveAtMost (source l.fn.from) l.at 0 (source l.from));
      unpublished : PublishedNone (store l.fn.disk) (store l.disk);
      works : Works l.k (store l.fn.disk) (store l.disk);
    }

abbrev pub decreases-pieces : goal.decreases-pieces
decreases-pieces g l = 268435457 - l.at
