use Rattle.std.proofs.Common.{◌≤◌, ◌-◌}
use Rattle.std.specs.Prelude.{min}
use Rattle.std.specs.Option.{ForSome}
use Rattle.pn_fs.specs.Seen.{Keeps, GaveAtMost}
use Rattle.pn_storecore.specs.declared.step.Place.TheVariants.{Files}
use Rattle.pn_storecore.specs.Grew.{Grew}
use Rattle.pn_store.specs.Leaves.{LeavesAll}
use Rattle.pn_store.specs.Begins.{BeginsAt}
use Rattle.pn_store.specs.Puts.{file_length}
use Rattle.pn_store.proofs.ReadsLemmas.{IsReading}
use Rattle.pn_store.proofs.compare.compare.Given as goal

-- the first bytes are read, and are the source's or not
abbrev pub invariant-pieces : goal.invariant-pieces
invariant-pieces g l =
    let store = g.D.StoreDisk.seen in
    let source = g.R.ReadFs.seen in
    record {
      reading : IsReading Files l.at l.place l.hasher (store l.fn.disk) (store l.disk);
      begins : ForSome (source l.fn.from).tree (λ r. BeginsAt (r l.path) 0 reading.bytes l.same);
      within : l.place ≤ 268435456;
      kept : Keeps (source l.fn.from) (source l.from);
      gave : ForSome (source l.fn.from).tree (λ t. GaveAtMost (source l.fn.from) (min l.place (file_length (t l.path))) 0 (source l.from));
      left : LeavesAll (store l.fn.disk) (store l.disk);
      grew : Grew (store l.fn.disk) (store l.disk);
      later : (store l.fn.disk).faults ≤ (store l.disk).faults;
    }

abbrev pub decreases-pieces : goal.decreases-pieces
decreases-pieces g l = 268435457 - l.place
