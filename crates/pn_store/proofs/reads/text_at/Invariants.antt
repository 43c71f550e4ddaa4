use Rattle.std.proofs.Common.{◌≡◌, ◌≤◌, ◌-◌, vec_len, length}
use Rattle.pn_storecore.specs.declared.step.Place.TheVariants.{Listings}
use Rattle.pn_storecore.specs.Grew.{Grew}
use Rattle.pn_store.specs.Leaves.{LeavesAll}
use Rattle.pn_store.proofs.ReadsLemmas.{Reading}
use Rattle.pn_store.proofs.reads.text_at.Given as goal

-- the first bytes are read
abbrev pub invariant-pieces : goal.invariant-pieces
invariant-pieces g l =
    let store = g.D.StoreDisk.seen in
    record {
      size : vec_len l.all ≡ length l.all.items;
      reading : Reading Listings l.at l.all.items (vec_len l.all) (store l.fn.disk) (store l.disk);
      left : LeavesAll (store l.fn.disk) (store l.disk);
      grew : Grew (store l.fn.disk) (store l.disk);
      later : (store l.fn.disk).faults ≤ (store l.disk).faults;
    }

abbrev pub decreases-pieces : goal.decreases-pieces
decreases-pieces g l = 18446744073709551616 - vec_len l.all
