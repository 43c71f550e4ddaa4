use Rattle.std.proofs.Common.{◌≡◌, ◌≤◌, ◌-◌, ◌+◌, Some}
use Rattle.pn_text.specs.declared.limits.TheConstants.{FILE_LIMIT}
use Rattle.pn_fs.specs.Tree.{file}
use Rattle.pn_storecore.specs.declared.step.Place.TheVariants.{Files}
use Rattle.pn_store.proofs.ReadsLemmas.{IsReading}
use Rattle.pn_repair.specs.Writes.{WroteAt, HasAt, ReadsStore}
use Rattle.pn_repair.proofs.stored.fill.Given as goal

-- the first bytes are read, hashed and added
abbrev pub invariant-pieces : goal.invariant-pieces
invariant-pieces g l =
    let tree = g.P.ReadFs.seen in
    let store = g.D.StoreDisk.seen in
    record {
      reading : IsReading Files l.digest l.at l.hasher (store l.fn.disk) (store l.disk);
      has : HasAt l.path (λ o. o ≡ Some (file reading.bytes)) (tree l.fs).tree;
      within : l.at ≤ FILE_LIMIT;
      wrote : WroteAt l.path (tree l.fn.fs) (tree l.fs);
      reads : ReadsStore (store l.fn.disk) (store l.disk);
    }

abbrev pub decreases-pieces : goal.decreases-pieces
decreases-pieces g l = FILE_LIMIT + 1 - l.at
