use Rattle.std.proofs.Common.{◌≡◌, drop}
use Rattle.pn_lock.specs.Locks.{ids_of}
use Rattle.pn_lock_shape.specs.Kept.{folders_in, paths_in}
use Rattle.pn_lock_read.specs.Settling.{all_of, settled_snapshot}
use Rattle.pn_lock_read.proofs.AllLemmas.{and_more}
use Rattle.pn_lock_read.proofs.settle.snapshots.Given as goal

-- what is left leads from what was looked up to the whole
abbrev pub invariant-loop-draft : goal.invariant-loop-draft
invariant-loop-draft l = and_more l.all (all_of (settled_snapshot (folders_in l.importers) (ids_of l.packages) (paths_in l.drafts)) (drop l.draft-index l.drafts))
    ≡ all_of (settled_snapshot (folders_in l.fn.importers) (ids_of l.fn.packages) (paths_in l.fn.drafts)) l.fn.drafts
