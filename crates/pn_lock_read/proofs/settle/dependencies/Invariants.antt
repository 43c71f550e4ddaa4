use Rattle.std.proofs.Common.{◌≡◌, drop}
use Rattle.pn_lock_shape.specs.Kept.{folders_in, paths_in}
use Rattle.pn_lock_read.specs.Settling.{all_of, settled_dependency}
use Rattle.pn_lock_read.proofs.AllLemmas.{and_more}
use Rattle.pn_lock_read.proofs.settle.dependencies.Given as goal

-- what is left leads from what was looked up to the whole
abbrev pub invariant-loop-draft : goal.invariant-loop-draft
invariant-loop-draft l = and_more l.all (all_of (settled_dependency (folders_in l.importers) (paths_in l.snapshots) l.from) (drop l.draft-index l.drafts))
    ≡ all_of (settled_dependency (folders_in l.fn.importers) (paths_in l.fn.snapshots) l.fn.from) l.fn.drafts
