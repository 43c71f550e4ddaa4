use Rattle.std.proofs.Common.{ℕ, ◌<◌, slice_index_or}
use Rattle.pn_digest.specs.Listing.{Entry}
use Rattle.pn_storecore.specs.World.{Stands}
use Rattle.pn_memstore.specs.Kept.{objects_in}
use Rattle.pn_memstore.proofs.conditions.all_stand.Given as goal

abbrev pub invariant-loop-digest : goal.invariant-loop-digest
invariant-loop-digest l = (k : ℕ) (d : Entry) → k < l.digest-index → Stands (objects_in l.files) (slice_index_or l.listing k d).1
