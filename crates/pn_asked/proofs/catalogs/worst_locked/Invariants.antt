use Rattle.std.proofs.Common.{◌≡◌, drop}
use Rattle.std.specs.Prelude.{None}
use Rattle.pn_asked.specs.Spots.{fits_at, least_spot, locked_spots}
use Rattle.pn_asked.proofs.catalogs.worst_locked.Given as goal

-- what is left leads from what was found to the whole
abbrev pub invariant-loop-entry : goal.invariant-loop-entry
invariant-loop-entry l = least_spot (fits_at l.locked l.asked) l.best (locked_spots (drop l.entry-index l.locked)) ≡ least_spot (fits_at l.fn.locked l.fn.asked) None (locked_spots l.fn.locked)
