use Rattle.std.proofs.Common.{◌≡◌, drop}
use Rattle.pn_asked.specs.Spots.{fits_at, least_spot, spots_of, worst_spot}
use Rattle.pn_asked.proofs.catalogs.worst_spot.Given as goal

-- what is left leads from what was found to the whole
abbrev pub invariant-loop-importer : goal.invariant-loop-importer
invariant-loop-importer l = least_spot (fits_at l.locked l.asked) l.best (spots_of (drop l.importer-index l.importers)) ≡ worst_spot l.fn.locked l.fn.importers l.fn.asked
