use Rattle.std.proofs.Common.{◌≡◌, drop}
use Rattle.pn_asked.specs.Spots.{fits_at, least_spot, spots_in}
use Rattle.pn_asked.proofs.catalogs.worst_named.Given as goal

-- what is left leads from what was found to the whole
abbrev pub invariant-loop-dependency : goal.invariant-loop-dependency
invariant-loop-dependency l = least_spot (fits_at l.locked l.asked) l.best (spots_in (drop l.dependency-index l.dependencies)) ≡ least_spot (fits_at l.fn.locked l.fn.asked) l.fn.found (spots_in l.fn.dependencies)
