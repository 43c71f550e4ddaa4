use Rattle.std.proofs.Common.{◌≡◌, ◌++◌, drop}
use Rattle.pn_lock_shape.specs.Reading.{all_entries}
use Rattle.pn_lock_shape.proofs.catalogs.all_entries.Given as goal

-- the entries so far, and those that are left
abbrev pub invariant-loop-catalog : goal.invariant-loop-catalog
invariant-loop-catalog l = l.all ++ all_entries (drop l.catalog-index l.catalogs) ≡ all_entries l.fn.catalogs
