use Rattle.std.proofs.Common.{◌≡◌, drop}
use Rattle.pn_lock_make.specs.Entries.{used_at}
use Rattle.pn_lock_make.proofs.catalogs.used_at.Given as goal

abbrev pub invariant-loop-one : goal.invariant-loop-one
invariant-loop-one l = used_at l.catalog l.name (drop l.one-index l.uses) ≡ used_at l.catalog l.name l.uses
