use Rattle.std.proofs.Common.{◌≡◌, drop}
use Rattle.pn_spec.specs.Entries.{spec_at}
use Rattle.pn_spec.proofs.catalogs.find.Given as goal

-- what is left finds what the whole finds
abbrev pub invariant-loop-entry : goal.invariant-loop-entry
invariant-loop-entry l = spec_at l.catalog l.name (drop l.entry-index l.items) ≡ spec_at l.catalog l.name l.items
