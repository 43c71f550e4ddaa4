use Rattle.std.proofs.Common.{◌≡◌, ◌++◌, drop}
use Rattle.pn_lock_make.specs.Entries.{entries_of}
use Rattle.pn_lock_make.specs.Names.{AreNamedEntries}
use Rattle.pn_lock_make.proofs.catalogs.entries_of.Given as goal

-- what is left completes what was found
abbrev pub invariant-loop-entry : goal.invariant-loop-entry
invariant-loop-entry l = record {
  made : l.found ++ entries_of l.uses (drop l.entry-index l.entries) ≡ entries_of l.uses l.entries;
  named : AreNamedEntries l.found;
}
