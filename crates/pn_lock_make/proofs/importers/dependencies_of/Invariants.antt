use Rattle.std.proofs.Common.{◌≡◌, ◌++◌, drop}
use Rattle.pn_lock_make.specs.Importers.{dependencies_of}
use Rattle.pn_lock_make.specs.Names.{AreNamed}
use Rattle.pn_lock_make.proofs.importers.dependencies_of.Given as goal

-- what is left completes what was found
abbrev pub invariant-loop-name : goal.invariant-loop-name
invariant-loop-name l = record {
  made : l.found ++ dependencies_of l.ranks l.links (drop l.name-index l.rows) ≡ dependencies_of l.ranks l.links l.rows;
  named : AreNamed l.found;
}
