use Rattle.std.proofs.Common.{◌≡◌, ◌++◌, drop}
use Rattle.std.specs.List.{All}
use Rattle.pn_lock_make.specs.Importers.{importers_from}
use Rattle.pn_lock_make.specs.Names.{IsNamedImporter}
use Rattle.pn_lock_make.proofs.importers.importers.Given as goal

-- what is left completes what was made
abbrev pub invariant-loop-n : goal.invariant-loop-n
invariant-loop-n l = record {
  made : l.all ++ importers_from l.ranks l.roots l.n (drop l.n l.projects) ≡ importers_from l.ranks l.roots 0 l.projects;
  named : All IsNamedImporter l.all;
}
