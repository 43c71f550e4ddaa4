use Rattle.std.proofs.Common.{◌≡◌, ◌++◌, drop}
use Rattle.std.specs.List.{All}
use Rattle.pn_lock_make.specs.Packages.{packages_from}
use Rattle.pn_lock_make.specs.Names.{IsNamedPackage}
use Rattle.pn_lock_make.proofs.packages.as_met.Given as goal

-- what is left completes what was made
abbrev pub invariant-loop-n : goal.invariant-loop-n
invariant-loop-n l = record {
  made : l.all.items ++ packages_from l.integrities l.n (drop l.n l.packages) ≡ packages_from l.integrities 0 l.packages;
  named : All IsNamedPackage l.all.items;
}
