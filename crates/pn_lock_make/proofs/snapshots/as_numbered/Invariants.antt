use Rattle.std.proofs.Common.{◌≡◌, ◌++◌, drop}
use Rattle.std.specs.List.{All}
use Rattle.pn_lock_make.specs.Snapshots.{snapshots_from}
use Rattle.pn_lock_make.specs.Names.{IsNamedSnapshot}
use Rattle.pn_lock_make.proofs.snapshots.as_numbered.Given as goal

-- what is left completes what was made
abbrev pub invariant-loop-n : goal.invariant-loop-n
invariant-loop-n l = record {
  made : l.all.items ++ snapshots_from l.plain.packages l.instances.packages l.instances.links l.ranks l.passed l.n (drop l.n l.paths)
      ≡ snapshots_from l.plain.packages l.instances.packages l.instances.links l.ranks l.passed 0 l.paths;
  named : All IsNamedSnapshot l.all.items;
}
