use Rattle.std.proofs.Common.{◌≡◌, ◌++◌, drop}
use Rattle.pn_lock_make.specs.Packages.{optional_names}
use Rattle.pn_lock_make.specs.Names.{AreNames}
use Rattle.pn_lock_make.proofs.packages.optional_names.Given as goal

-- what is left completes what was found
abbrev pub invariant-loop-peer : goal.invariant-loop-peer
invariant-loop-peer l = record {
  made : l.names ++ optional_names (drop l.peer-index l.peers) ≡ optional_names l.peers;
  named : AreNames l.names;
}
