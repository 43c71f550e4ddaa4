use Rattle.std.proofs.Common.{◌≡◌, ◌++◌, drop}
use Rattle.pn_lock_make.specs.Snapshots.{optional_links}
use Rattle.pn_lock_make.specs.Names.{AreNamedLinks}
use Rattle.pn_lock_make.proofs.snapshots.optional_links.Given as goal

-- what is left completes what was found
abbrev pub invariant-loop-link : goal.invariant-loop-link
invariant-loop-link l = record {
  made : l.found ++ optional_links l.ranks l.deps (drop l.link-index l.links) ≡ optional_links l.ranks l.deps l.links;
  named : AreNamedLinks l.found;
}
