use Rattle.std.proofs.Common.{◌≡◌, ◌≤◌, ◌++◌, map, drop, vec_len}
use Rattle.std.specs.Option.{ForSome}
use Rattle.semver.specs.Identifiers.{parts_of}
use Rattle.pn_fs.specs.Seen.{Keeps, GaveAtMost}
use Rattle.pn_published.specs.Versions.{AreParsed}
use Rattle.pn_published.specs.Folders.{versions_at}
use Rattle.pn_published.proofs.entries.versions_at.Given as goal

-- what is left leads from what was found to the whole
abbrev pub invariant-loop-name : goal.invariant-loop-name
invariant-loop-name g l = record {
  kept : Keeps (g.R.ReadFs.seen l.fn.registry) (g.R.ReadFs.seen l.registry);
  gave : ForSome (g.R.ReadFs.seen l.fn.registry).tree (λ t. GaveAtMost (g.R.ReadFs.seen l.fn.registry) 0 0 (g.R.ReadFs.seen l.registry));
  parsed : AreParsed (map parts_of l.found.items);
  few : vec_len l.found ≤ l.name-index;
  leads : ForSome (g.R.ReadFs.seen l.fn.registry).tree (λ t. map parts_of l.found.items ++ versions_at t l.folder (drop l.name-index l.names) ≡ versions_at t l.folder l.names);
}
