use Rattle.std.proofs.Common.{◌≤◌, ◌+◌, ◌-◌, ◌*◌, vec_len, map}
use Rattle.std.specs.List.{All}
use Rattle.std.specs.Option.{ForSome}
use Rattle.pn_fs.specs.Seen.{Keeps, GaveAtMost}
use Rattle.pn_registry.specs.Below.{AllWithin}
use Rattle.pn_registry.specs.Listed.{placed, IsFitFile}
use Rattle.pn_registry.proofs.Walks.{Walks}
use Rattle.pn_registry.proofs.walk.walk.Given as goal

abbrev pub invariant-folders : goal.invariant-folders
invariant-folders g l = record {
  kept : Keeps (g.R.ReadFs.seen l.fn.registry) (g.R.ReadFs.seen l.registry);
  gave : ForSome (g.R.ReadFs.seen l.fn.registry).tree (λ t. GaveAtMost (g.R.ReadFs.seen l.fn.registry) 0 l.listed (g.R.ReadFs.seen l.registry));
  within : l.listed ≤ l.limit;
  all_within : AllWithin l.at l.todo.items;
  fit : All (IsFitFile l.at) l.found.items;
  walks : ForSome (g.R.ReadFs.seen l.fn.registry).tree (λ t. Walks t l.at l.todo.items (map (placed l.at) l.found.items) l.listed);
}

abbrev pub decreases-folders : goal.decreases-folders
decreases-folders g l = 2 * (l.limit + 1 - l.listed) + vec_len l.todo
