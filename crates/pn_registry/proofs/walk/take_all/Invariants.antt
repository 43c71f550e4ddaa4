use Rattle.std.proofs.Common.{◌≤◌, ◌+◌, vec_len, map, drop}
use Rattle.std.specs.List.{All}
use Rattle.std.specs.Option.{ForSome}
use Rattle.pn_fs.specs.Seen.{Keeps, GaveAtMost}
use Rattle.pn_registry.specs.Below.{AllWithin}
use Rattle.pn_registry.specs.Listed.{placed, IsFitFile}
use Rattle.pn_registry.proofs.Leads.{Leads}
use Rattle.pn_registry.proofs.walk.take_all.Given as goal

abbrev pub invariant-loop-name : goal.invariant-loop-name
invariant-loop-name g l = record {
  kept : Keeps (g.R.ReadFs.seen l.fn.registry) (g.R.ReadFs.seen l.registry);
  all_within : AllWithin l.at l.todo.items;
  fit : All (IsFitFile l.at) l.found.items;
  gave : ForSome (g.R.ReadFs.seen l.fn.registry).tree (λ t. GaveAtMost (g.R.ReadFs.seen l.fn.registry) 0 0 (g.R.ReadFs.seen l.registry));
  grows : vec_len l.todo ≤ vec_len l.fn.todo + l.name-index;
  leads : ForSome (g.R.ReadFs.seen l.fn.registry).tree (λ t. Leads t l.at l.parent (drop l.name-index l.names) l.names l.fn.todo.items l.todo.items (map (placed l.at) l.fn.found.items) (map (placed l.at) l.found.items));
}
