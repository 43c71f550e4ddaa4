use Rattle.std.proofs.Common.{◌≡◌, drop}
use Rattle.std.specs.List.{list_any}
use Rattle.pn_workspace.specs.Stores.{is_in_way}
use Rattle.pn_workspace.proofs.store.some_in_way.Given as goal

abbrev pub invariant-loop-project : goal.invariant-loop-project
invariant-loop-project l = list_any (is_in_way l.is_default l.store) (drop l.project-index l.projects) ≡ list_any (is_in_way l.is_default l.store) l.projects
