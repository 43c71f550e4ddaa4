use Rattle.std.proofs.Common.{◌≡◌, ◌++◌, drop}
use Rattle.pn_lock_prod.specs.Targets.{link_targets}
use Rattle.pn_lock_prod.proofs.walk.push_links.Given as goal

abbrev pub invariant-loop-link : goal.invariant-loop-link
invariant-loop-link l = l.row.items ++ link_targets (drop l.link-index l.links) ≡ l.fn.row.items ++ link_targets l.links
