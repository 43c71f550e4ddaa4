use Rattle.std.proofs.Common.{◌≡◌, drop}
use Rattle.pn_lock.specs.Links.{link_goal}
use Rattle.pn_lock.proofs.lock.link_goal.Given as goal

-- the alias is looked for among those that are left
abbrev pub invariant-loop-link : goal.invariant-loop-link
invariant-loop-link l = link_goal l.alias (drop l.link-index l.links) ≡ link_goal l.fn.alias l.fn.links
