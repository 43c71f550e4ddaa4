use Rattle.std.proofs.Common.{◌≡◌, length}
use Rattle.pn_yaml.specs.View.{members_view}
use Rattle.pn_lock.specs.Locks.{groups_of}
use Rattle.pn_lock_print.specs.LockData.{groups_members}
use Rattle.pn_lock_print.specs.Members.{joined}
use Rattle.pn_lock_print.proofs.catalogs.groups.Given as goal

abbrev pub invariant-catalogs : goal.invariant-catalogs
invariant-catalogs l = joined (members_view l.members) (groups_members (groups_of l.rest)) ≡ groups_members (groups_of l.fn.lock.catalogs)

abbrev pub decreases-catalogs : goal.decreases-catalogs
decreases-catalogs l = length l.rest
