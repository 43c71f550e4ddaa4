use Rattle.std.proofs.Common.{◌≡◌, length}
use Rattle.pn_lock_shape.specs.Keys.{rising}
use Rattle.pn_lock_shape.proofs.names.rises.Given as goal

-- all rise where those that are left do
abbrev pub invariant-names : goal.invariant-names
invariant-names l = rising l.left ≡ rising l.fn.names

abbrev pub decreases-names : goal.decreases-names
decreases-names l = length l.left
