use Rattle.std.proofs.Common.{◌≡◌, drop}
use Rattle.std.specs.Prelude.{codes}
use Rattle.pn_lock_shape.specs.Bare.{tree_members}
use Rattle.pn_lock_shape.specs.Shapes.{get}
use Rattle.pn_lock_read.specs.LockTexts.{version_in}
use Rattle.pn_lock_read.proofs.whole.version_in.Given as goal

-- the key is looked for among those that are left
abbrev pub invariant-loop-name : goal.invariant-loop-name
invariant-loop-name l = version_in (get (codes "lockfileVersion") (tree_members (drop l.name-index l.members))) ≡ version_in (get (codes "lockfileVersion") (tree_members l.fn.members))
