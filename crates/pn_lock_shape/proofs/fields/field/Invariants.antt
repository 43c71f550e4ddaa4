use Rattle.std.proofs.Common.{◌≡◌, drop}
use Rattle.pn_lock_shape.specs.Bare.{tree_members}
use Rattle.pn_lock_shape.specs.Shapes.{get}
use Rattle.pn_lock_shape.proofs.fields.field.Given as goal

-- the key is looked for among those that are left
abbrev pub invariant-loop-name : goal.invariant-loop-name
invariant-loop-name l = get l.key (tree_members (drop l.name-index l.members)) ≡ get l.fn.key (tree_members l.fn.members)
