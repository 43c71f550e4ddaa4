use Rattle.std.proofs.Common.{[], subst}
use Rattle.std.specs.Prelude.{codes}
use Rattle.pn_lock_shape.specs.Answers.{Reads}
use Rattle.pn_lock_shape.specs.Bare.{tree_members}
use Rattle.pn_lock_shape.specs.Reading.{links_from, links_in}
use Rattle.pn_lock_shape.specs.Shapes.{optional}
use Rattle.pn_lock_shape.proofs.snapshots.optional_dependencies.Goals as goal

pub returns : goal.returns
returns c =
    subst (λ ls. Reads c.optional_map.result (optional (codes "optionalDependencies") (links_from c.args.own.now (links_in ls)) [] (tree_members c.args.fields.now))) c.as_slice.ensures c.optional_map.ensures.read
