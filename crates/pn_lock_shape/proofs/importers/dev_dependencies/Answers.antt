use Rattle.std.proofs.Common.{[], subst}
use Rattle.std.specs.Prelude.{codes}
use Rattle.pn_lock_shape.specs.Answers.{Reads}
use Rattle.pn_lock_shape.specs.Bare.{tree_members}
use Rattle.pn_lock_shape.specs.Reading.{aliases_in, dependencies_in}
use Rattle.pn_lock_shape.specs.Shapes.{optional}
use Rattle.pn_lock_shape.proofs.importers.dev_dependencies.Goals as goal

pub returns-clause-read : goal.returns-clause-read
returns-clause-read c =
    subst (λ ds. Reads c.optional_map.result (optional (codes "devDependencies") (dependencies_in c.args.base.now (aliases_in ds)) [] (tree_members c.args.fields.now))) c.as_slice.ensures c.optional_map.ensures.read
