use Rattle.std.proofs.Common.{[], ◌++◌, subst}
use Rattle.std.specs.Prelude.{codes}
use Rattle.pn_lock_shape.specs.Answers.{Reads}
use Rattle.pn_lock_shape.specs.Bare.{tree_members}
use Rattle.pn_lock_shape.specs.Reading.{aliases_in, dependencies_in}
use Rattle.pn_lock_shape.specs.Shapes.{optional}
use Rattle.pn_lock_shape.proofs.importers.optional_dependencies.Goals as goal

pub returns : goal.returns
returns c =
    subst (λ dev. Reads c.optional_map.result (optional (codes "optionalDependencies") (dependencies_in c.args.base.now (aliases_in c.args.first.now ++ aliases_in dev)) [] (tree_members c.args.fields.now))) c.as_slice-dev.ensures
    (subst (λ ds. Reads c.optional_map.result (optional (codes "optionalDependencies") (dependencies_in c.args.base.now (aliases_in ds ++ aliases_in c.as_slice-dev.result.now)) [] (tree_members c.args.fields.now))) c.as_slice-first.ensures c.optional_map.ensures.read)
