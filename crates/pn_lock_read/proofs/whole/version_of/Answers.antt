use Rattle.std.proofs.Common.{ap, sym, ◌∙◌}
use Rattle.std.specs.Prelude.{codes}
use Rattle.pn_yaml.specs.View.{view}
use Rattle.pn_yaml.proofs.NodeViews.{view-Map}
use Rattle.pn_lock_shape.specs.Bare.{bare, tree_members}
use Rattle.pn_lock_shape.specs.Shapes.{get}
use Rattle.pn_lock_read.specs.LockTexts.{version_in, version_of}
use Rattle.pn_lock_read.proofs.whole.version_of.Goals as goal

pub returns-in-Map : goal.returns-in-Map
returns-in-Map c =
    c.version_in.ensures ∙ ap (λ ms. version_in (get (codes "lockfileVersion") (tree_members ms))) c.as_slice.ensures
    ∙ sym (ap (λ n. version_of (bare (view n))) c.in-Map.is ∙ ap (λ d. version_of (bare d)) (view-Map c.in-Map.members))
