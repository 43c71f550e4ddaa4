use Rattle.pn_shape.proofs.ShapeLawLemmas.{shape}
use Rattle.pn_shape.proofs.laws.shape_law.Goals as goal

pub returns : goal.returns
returns c = shape
