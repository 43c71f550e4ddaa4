use Rattle.std.proofs.Common.{◌∙◌, ap}
use Rattle.std.specs.Prelude.{is_some, map}
use Rattle.pn_lock_shape.proofs.PlaceLemmas.{placed_in}
use Rattle.pn_lock_shape.proofs.keyed.has_key.Goals as goal

pub returns : goal.returns
returns g c = c.is_some.ensures ∙ ap is_some c.place.ensures.place ∙ placed_in c.args.key.now (map g.K.Keyed.key c.args.list.now)
