-- Two proofs that worlds are equal are one.
use Rattle.std.proofs.Props.{props}
use Rattle.pn_storecore.specs.World.{Temp, World}

pub Temp-set : IsSet Temp
Temp-set = hlevel props

pub World-set : IsSet World
World-set = hlevel (props, Temp-set)
