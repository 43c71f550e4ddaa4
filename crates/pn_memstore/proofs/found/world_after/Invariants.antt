use Rattle.std.proofs.Common.{◌≡◌, take}
use Rattle.pn_storecore.specs.Steps.{world_of}
use Rattle.pn_memstore.specs.Kept.{world_in}
use Rattle.pn_memstore.proofs.found.world_after.Given as goal

-- the world that the first steps made
abbrev pub invariant-steps : goal.invariant-steps
invariant-steps l = world_of (take l.who-index l.steps) ≡ world_in l.world
