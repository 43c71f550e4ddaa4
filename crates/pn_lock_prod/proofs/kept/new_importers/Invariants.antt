use Rattle.std.proofs.Common.{◌≡◌, map, take}
use Rattle.pn_lock_prod.specs.Kept.{new_importer}
use Rattle.pn_lock_prod.proofs.kept.new_importers.Given as goal

abbrev pub invariant-loop-old : goal.invariant-loop-old
invariant-loop-old l = l.all ≡ map (new_importer l.numbers) (take l.old-index l.these)
