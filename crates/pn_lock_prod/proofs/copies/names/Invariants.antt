use Rattle.std.proofs.Common.{◌≡◌, take}
use Rattle.pn_lock_prod.proofs.copies.names.Given as goal

abbrev pub invariant-loop-name : goal.invariant-loop-name
invariant-loop-name l = l.all ≡ take l.name-index l.these
