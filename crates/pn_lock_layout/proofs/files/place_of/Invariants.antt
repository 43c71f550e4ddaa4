use Rattle.std.proofs.Common.{◌≡◌, drop}
use Rattle.pn_lock.specs.Locks.{ids_of, place_of}
use Rattle.pn_lock_layout.proofs.PlaceLemmas.{after}
use Rattle.pn_lock_layout.proofs.files.place_of.Given as goal

-- what is left decides
abbrev pub invariant-loop-n : goal.invariant-loop-n
invariant-loop-n l = place_of l.id (ids_of l.packages) ≡ after l.n (place_of l.id (ids_of (drop l.n l.packages)))
