use Rattle.std.proofs.Common.{◌≡◌, ◌++◌, drop}
use Rattle.pn_locking.specs.Integrities.{digests_of}
use Rattle.pn_locking.proofs.locks.digests_of.Given as goal

abbrev pub invariant-loop-listing : goal.invariant-loop-listing
invariant-loop-listing l = l.all.items ++ digests_of (drop l.listing-index l.listings) ≡ digests_of l.listings
