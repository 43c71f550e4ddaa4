use Rattle.std.proofs.Common.{◌≤◌}
use Rattle.pn_storecore.specs.Grew.{Grew}
use Rattle.pn_store.specs.Claims.{AreTaken, OnlyClaims}
use Rattle.pn_store.proofs.claims.claim.Given as goal

-- the numbers so far are taken
abbrev pub invariant-numbers : goal.invariant-numbers
invariant-numbers g l =
    let seen = g.D.StoreDisk.seen in
    record {
      taken : AreTaken l.k (seen l.fn.disk) (seen l.disk);
      only : OnlyClaims (seen l.fn.disk) (seen l.disk);
      grew : Grew (seen l.fn.disk) (seen l.disk);
      later : (seen l.fn.disk).faults ≤ (seen l.disk).faults;
    }
