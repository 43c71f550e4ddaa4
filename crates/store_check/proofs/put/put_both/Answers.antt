use Rattle.std.proofs.Common.{List, ℕ, subst, sym}
use Rattle.pn_storecore.specs.declared.step.Place.TheVariants.{Files}
use Rattle.pn_storecore.specs.Held.{HasObject}
use Rattle.store_check.proofs.put.put_both.Goals as goal

pub put_listing-requires-clause-named : goal.put_listing-requires-clause-named
put_listing-requires-clause-named g c e inside =
    subst (λ (d : List ℕ). HasObject (g.D.StoreDisk.seen c.put_file.new.disk) Files d) (sym (c.in_ok-listing.ensures e inside)) c.in-Ok.ensures.put.stands
