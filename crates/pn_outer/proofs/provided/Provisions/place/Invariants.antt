use Rattle.pn_outer.proofs.provided.Provisions.place.Given as goal

abbrev pub decreases-places : goal.decreases-places
decreases-places l = l.at
