use Rattle.pn_spec.proofs.Puts.{none-kept}
use Rattle.pn_spec.proofs.catalogs.Catalogs.new.Goals as goal

pub invariant_of-result : goal.invariant_of-result
invariant_of-result c = none-kept c.new.result.items c.new.ensures.items
