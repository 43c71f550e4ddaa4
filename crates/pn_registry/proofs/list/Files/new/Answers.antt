use Rattle.std.proofs.Common.{subst, sym, map}
use Rattle.pn_registry.specs.Files.{IsRising}
use Rattle.pn_registry.specs.Listed.{file_of}
use Rattle.pn_registry.proofs.Orders.{rising_nil}
use Rattle.pn_registry.proofs.list.Files.new.Goals as goal

pub invariant_of-result : goal.invariant_of-result
invariant_of-result c = subst (λ items. IsRising (map file_of items)) (sym c.new.ensures.items) rising_nil
