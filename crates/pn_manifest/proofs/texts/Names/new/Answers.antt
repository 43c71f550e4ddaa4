use Rattle.std.proofs.Common.{subst, sym}
use Rattle.pn_manifest.specs.Said.{AreRising}
use Rattle.pn_manifest.proofs.Rising.{rising_nil}
use Rattle.pn_manifest.proofs.texts.Names.new.Goals as goal

pub invariant_of-result : goal.invariant_of-result
invariant_of-result c = subst (λ items. AreRising items) (sym c.new.ensures.items) rising_nil
