use Rattle.std.proofs.Common.{subst, sym, map}
use Rattle.pn_manifest.specs.Pairs.{IsRising}
use Rattle.pn_manifest.specs.Listed.{entry_pair}
use Rattle.pn_manifest.proofs.Rising.{rising_nil}
use Rattle.pn_manifest.proofs.texts.Entries.new.Goals as goal

pub invariant_of-result : goal.invariant_of-result
invariant_of-result c = subst (λ items. IsRising (map entry_pair items)) (sym c.new.ensures.items) rising_nil
