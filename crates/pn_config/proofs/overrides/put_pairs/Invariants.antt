use Rattle.std.proofs.Common.{◌≡◌, drop}
use Rattle.pn_config.specs.Files.{put_pairs}
use Rattle.pn_config.proofs.overrides.put_pairs.Given as goal

abbrev pub invariant-loop-selector : goal.invariant-loop-selector
invariant-loop-selector l = put_pairs (drop l.selector-index l.pairs) l.all.entries ≡ put_pairs l.pairs l.fn.all.entries
