use Rattle.std.proofs.Common.{◌≡◌, ◌-◌}
use Rattle.pn_text.specs.Relative.{above}
use Rattle.pn_config.proofs.folder.climb.Given as goal

abbrev pub invariant-loop : goal.invariant-loop
invariant-loop l = above (l.ups - l.counter) l.at ≡ above l.ups l.fn.from
