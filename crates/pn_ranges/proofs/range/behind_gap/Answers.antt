use Rattle.std.proofs.Common.{sym, ◌∙◌}
use Rattle.pn_ranges.proofs.Spaced.{after-gap}
use Rattle.pn_ranges.proofs.range.behind_gap.Goals as goal

pub returns-then-starts_with_space-clause-goes : goal.returns-then-starts_with_space-clause-goes
returns-then-starts_with_space-clause-goes c = λ e. after-gap e c.args.text.now c.behind_spaces.result.now (sym c.starts_with_space.ensures ∙ c.if-starts_with_space.true) c.behind_spaces.ensures
