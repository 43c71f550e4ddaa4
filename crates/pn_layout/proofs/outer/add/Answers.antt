use Rattle.std.proofs.Common.{[], ap, ◌∙◌}
use Rattle.pn_draft.specs.Drawing.{is_inside}
use Rattle.pn_layout.proofs.OuterLemmas.{inside_top}
use Rattle.pn_layout.proofs.outer.add.Goals as goal

pub add-requires-clause-inside : goal.add-requires-clause-inside
add-requires-clause-inside c = ap (λ t. is_inside t c.args.modules.now) c.requires.tops ∙ inside_top [] c.args.modules.now
