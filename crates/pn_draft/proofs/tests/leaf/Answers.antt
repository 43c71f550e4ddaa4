use Rattle.std.proofs.Common.{◌∙◌, ap, sym}
use Rattle.pn_draft.specs.Drawing.{is_inside}
use Rattle.pn_draft.proofs.TopLemmas.{member_inside}
use Rattle.pn_draft.proofs.tests.leaf.Goals as goal

pub add-requires-clause-inside : goal.add-requires-clause-inside
add-requires-clause-inside c =
    ap (λ l. is_inside l c.index-folders-at.result) c.requires.tops
    ∙ member_inside c.args.folders.now c.index-folders-at.result (c.args.at, c.requires.within, sym c.index-folders-at.is)
