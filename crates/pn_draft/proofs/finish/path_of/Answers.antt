use Rattle.std.proofs.Common.{◌∙◌, sym}
use Rattle.pn_text.proofs.Paths.{some_left}
use Rattle.pn_draft.proofs.BadPartLemmas.{filled_spells, reads_below}
use Rattle.pn_draft.proofs.finish.path_of.Goals as goal

pub returns-clause-ok : goal.returns-clause-ok
returns-clause-ok c =
    reads_below c.args.text.now c.requires.0 c.read-2.result
    (filled_spells c.args.text.now c.requires.0 c.requires.1 c.requires.2 (some_left _ (sym c.is_empty.ensures ∙ c.if-is_empty.false)))
    c.requires.2 c.read-2.ensures.ok
