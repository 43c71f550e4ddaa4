use Rattle.std.proofs.Common.{◌∷◌, ◌∙◌, ap, sym, take}
use Rattle.pn_text.specs.Path.{SpellsAbs}
use Rattle.pn_text.proofs.Joins.{before_slash, from_start, below_begins}
use Rattle.pn_draft.proofs.marks.parent.Goals as goal

pub last_slash-at-requires : goal.last_slash-at-requires
last_slash-at-requires c =
    let b = below_begins c.requires.0 c.requires.1 in
    (b.0, c.as_bytes.ensures.value ∙ c.requires.3 ∙ b.1)

pub returns-clause-parent : goal.returns-clause-parent
returns-clause-parent c = λ x p good e.
    let k = c.last_slash-at.result in
    let s : SpellsAbs c.as_bytes.result.now (x ∷ p) = record { good = good; spelled = c.as_bytes.ensures.value ∙ e } in
    c.range.ensures.value ∙ from_start c.args.text.now k ∙ ap (λ t. take k t) (sym c.as_bytes.ensures.value)
    ∙ before_slash c.as_bytes.result.now x p k s c.last_slash-at.ensures.within c.last_slash-at.ensures.slash c.last_slash-at.ensures.flat
