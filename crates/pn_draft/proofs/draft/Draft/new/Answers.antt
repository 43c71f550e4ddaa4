use Rattle.std.proofs.Common.{◌∙◌, ap, sym, subst, List}
use Rattle.pn_text.specs.Path.{Path}
use Rattle.pn_draft.specs.Drawing.{bare, AreApart}
use Rattle.pn_draft.specs.Sheets.{sheet, IsBare}
use Rattle.pn_draft.proofs.Drawings.{starts_bare, empty_sheet, first_whole, first_drawn}
use Rattle.pn_draft.proofs.draft.Draft.new.Goals as goal

pub mark_tops-requires : goal.mark_tops-requires
mark_tops-requires c = starts_bare _ (empty_sheet c.new-marks.result c.new-marks.ensures.empty)

pub invariant_of-result : goal.invariant_of-result
invariant_of-result c =
    first_whole _ _ (subst AreApart (sym c.in_ok-own.ensures.items) c.requires) (subst (λ (l : List Path). IsBare l (sheet c.mark_tops.new.marks)) (sym c.in_ok-own.ensures.items) c.in_ok-own.ensures.bare)

pub returns-clause-drawn : goal.returns-clause-drawn
returns-clause-drawn c = λ q.
    first_drawn c.in_ok-own.own.items c.mark_tops.new.marks (subst (λ (l : List Path). IsBare l (sheet c.mark_tops.new.marks)) (sym c.in_ok-own.ensures.items) c.in_ok-own.ensures.bare) q
    ∙ ap (λ l. bare l q) c.in_ok-own.ensures.items
