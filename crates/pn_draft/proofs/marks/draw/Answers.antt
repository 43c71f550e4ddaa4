use Rattle.std.proofs.Common.{[], ◌∙◌, refl}
use Rattle.pn_text.proofs.Results.{on_ok, on_err, any_err}
use Rattle.pn_draft.proofs.Drawn.{draws, draws_part}
use Rattle.pn_draft.proofs.marks.draw.Goals as goal

pub returns-in_err-mark_folders-clause-err : goal.returns-in_err-mark_folders-clause-err
returns-in_err-mark_folders-clause-err c =
    let e = c.in_err-mark_folders.ensures.err in
    any_err _ (draws_part _ _ c.args.text.now _ e.0 e.1 c.args.what c.in_ok-folders.ensures.climbs e.2 e.3)

pub returns-clause-ok : goal.returns-clause-ok
returns-clause-ok c =
    on_ok c.mark.result (λ last. draws _ _ _ c.args.text.now _ c.args.what c.in_ok-folders.ensures.climbs c.in_ok-mark_folders.ensures.ok last) c.mark.ensures.ok

pub returns-clause-err : goal.returns-clause-err
returns-clause-err c =
    on_err c.mark.result (λ same. draws_part _ _ c.args.text.now _ [] _ c.args.what c.in_ok-folders.ensures.climbs refl ((λ i cs. same cs i) ∙ c.in_ok-mark_folders.ensures.ok)) c.mark.ensures.err
