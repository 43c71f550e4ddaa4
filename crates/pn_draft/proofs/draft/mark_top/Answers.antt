use Rattle.std.proofs.Common.{List, [], ◌∷◌, ◌++◌}
use Rattle.pn_text.specs.Path.{Path}
use Rattle.pn_draft.specs.Sheets.{sheet, IsBare}
use Rattle.pn_text.proofs.Results.{any_ok}
use Rattle.pn_draft.proofs.Drawings.{more_bare}
use Rattle.pn_draft.proofs.draft.mark_top.Goals as goal

pub returns-in-Ok-clause-bare : goal.returns-in-Ok-clause-bare
returns-in-Ok-clause-bare c =
    let bare : (tops : List Path) → IsBare tops (sheet c.args.marks.now) → IsBare (tops ++ c.args.top.now ∷ []) (sheet c.mark.new.marks) =
    λ tops h. more_bare tops _ _ c.args.top.now c.stem.result.now h c.stem.ensures.good c.stem.ensures.stem c.in-Ok.ensures.ok in
    any_ok c.copy.result bare
