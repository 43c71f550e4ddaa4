use Rattle.std.proofs.Common.{◌∙◌, ap, Some}
use Rattle.std.specs.Map.{update}
use Rattle.std.specs.Str.{bytes_eq}
use Rattle.std.specs.String.{string_bytes}
use Rattle.std.proofs.lemmas.Map.Text.{btree_map_updates_text}
use Rattle.pn_draft.specs.Sheets.{sheet}
use Rattle.pn_draft.proofs.marks.mark.Goals as goal

pub returns-clause-ok : goal.returns-clause-ok
returns-clause-ok c = λ cs.
    btree_map_updates_text (string_bytes c.in_ok-key.key) c.args.marks.now c.insert.new.self (Some c.args.what) c.in_ok-insert.ensures.updates cs
    ∙ ap (λ t. update bytes_eq (sheet c.args.marks.now) t (Some c.args.what) cs) c.in_ok-key.ensures.ok
