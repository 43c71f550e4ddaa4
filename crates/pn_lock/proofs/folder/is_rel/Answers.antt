use Rattle.std.proofs.Common.{◌∙◌}
use Rattle.pn_text.proofs.Results.{if_ok}
use Rattle.pn_lock.proofs.FolderLemmas.{not_rel}
use Rattle.pn_lock.proofs.folder.is_rel.Goals as goal

pub returns-in-Err : goal.returns-in-Err
returns-in-Err c = if_ok c.refused.result (λ is h. h.0 ∙ not_rel c.args.text.now c.in-Err.fault c.utf8.text c.in-Err.ensures.fault h.1) c.refused.ensures
