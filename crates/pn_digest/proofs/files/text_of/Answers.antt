use Rattle.pn_digest.proofs.IsRelPathLemmas.{is_rel}
use Rattle.pn_digest.proofs.files.text_of.Goals as goal

pub returns-clause-path : goal.returns-clause-path
returns-clause-path c = is_rel c.as_str.result.now _ c.as_str.ensures.text c.as_str.ensures.short c.as_str.utf8
