use Rattle.pn_digest.proofs.IsPathTextLemmas.{not_utf8, refused_path}
use Rattle.pn_digest.proofs.IsRelPathLemmas.{is_rel}
use Rattle.pn_digest.proofs.lines.path_of.Goals as goal

pub returns-in_default-clause-refused : goal.returns-in_default-clause-refused
returns-in_default-clause-refused c = not_utf8 c.args.bytes.now c.in_default.ensures.cases.0

pub returns-in-Ok-read-clause-path : goal.returns-in-Ok-read-clause-path
returns-in-Ok-read-clause-path c = is_rel c.as_str.result.now c.in-Ok-read.path c.as_str.ensures.text c.as_str.ensures.short c.as_str.utf8

pub returns-in-Err-clause-refused : goal.returns-in-Err-clause-refused
returns-in-Err-clause-refused c = refused_path c.args.bytes.now c.in-Ok.text.now c.in-Err.fault _ c.in-Ok.ensures.cases.0 c.line_fault.ensures c.in-Err.ensures.fault
