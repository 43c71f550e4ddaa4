use Rattle.std.proofs.lemmas.Result.{err_from_is_err_and}
use Rattle.pn_digest.specs.Lines.{BeginsWithFile, IsFileLine}
use Rattle.pn_digest.proofs.ListingTextLemmas.{line_of_file}
use Rattle.pn_digest.proofs.IsPathTextLemmas.{unless_from}
use Rattle.pn_digest.proofs.lines.take_line.Goals as goal

pub returns-in_err-file-clause-refused : goal.returns-in_err-file-clause-refused
returns-in_err-file-clause-refused c =
    let p = err_from_is_err_and c.from_residual.result c.from_residual.ensures.1 in
    rw (p.1, p.2) (unless_from (BeginsWithFile c.args.bytes.now) (IsFileLine c.in-Some.line.now) c.in_err-file.field-0.0 (line_of_file c.args.bytes.now c.in-Some.line.now c.in-Some.rest.now c.in-Some.ensures) c.in_err-file.ensures.refused)
