use Rattle.std.proofs.Common.{sym, ◌∙◌}
use Rattle.std.proofs.lemmas.Result.{err_from_is_err_and}
use Rattle.pn_text.proofs.Paths.{some_left}
use Rattle.pn_digest.specs.Lines.{AreFileLines, BeginsWithFile}
use Rattle.pn_digest.proofs.ListingTextLemmas.{lines_left, reading_more}
use Rattle.pn_digest.proofs.IsPathTextLemmas.{unless_from}
use Rattle.pn_digest.proofs.lines.files_of.Goals as goal

pub returns-in_err-rest-clause-refused : goal.returns-in_err-rest-clause-refused
returns-in_err-rest-clause-refused c =
    let p = err_from_is_err_and c.from_residual.result c.from_residual.ensures.1 in
    let some = some_left c.lines.rest.now (sym c.is_empty.ensures ∙ c.lines-test.true) in
    rw (p.1, p.2) (unless_from (AreFileLines c.args.bytes.now) (BeginsWithFile c.lines.rest.now) c.in_err-rest.field-0.0 (lines_left c.args.bytes.now c.lines.rest.now c.lines.files.items c.lines.invariant some) c.in_err-rest.ensures.refused)

pub lines-preserved : goal.lines-preserved
lines-preserved c = reading_more c.args.bytes.now c.lines.rest.now c.in_ok-rest.rest.now c.lines.files.items c.take_line.new.files.items c.lines.invariant c.in_ok-rest.ensures.taken
