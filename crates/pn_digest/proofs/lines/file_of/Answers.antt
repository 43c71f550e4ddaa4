use Rattle.pn_digest.specs.Lines.{IsFileLine, IsPathText}
use Rattle.std.proofs.lemmas.Result.{err_from_is_err_and}
use Rattle.pn_digest.proofs.HasPartsLemmas.{no_parts, no_digits, its_path}
use Rattle.pn_digest.proofs.IsPathTextLemmas.{unless_from}
use Rattle.pn_digest.proofs.lines.file_of.Goals as goal

pub returns-in_default-clause-refused : goal.returns-in_default-clause-refused
returns-in_default-clause-refused c = no_parts c.args.line.now c.in_default.ensures

pub returns-in_default-from_hex-clause-refused : goal.returns-in_default-from_hex-clause-refused
returns-in_default-from_hex-clause-refused c = no_digits c.args.line.now c.in-Some.digits.now c.in-Some.path.now c.in-Some.ensures c.in_default-from_hex.ensures.exact

pub returns-in_err-path-clause-refused : goal.returns-in_err-path-clause-refused
returns-in_err-path-clause-refused c =
    let p = err_from_is_err_and c.from_residual.result c.from_residual.ensures.1 in
    rw (p.1, p.2) (unless_from (IsFileLine c.args.line.now) (IsPathText c.in-Some.path.now) c.in_err-path.field-0.0 (its_path c.args.line.now c.in-Some.digits.now c.in-Some.path.now c.in-Some.ensures) c.in_err-path.ensures.refused)
