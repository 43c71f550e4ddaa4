use Rattle.std.proofs.Common.{◌∙◌, Some, None, ap, sym, arith}
use Rattle.std.proofs.lemmas.Str.Pattern.{strip_suffix_char}
use Rattle.pn_yaml.specs.Cursor.{without_return}
use Rattle.pn_yaml.proofs.LineEnds.{without_return-none, without_return-push}
use Rattle.pn_yaml.proofs.rows.unreturned.Goals as goal

pub returns-in-None : goal.returns-in-None
returns-in-None c = sym (without_return-none c.args.line.now (strip_suffix_char 13 c.args.line.now None c.in-None.ensures.cases (omega arith)))

pub returns-in-Some : goal.returns-in-Some
returns-in-Some c =
    let e = strip_suffix_char 13 c.args.line.now (Some c.in-Some.rest) c.in-Some.ensures.cases (omega arith) in
    sym (ap without_return e ∙ without_return-push c.in-Some.rest.now)
