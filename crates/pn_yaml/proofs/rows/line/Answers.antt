use Rattle.std.proofs.Common.{◌∙◌, ap, drop}
use Rattle.pn_yaml.proofs.Indentations.{drop_indentation}
use Rattle.pn_yaml.proofs.rows.line.Goals as goal

pub invariant_of-result-clause-rest : goal.invariant_of-result-clause-rest
invariant_of-result-clause-rest c = c.behind_spaces.ensures ∙ ap (λ n. drop n c.args.text.now) c.indentation-indent.ensures ∙ drop_indentation c.args.text.now
